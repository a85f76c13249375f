use Rattle.std.proofs.Common.{◌≡◌, ◌∙◌, sym, length, arith, rules}
use Rattle.engine.specs.Permutation.{permutation}
use Rattle.vectors.proofs.Sponge.{sponge_turn, sponge_end, sponge_state-one, sponge_state-none}
use Rattle.vectors.proofs.published.absorb_all.Goals as goal

pub loop-rest-preserved : goal.loop-rest-preserved
loop-rest-preserved g c =
    let v = g.E.Engine.kind c.args.engine.now in
    let xs = c.loop-rest.rest.now in
    (sponge_turn v c.loop-rest.state c.absorb.new.state xs c.loop-rest.invariant.1 (sym c.in_ok-absorb.ensures.answer) c.absorb.ensures.state (omega arith) ∙ c.loop-rest.invariant.0, search rules)

pub returns-in-empty-clause-state : goal.returns-in-empty-clause-state
returns-in-empty-clause-state g c =
    let v = g.E.Engine.kind c.args.engine.now in
    let xs = c.loop-rest.rest.now in
    let none : length xs ≡ 0 = omega arith in
    sponge_end v c.loop-rest.state _ _ _ _ _ c.loop-rest.invariant.1 c.absorb-in-empty.ensures.answer c.absorb-in-empty.ensures.state
    (sponge_state-none (permutation v) c.loop-rest.state xs none ∙ c.loop-rest.invariant.0)

pub returns-in-len1-up-clause-state : goal.returns-in-len1-up-clause-state
returns-in-len1-up-clause-state g c =
    let v = g.E.Engine.kind c.args.engine.now in
    let xs = c.loop-rest.rest.now in
    let one : length xs ≡ 1 = omega arith in
    sponge_end v c.loop-rest.state _ _ _ _ _ c.loop-rest.invariant.1 c.absorb-in-len1-up.ensures.answer c.absorb-in-len1-up.ensures.state
    (sponge_state-one (permutation v) c.loop-rest.state xs one ∙ c.loop-rest.invariant.0)
