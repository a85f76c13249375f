use Rattle.std.proofs.Common.{◌≡◌, ℕ, ◌+◌, ◌-◌, ◌*◌, ◌++◌, take, Ok, Result, sym, ap, ap₂, ◌∙◌, subst, arith, rules}
use borrow.Rule.Slice.PartMut.{put_mid}
use Rattle.engine.specs.Permutation.{permutation}
use Rattle.engine.specs.declared.faults.EngineFault.{EngineFault}
use Rattle.vectors.specs.Published.{sponge_output, at_22_bytes}
use Rattle.vectors.proofs.Sponge.{one_answer_22, at_22_granted, sponge_output-turn, sponge_output-end, length-put}
use Rattle.vectors.proofs.published.squeeze.Goals as goal

pub loop-k-preserved : goal.loop-k-preserved
loop-k-preserved g c =
    let v = g.E.Engine.kind c.args.engine.now in
    let k = c.loop-k.k in
    let s = c.loop-k.state in
    let granted : (let r : Result (Unit {0}) EngineFault = Ok tt in at_22_bytes v tt ≡ r) = sym (one_answer_22 v s _ c.loop-k.invariant.1 c.in_ok-one.ensures.answer) in
    let two : 2 * k + 2 - 2 * k ≡ 2 = omega arith in
    let put = ap₂ (λ n ys. put_mid (2 * k) n c.loop-k.digest ys) two c.copy_from_slice.ensures.after in (
      sponge_output-turn v k s c.one.new.block c.loop-k.digest _ (omega arith) c.loop-k.invariant.1 (omega arith) granted c.one.ensures.block put ∙ c.loop-k.invariant.0,
      search rules,
      length-put c.loop-k.digest _ (2 * k) (2 * k + 2 - 2 * k) (search rules) (omega arith) ∙ c.loop-k.invariant.2,
      λ h. granted,
    )

pub returns : goal.returns
returns g c =
    let v = g.E.Engine.kind c.args.engine.now in
    let f = permutation v in
    let ten : c.loop-k.k ≡ 10 = omega arith in
    let P : ℕ → Type 0 = λ n. take (2 * n) c.loop-k.digest ++ sponge_output f (10 - n) c.loop-k.state ≡ sponge_output f 10 c.args.state.now in
    let digest = sponge_output-end f c.loop-k.state c.loop-k.digest _ c.loop-k.invariant.2 (subst P ten c.loop-k.invariant.0) in
    ap (λ d. Ok d) digest ∙ sym (at_22_granted v (sponge_output f 10 c.args.state.now) (c.loop-k.invariant.3 (omega arith)))
