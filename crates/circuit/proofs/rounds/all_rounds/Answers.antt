use Rattle.std.proofs.Common.{◌≡◌, false, get_or, sym, ap, ◌∙◌, add-one, arith}
use Rattle.engine.specs.Spongent.{round, bits_after, counter, next_counter}
use Rattle.circuit.proofs.Layers.{after_length}
use Rattle.circuit.proofs.rounds.all_rounds.Goals as goal

pub loop-init : goal.loop-init
unfolding bits_after counter
loop-init g c = (λ i bs len h. h, c.FIRST-c.ensures)

pub loop-preserved : goal.loop-preserved
unfolding bits_after counter
loop-preserved g c =
    let n = c.loop.counter in
    let first = g.S.Spongent.FIRST in (
      (λ i bs len h j l.
          let s = bits_after first n bs in
          c.one_round-q.ensures i s (after_length first n bs ∙ len) (c.loop.invariant.0 i bs len h) j l
          ∙ ap (λ t. get_or t j false) (ap (λ e. round e s) c.loop.invariant.1 ∙ ap (λ n. bits_after first n bs) (sym (add-one n)))),
      c.next_counter-c.ensures ∙ ap next_counter c.loop.invariant.1 ∙ ap (counter first) (sym (add-one n)),
    )

pub returns : goal.returns
returns g c i bs len h j l =
    let e : c.loop.counter ≡ g.S.Spongent.ROUNDS = omega arith in
    c.loop.invariant.0 i bs len h j l ∙ ap (λ n. get_or (bits_after g.S.Spongent.FIRST n bs) j false) e
