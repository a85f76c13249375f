use Rattle.std.proofs.Common.{ℕ, ◌<◌, ◌&&◌, ap, ◌∙◌}
use Rattle.binary.specs.Bits.{bit, differs}
use Rattle.circuit.proofs.Swaps.{cross_lo, cross_hi}
use Rattle.circuit.proofs.gather.cross.Goals as goal

pub returns : goal.returns
returns g c i =
    let at = g.W.Word.at in
    let lo = at c.args.lo i in
    let hi = at c.args.hi i in
    let n = c.args.n in
    let m = c.args.mask in
    let t = at c.masked-t.result i in
    let apart = λ (k : ℕ) (h : k < 64).
    (c.masked-t.ensures i).at k h ∙ ap (λ b. b && bit m k) (c.xor.ensures i k h ∙ ap (λ b. differs b (hi k)) (c.down.ensures i k h)) in
    record {
      below = λ k h. c.xor-2.ensures i k h ∙ ap (differs (lo k)) (c.up.ensures i k h) ∙ cross_lo n m lo hi t apart k h;
      above = λ k h. c.xor-3.ensures i k h ∙ cross_hi n m lo hi t apart k h;
    }
