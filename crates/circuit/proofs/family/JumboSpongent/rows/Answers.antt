use Rattle.std.proofs.Common.{refl, lit<, lit≤}
use Rattle.circuit.specs.Planes.{of_block}
use Rattle.circuit.proofs.Sources.{base, down_from, up_from, masked_from, or_from, in_rows}
use Rattle.circuit.proofs.family.JumboSpongent.rows.Goals as goal

pub returns : goal.returns
returns g c i =
    let at = g.W.Word.at in
    let ws = of_block at c.args.p i in
    let a = base ws 0 refl in
    let b = base ws 1 refl in
    let c₀ = base ws 2 refl in
    let d = base ws 3 refl in
    let a₁ = masked_from a (c.masked.ensures i) in
    let a₂ = masked_from (down_from 4 b (c.down.ensures i)) (c.masked-2.ensures i) in
    let a₃ = masked_from (down_from 8 c₀ (c.down-2.ensures i)) (c.masked-3.ensures i) in
    let a₄ = masked_from (up_from 36 d (c.up.ensures i)) (c.masked-4.ensures i) in
    let ra = or_from (or_from (or_from a₁ a₂ (c.or.ensures i) refl) a₃ (c.or-2.ensures i) refl) a₄ (c.or-a.ensures i) refl in
    let b₁ = masked_from (down_from 16 a (c.down-3.ensures i)) (c.masked-5.ensures i) in
    let b₂ = masked_from (down_from 20 b (c.down-4.ensures i)) (c.masked-6.ensures i) in
    let b₃ = masked_from (up_from 24 c₀ (c.up-2.ensures i)) (c.masked-7.ensures i) in
    let b₄ = masked_from (up_from 20 d (c.up-3.ensures i)) (c.masked-8.ensures i) in
    let rb = or_from (or_from (or_from b₁ b₂ (c.or-3.ensures i) refl) b₃ (c.or-4.ensures i) refl) b₄ (c.or-b.ensures i) refl in
    let c₁ = masked_from (down_from 32 a (c.down-5.ensures i)) (c.masked-9.ensures i) in
    let c₂ = masked_from (up_from 12 b (c.up-4.ensures i)) (c.masked-10.ensures i) in
    let c₃ = masked_from (up_from 8 c₀ (c.up-5.ensures i)) (c.masked-11.ensures i) in
    let c₄ = masked_from (up_from 4 d (c.up-6.ensures i)) (c.masked-12.ensures i) in
    let rc = or_from (or_from (or_from c₁ c₂ (c.or-5.ensures i) refl) c₃ (c.or-6.ensures i) refl) c₄ (c.or-c.ensures i) refl in
    let d₁ = masked_from (down_from 4 b (c.down-6.ensures i)) (c.masked-13.ensures i) in
    let d₂ = masked_from (down_from 8 c₀ (c.down-7.ensures i)) (c.masked-14.ensures i) in
    let rd = or_from d₁ d₂ (c.or-d.ensures i) refl in
    in_rows 44 ws (of_block at _ i) (lit< tt) (lit≤ tt) ra rb rc rd refl
