use Rattle.std.proofs.Common.{◌≡◌, ℕ, ◌+◌, ◌-◌, ◌*◌, ◌/◌, ◌<◌, ◌≤◌, length, take, drop, ap, ◌∙◌, mul-le-mul_right, arith}
use Rattle.binary.specs.Bits.{bit_of}
use Rattle.circuit.proofs.Parts.{part_length}
use Rattle.circuit.proofs.bytes.quarter.Goals as goal

pub returns : goal.returns
returns g c k h =
    let wide = g.met.S.Spongent.wide in
    let xs = c.args.blocks.now in
    let m = g.S.Spongent.WIDTH in
    let n = m / 2 in
    let i = c.args.i in
    let t = c.args.t in
    let width : i * n + n - i * n ≡ n = omega arith in
    let long : length (take (i * n + n - i * n) (drop (i * n) xs)) ≡ n = ap (λ v. length (take v (drop (i * n) xs))) width ∙ part_length n (i * n) xs (omega arith) in
    let up : t * m ≤ 3 * m = mul-le-mul_right {m = t} {n = 3} m (omega arith) in
    let inside : t * m + k < 8 * length (take (i * n + n - i * n) (drop (i * n) xs)) = omega (arith, wide, up, long) in
    c.word_from.ensures k (omega (arith, wide)) (rw c.WIDTH-m.ensures inside)
    ∙ ap (λ (w : ℕ). bit_of (take (i * (w / 2) + w / 2 - i * (w / 2)) (drop (i * (w / 2)) xs)) (t * w + k)) c.WIDTH-m.ensures
    ∙ ap (λ v. bit_of (take v (drop (i * n) xs)) (t * m + k)) width
