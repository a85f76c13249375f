use Rattle.std.proofs.Common.{◌≡◌, ℕ, ◌+◌, ◌*◌, ◌/◌, ◌<◌, length, arith}
use Rattle.binary.specs.Bits.{bit_of}
use Rattle.circuit.specs.Planes.{of_block, block_at, word_bit}
use Rattle.circuit.proofs.Fours.{by_four}
use Rattle.circuit.proofs.Octets.{loaded}
use Rattle.circuit.proofs.Parts.{within, part_length}
use Rattle.circuit.proofs.bytes.load.Goals as goal

pub returns : goal.returns
returns g c i hi =
    let wide = g.met.S.Spongent.wide in
    let m = g.S.Spongent.WIDTH in
    let xs = c.args.blocks.now in
    let ws = of_block g.W.Word.at record { a = c.quarters.result; b = c.quarters-2.result; c = c.quarters-3.result; d = c.quarters-4.result } i in
    let inside = within (m / 2) i g.W.Word.BLOCKS (length xs) hi c.requires in
    let long : length (block_at (m / 2) i xs) ≡ m / 2 = part_length (m / 2) (i * (m / 2)) xs inside in
    loaded m ws (block_at (m / 2) i xs) (omega (arith, wide)) (omega (arith, wide, long)) (by_four (λ t. (k : ℕ) → k < m → word_bit ws t k ≡ bit_of (block_at (m / 2) i xs) (t * m + k))
    (λ k h. c.quarters.ensures i k hi h) (λ k h. c.quarters-2.ensures i k hi h) (λ k h. c.quarters-3.ensures i k hi h) (λ k h. c.quarters-4.ensures i k hi h))
