use Rattle.std.proofs.Common.{◌≡◌, ℕ, ◌+◌, ◌*◌, ◌/◌, min, List, length, drop, sym, refl, ap, ◌∙◌, zero-mul, arith, rules}
use Rattle.std.proofs.lemmas.List.{take_at}
use Rattle.engine.specs.Permutation.{permutation, block_size, each}
use Rattle.cipher.specs.Blocks.{padded_part, part, parts, stream, sum_of_parts, xor_of}
use Rattle.cipher.specs.Masks.{mask}
use Rattle.cipher.specs.Mode.{with_01, enciphered_block, sum_with_parts}
use Rattle.cipher.specs.Groups.{block_in}
use Rattle.cipher.proofs.MaskLaws.{wide, enciphered_stream, enciphered_length}
use Rattle.cipher.proofs.PartLaws.{padded_length}
use Rattle.cipher.proofs.RoomLaws.{held_length, parts_of, parts_closed, group_summed}
use Rattle.cipher.proofs.enciphering.Keyed.absorb_group.Goals as goal

pub returns-clause-sum : goal.returns-clause-sum
unfolding sum_with_parts part
returns-clause-sum g c =
    let v = g.E.Engine.kind c.args.self.now.engine.now in
    let n = block_size v in
    let l = block_in v c.args.running.now in
    let j = c.args.j in
    let s = with_01 c.args.bytes.now in
    let x : ℕ → List ℕ = λ q. part n q s in
    let f : ℕ → List ℕ = λ q. enciphered_block v l (x q) q j in
    let masks = stream (λ q. mask v l q j) 4 0 in
    let long : (q : ℕ) → length (x q) ≡ n = λ q. padded_length n (drop (q * n) s) in
    let width : c.block_bytes-n.result ≡ n = c.block_bytes-n.ensures ∙ ap block_size c.variant.ensures.answer in
    let all : c.load.new.block ≡ padded_part (4 * n) s = c.load.ensures ∙ ap (λ (m : ℕ). padded_part m s) (search rules) in
    let side : padded_part (4 * n) s ≡ stream x 4 0 = ap (λ m. padded_part (4 * n) (drop m s)) (sym (zero-mul n)) ∙ parts_of n 4 0 s in
    let laid = take_at c.load.new.block _ (4 * n) (ap length all ∙ padded_length (4 * n) s) ∙ all ∙ side in
    let made = c.encipher_four.ensures.blocks ∙ ap (λ b. xor_of (each (permutation v) n 4 (xor_of b masks)) masks) laid
    ∙ enciphered_stream v l x 4 0 j (held_length v c.args.running.now (search rules)) long in
    let count : c.min-count.result ≡ min (parts n (length c.args.bytes.now + 1)) 4 =
    c.min-count.ensures ∙ ap (λ m. min m 4) (ap (λ m. length c.args.bytes.now / m + 1) width ∙ parts_closed n (length c.args.bytes.now) (wide v)) in
    group_summed v f c.block_bytes-n.result c.min-count.result c.encipher_four.new.blocks _ c.args.sum.now c.add_blocks.new.sum width
    (λ q. enciphered_length v l (x q) q j (long q)) (omega (arith, c.min-count.ensures)) made refl c.add_blocks.ensures
    ∙ ap (λ k. sum_of_parts f k 0 (block_in v c.args.sum.now)) count
