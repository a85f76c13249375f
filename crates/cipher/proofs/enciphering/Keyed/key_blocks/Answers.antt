use Rattle.std.proofs.Common.{◌≡◌, ◌-◌, ◌*◌, length, take, sym, ap, ◌∙◌, arith, rules}
use Rattle.engine.specs.Permutation.{permutation, block_size, each}
use Rattle.cipher.specs.Blocks.{stream, xor_of}
use Rattle.cipher.specs.Masks.{mask}
use Rattle.cipher.specs.Groups.{block_in}
use Rattle.cipher.proofs.MaskLaws.{enciphered_stream}
use Rattle.cipher.proofs.RoomLaws.{held_length}
use Rattle.cipher.proofs.enciphering.Keyed.key_blocks.Goals as goal

pub returns-clause-blocks : goal.returns-clause-blocks
returns-clause-blocks g c =
    let v = g.E.Engine.kind c.args.self.now.engine.now in
    let n = block_size v in
    let l = block_in v c.args.running.now in
    let x = block_in v c.args.nonce.now in
    let masks = stream (λ q. mask v l q 1) 4 0 in
    let wide : c.block_bytes.result ≡ n = c.block_bytes.ensures ∙ ap block_size c.variant.ensures.answer in
    let cut : c.block_bytes.result - 0 ≡ n = omega arith in
    let same : take (c.block_bytes.result - 0) c.args.nonce.now ≡ x = ap (λ m. take m c.args.nonce.now) cut in
    let long : length x ≡ n = held_length v c.args.nonce.now (search rules) in
    let laid : take (4 * n) c.copies.new.blocks ≡ stream (λ _. x) 4 0 =
    ap (λ m. take (4 * m) c.copies.new.blocks) (sym (ap length same ∙ long)) ∙ c.copies.ensures ∙ ap (λ y. stream (λ _. y) 4 0) same in
    c.encipher_four.ensures.blocks ∙ ap (λ b. xor_of (each (permutation v) n 4 (xor_of b masks)) masks) laid
    ∙ enciphered_stream v l (λ _. x) 4 0 1 (held_length v c.args.running.now (search rules)) (λ _. long)
