use Rattle.std.proofs.Common.{◌≡◌, ◌*◌, length, take, sym, ap, ap₂, ◌∙◌, rules}
use Rattle.engine.specs.Permutation.{permutation, block_size, each}
use Rattle.cipher.specs.Blocks.{xor_of, stream}
use Rattle.cipher.specs.Masks.{mask}
use Rattle.cipher.specs.Groups.{block_in}
use Rattle.cipher.proofs.XorLaws.{length_xored}
use Rattle.cipher.proofs.RoomLaws.{take_xored, four_held}
use Rattle.cipher.proofs.enciphering.Keyed.encipher_four.Goals as goal

pub returns-clause-blocks : goal.returns-clause-blocks
returns-clause-blocks g c =
    let v = g.E.Engine.kind c.args.self.now.engine.now in
    let n = 4 * block_size v in
    let masks = stream (λ q. mask v (block_in v c.args.running.now) q c.args.j) 4 0 in
    let room = c.xor_into.new.target in
    let wide : c.block_bytes.result ≡ block_size v = c.block_bytes.ensures ∙ ap block_size c.variant-variant.ensures.answer in
    let long : length room ≡ 100 = ap length c.xor_into.ensures ∙ length_xored c.args.blocks.now _ ∙ search rules in
    let laid : take n c.four_masks.new.masks ≡ masks =
    ap (λ w. take (4 * block_size w) c.four_masks.new.masks) (sym c.variant-variant.ensures.answer) ∙ c.four_masks.ensures.masks
    ∙ ap (λ w. stream (λ q. mask w (block_in w c.args.running.now) q c.args.j) 4 0) c.variant-variant.ensures.answer in
    let made : take n room ≡ xor_of (take n c.args.blocks.now) masks =
    ap (take n) c.xor_into.ensures ∙ take_xored n c.args.blocks.now c.four_masks.new.masks ∙ ap (xor_of (take n c.args.blocks.now)) laid in
    ap (take n) c.xor_into-2.ensures ∙ take_xored n _ c.four_masks.new.masks
    ∙ ap₂ xor_of (four_held v c.block_bytes.result room c.four.new.blocks _ wide long c.four.ensures.blocks ∙ ap (each (permutation v) (block_size v) 4) made) laid
