use Rattle.std.proofs.Common.{◌≡◌, length, ap, ◌∙◌, rules}
use Rattle.engine.specs.Permutation.{permutation, block_size}
use Rattle.cipher.specs.Blocks.{xor_of}
use Rattle.cipher.specs.Groups.{block_in}
use Rattle.cipher.proofs.XorLaws.{length_xored}
use Rattle.cipher.proofs.RoomLaws.{take_xored, one_held}
use Rattle.cipher.proofs.enciphering.Keyed.encipher.Goals as goal

pub returns-clause-block : goal.returns-clause-block
returns-clause-block g c =
    let v = g.E.Engine.kind c.args.self.now.engine.now in
    let n = block_size v in
    let mask = c.args.mask.now in
    let room = c.xor_into.new.target in
    let wide : c.block_bytes-n.result ≡ n = c.block_bytes-n.ensures ∙ ap block_size c.variant.ensures.answer in
    let long : length room ≡ 25 = ap length c.xor_into.ensures ∙ length_xored c.args.block.now mask ∙ search rules in
    let made : block_in v room ≡ xor_of (block_in v c.args.block.now) (block_in v mask) = ap (block_in v) c.xor_into.ensures ∙ take_xored n c.args.block.now mask in
    ap (block_in v) c.xor_into-2.ensures ∙ take_xored n _ mask
    ∙ ap (λ y. xor_of y (block_in v mask)) (one_held v c.block_bytes-n.result room c.one.new.block _ wide long c.one.ensures.block ∙ ap (permutation v) made)
