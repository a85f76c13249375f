use Rattle.std.proofs.Common.{◌≡◌, ap, ◌∙◌, sym}
use Rattle.engine.specs.Permutation.{permutation}
use Rattle.cipher.specs.Blocks.{xor_of}
use Rattle.cipher.specs.Masks.{mask}
use Rattle.cipher.specs.Mode.{enciphered_block}
use Rattle.cipher.specs.Groups.{block_in}
use Rattle.cipher.proofs.enciphering.Keyed.key_block.Goals as goal

pub returns-clause-block : goal.returns-clause-block
unfolding enciphered_block
returns-clause-block g c =
    let v = g.E.Engine.kind c.args.self.now.engine.now in
    let first = block_in v c.args.running.now in
    let x = block_in v c.args.nonce.now in
    let by : block_in v c.mask.result ≡ mask v first 0 1 =
    ap (λ w. block_in w c.mask.result) (sym c.variant-variant.ensures.answer) ∙ c.mask.ensures ∙ ap (λ w. mask w (block_in w c.args.running.now) 0 1) c.variant-variant.ensures.answer in
    c.encipher.ensures.block ∙ ap (λ m. xor_of (permutation v (xor_of x m)) m) by
