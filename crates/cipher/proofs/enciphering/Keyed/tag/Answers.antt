use Rattle.std.proofs.Common.{length, ap, ◌∙◌}
use Rattle.engine.specs.Permutation.{block_size}
use Rattle.cipher.specs.Blocks.{parts, iterate}
use Rattle.cipher.specs.Masks.{mask}
use Rattle.cipher.specs.Mode.{with_01, sum_with_parts, enciphered_block, tag_sum}
use Rattle.cipher.specs.Groups.{block_in}
use Rattle.cipher.proofs.enciphering.Keyed.tag.Goals as goal

pub returns-clause-block : goal.returns-clause-block
unfolding enciphered_block mask iterate tag_sum
returns-clause-block g c =
    let v = g.E.Engine.kind c.args.self.now.engine.now in
    let first = block_in v c.args.self.now.first in
    let s = with_01 c.args.sealed.now in
    c.encipher.ensures.block
    ∙ ap (λ x. enciphered_block v first x 0 0) (c.absorb.ensures.sum ∙ ap (sum_with_parts v first 2 (parts (block_size v) (length s)) 0 s) c.sum_associated.ensures.sum)
