use Rattle.std.proofs.Common.{ap, ◌∙◌}
use Rattle.engine.specs.Permutation.{block_size}
use Rattle.cipher.specs.Blocks.{xor_of}
use Rattle.cipher.specs.Masks.{phi2}
use Rattle.cipher.specs.Groups.{block_in}
use Rattle.cipher.proofs.RoomLaws.{take_xored}
use Rattle.cipher.proofs.masks.phi2.Goals as goal

pub returns : goal.returns
unfolding phi2
returns c =
    let v = c.args.variant in
    let b = c.args.block.now in
    ap (block_in v) c.xor_into.ensures ∙ take_xored (block_size v) c.phi1.new.block b ∙ ap (λ a. xor_of a (block_in v b)) c.phi1.ensures
