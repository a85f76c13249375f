use Rattle.std.proofs.Common.{◌≡◌}
use Rattle.cipher.specs.Blocks.{iterate}
use Rattle.cipher.specs.Masks.{phi2}
use Rattle.cipher.specs.Groups.{block_in}
use Rattle.cipher.proofs.masks.mask.Given as goal

abbrev pub invariant-loop : goal.invariant-loop
invariant-loop l = block_in l.variant l.block ≡ iterate (phi2 l.variant) l.counter (block_in l.variant l.running)
