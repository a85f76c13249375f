use Rattle.std.proofs.Common.{◌≡◌}
use Rattle.cipher.specs.Blocks.{iterate}
use Rattle.cipher.specs.Masks.{phi1, mask}
use Rattle.cipher.specs.Groups.{block_in}
use Rattle.cipher.proofs.StreamLaws.{Laid}
use Rattle.cipher.proofs.masks.four_masks.Given as goal

abbrev pub invariant-loop-q : goal.invariant-loop-q
invariant-loop-q l = record {
  running : block_in l.variant l.running ≡ iterate (phi1 l.variant) l.q (block_in l.variant l.initial.running);
  masks : Laid (λ q. mask l.variant (block_in l.variant l.initial.running) q l.j) l.n l.q l.initial.masks l.masks;
}
