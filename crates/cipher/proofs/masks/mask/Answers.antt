use Rattle.std.proofs.Common.{◌≡◌, refl, ap, ◌∙◌, arith}
use Rattle.cipher.specs.Blocks.{iterate}
use Rattle.cipher.specs.Masks.{phi2, mask}
use Rattle.cipher.specs.Groups.{block_in}
use Rattle.cipher.proofs.StreamLaws.{repeated_more}
use Rattle.cipher.proofs.masks.mask.Goals as goal

pub loop-init : goal.loop-init
unfolding iterate
loop-init c = refl

pub loop-preserved : goal.loop-preserved
loop-preserved c = c.phi2.ensures ∙ ap (phi2 c.args.variant) c.loop.invariant ∙ repeated_more (phi2 c.args.variant) c.loop.counter (block_in c.args.variant c.args.running.now)

pub returns : goal.returns
unfolding mask iterate
returns c =
    let end : c.loop.counter ≡ c.args.j = omega arith in
    c.loop.invariant ∙ ap (λ k. iterate (phi2 c.args.variant) k (block_in c.args.variant c.args.running.now)) end
