use Rattle.std.proofs.Common.{◌≡◌, ℕ, length, ap, ◌∙◌, rules}
use Rattle.engine.specs.Permutation.{block_size}
use Rattle.cipher.specs.Blocks.{padded_part}
use Rattle.cipher.specs.Mode.{with_01}
use Rattle.cipher.proofs.MaskLaws.{wide_nonce}
use Rattle.cipher.proofs.TagLaws.{start_whole}
use Rattle.cipher.proofs.tagging.start_sum.Goals as goal

pub returns : goal.returns
returns c =
    let n = block_size c.args.variant in
    let twelve : length c.args.nonce.now ≡ 12 = search rules in
    start_whole n c.args.nonce.now c.args.associated.now c.copy_from_slice.new.self c.load.new.block _ _ twelve (wide_nonce c.args.variant) c.copy_from_slice.ensures.after
    (c.load.ensures ∙ ap (λ (m : ℕ). padded_part m (with_01 c.args.associated.now)) (search rules))
