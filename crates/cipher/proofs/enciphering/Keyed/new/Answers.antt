use Rattle.std.proofs.Common.{◌≡◌, ◌+◌, ◌++◌, length, replicate, refl, ap, ◌∙◌, arith, rules}
use Rattle.engine.specs.Permutation.{permutation, block_size}
use Rattle.std.proofs.lemmas.List.{length-append}
use Rattle.cipher.specs.Masks.{first_mask}
use Rattle.cipher.proofs.MaskLaws.{wide_key}
use Rattle.cipher.proofs.RoomLaws.{narrow, one_held, padded_held}
use Rattle.cipher.proofs.enciphering.Keyed.new.Goals as goal

pub returns : goal.returns
unfolding first_mask
returns g c =
    let v = g.E.Engine.kind c.args.engine.now in
    let key = c.args.key.now in
    let room = c.copy_from_slice.new.self ++ replicate 9 0 in
    let wide : c.block_bytes.result ≡ block_size v = c.block_bytes.ensures ∙ ap block_size c.variant.ensures.answer in
    let sixteen : length key ≡ 16 = search rules in
    let copied : c.copy_from_slice.new.self ≡ key = c.copy_from_slice.ensures.after in
    let long : length room ≡ 25 = length-append c.copy_from_slice.new.self (replicate 9 0) ∙ ap (λ k. k + 9) (ap length copied ∙ sixteen) in (
      refl,
      one_held v c.block_bytes.result room c.one.new.block _ wide long c.one.ensures.block
          ∙ ap (permutation v) (padded_held v 9 key c.copy_from_slice.new.self (omega (arith, wide_key v)) (omega (arith, narrow v)) copied),
    )
