use Rattle.std.proofs.Common.{◌≡◌, length, ap, ◌∙◌, take, drop, ◌++◌, ◌∷◌, [], sym, arith, rules, set, ◌-◌}
use Rattle.engine.specs.Permutation.{block_size}
use Rattle.cipher.proofs.MaskLaws.{wide}
use Rattle.cipher.proofs.RoomLaws.{moved_on, narrow}
use Rattle.cipher.specs.Masks.{phi1, appended_byte}
use Rattle.cipher.specs.Groups.{block_in}
use Rattle.cipher.proofs.masks.phi1.Goals as goal

pub returns : goal.returns
unfolding phi1
returns c =
    let v = c.args.variant in
    let n = c.block_bytes-n.result in
    let b = c.args.block.now in
    let en : n ≡ block_size v = c.block_bytes-n.ensures in
    let long : length b ≡ 25 = search rules in
    ap (λ m. take m (set c.copy_within.new.self (n - 1) c.appended_byte-last.result)) (sym en)
    ∙ moved_on n b c.copy_within.new.self c.appended_byte-last.result (appended_byte v (block_in v b)) (omega (arith, wide v)) (omega (arith, narrow v)) c.copy_within.ensures.after c.appended_byte-last.ensures
    ∙ ap (λ m. drop 1 (take m b) ++ (appended_byte v (block_in v b) ∷ [])) en
