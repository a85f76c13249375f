use Rattle.std.proofs.Common.{◌≡◌, ℕ, ◌+◌, ◌≤◌, Option, ◌++◌, rules, length, take, drop, sym, ap, ◌∙◌, subst, le_refl, drop_at, length-take-le}
use Rattle.std.proofs.lemmas.Slice.{take-put_mid_below}
use Rattle.std.specs.Io.KnownBytes.{Consumes, Keeps}
use Rattle.std.proofs.KnownBytes.{Consumes-trans, Consumes-kept}
use borrow.Rule.Slice.PartMut.{put_mid, post_of}
use lib.Seq.{take-add, take-append-le}
use Rattle.room.specs.Sales.{Bytes}
use Rattle.file.proofs.streams.fill.Goals as goal
use Rattle.file.proofs.streams.fill.Goals.{in-Ok, in-Err+else-ne}

take-put_mid : (at room n : ℕ) (buffer part : Bytes) → at ≤ length buffer → n ≤ length part → take at buffer ++ take n part ≡ take (at + n) (put_mid at room buffer part)
take-put_mid at room n buffer part within fits =
    let new = put_mid at room buffer part in
    let front : take at new ≡ take at buffer = take-put_mid_below _ _ _ _ _ (le_refl _) within in
    let mid : take n (drop at new) ≡ take n part =
    ap (take n) (drop_at (take at buffer) (part ++ post_of at room buffer) at (length-take-le at buffer within)) ∙ take-append-le n part (post_of at room buffer) fits in
    ap (λ l. l ++ take n part) (sym front) ∙ ap (λ l. take at new ++ l) (sym mid) ∙ sym (take-add at n new)

-- one more read, that gave n bytes or was interrupted
module _ (a b c : Option Bytes) (at' at room : ℕ) (buffer part : Bytes) (within : at ≤ length buffer) (so_far : Consumes a b (take at buffer)) where
  abbrev HasMore : Type 0
  HasMore = Consumes a c (take at' (put_mid at room buffer part))

  more : (n : ℕ) → at' ≡ at + n → n ≤ length part → Consumes b c (take n part) → HasMore
  more n e fits read =
      subst (λ k. Consumes a c (take k (put_mid at room buffer part))) (sym e)
      (subst (Consumes a c) (take-put_mid at room n buffer part within fits) (Consumes-trans a b c _ _ so_far read))

  no_more : at' ≡ at → Keeps b c → HasMore
  no_more e kept =
      subst (λ k. Consumes a c (take k (put_mid at room buffer part))) (sym e)
      (subst (Consumes a c) (sym (take-put_mid_below _ _ _ _ _ (le_refl _) within)) (Consumes-kept a b c _ so_far kept))

pub loop-preserved : goal.loop-preserved
loop-preserved g c =
    elim c.match-read.branch [
      | in-Ok w ↦
          (search rules, rw w.at-is (search rules), more _ _ _ _ _ _ _ _ c.loop.invariant.1 c.loop.invariant.2 w.in-Ok.n w.at-is w.in-Ok.ensures.bound.0 w.in-Ok.ensures.bytes.0)
      | in-Err+else-ne w ↦ (search rules, rw w.at-is (search rules), no_more _ _ _ _ _ _ _ _ c.loop.invariant.1 c.loop.invariant.2 w.at-is w.in-Err.ensures.bytes)
    ]
