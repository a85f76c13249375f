-- What is left after the last of a part's entries is rotated to its front.
use Rattle.std.proofs.Common.{◌≡◌, ℕ, ◌+◌, ◌-◌, ◌<◌, ◌≤◌, List, [], ◌∷◌, ◌++◌, length, take, drop, set, sym, refl, ap, ◌∙◌, arith}
use borrow.Rule.Slice.PartMut.{put_mid}
use Rattle.std.proofs.lemmas.List.{take-set-le, drop-set-lt, drop-set-add, take_more_set, drop-drop, length-drop, length_push, take_at, drop_at}

module _ {X : Type 0} where
  part_is : (xs : List X) (at m : ℕ) (e : X) → at + m < length xs → take (m + 1) (drop at (set xs (at + m) e)) ≡ take m (drop at xs) ++ e ∷ []
  part_is xs at m e h =
      let l : m < length (drop at xs) = simp length-drop (omega arith) in
      ap (λ ys. take (m + 1) ys) (drop-set-add at xs m e) ∙ take_more_set (drop at xs) m e l

  rotated_is : (ps ys zs : List X) (e : X) → ps ≡ zs ++ e ∷ [] → ys ≡ drop (length ps - 1) ps ++ take (length ps - 1) ps → ys ≡ e ∷ zs
  rotated_is ps ys zs e p q =
      let k : length ps - 1 ≡ length zs = let t = ap length p in let u = length_push zs e in omega arith in
      q ∙ rw k (rw p (rw (drop_at zs (e ∷ []) (length zs) refl) (rw (take_at zs (e ∷ []) (length zs) refl) refl)))

  whole_is : (xs : List X) (at m : ℕ) (e : X) (ys zs : List X) → at + m < length xs → ys ≡ e ∷ zs → put_mid at (m + 1) (set xs (at + m) e) ys ≡ take at xs ++ (e ∷ (zs ++ drop (at + m + 1) xs))
  whole_is xs at m e ys zs h q =
      let a : take at (set xs (at + m) e) ≡ take at xs = take-set-le at xs (at + m) e (omega arith) in
      let b : drop (m + 1) (drop at (set xs (at + m) e)) ≡ drop (at + m + 1) xs = drop-drop (m + 1) at (set xs (at + m) e) ∙ drop-set-lt (at + (m + 1)) xs (at + m) e (omega arith) ∙ ap (λ k. drop k xs) (omega arith) in
      rw a (rw b (rw q refl))

  -- ps is the part before, and ys after the rotation
  pub stored_at : (xs : List X) (at end : ℕ) (e : X) (ps ys : List X) → at ≤ end → end < length xs → ps ≡ take (end + 1 - at) (drop at (set xs end e)) → ys ≡ drop (length ps - 1) ps ++ take (length ps - 1) ps → put_mid at (end + 1 - at) (set xs end e) ys ≡ take at xs ++ (e ∷ (take (end - at) (drop at xs) ++ drop (end + 1) xs))
  stored_at xs at end e ps ys h l p q =
      let m : ℕ = end - at in
      let en : end ≡ at + m = omega arith in
      let ek : end + 1 - at ≡ m + 1 = omega arith in
      let pp : ps ≡ take m (drop at xs) ++ e ∷ [] =
      p ∙ ap (λ k. take k (drop at (set xs end e))) ek ∙ ap (λ k. take (m + 1) (drop at (set xs k e))) en ∙ part_is xs at m e (omega arith) in
      let qq : ys ≡ e ∷ take m (drop at xs) = rotated_is ps ys (take m (drop at xs)) e pp q in
      ap (λ k. put_mid at k (set xs end e) ys) ek ∙ ap (λ k. put_mid at (m + 1) (set xs k e) ys) en ∙ whole_is xs at m e ys (take m (drop at xs)) (omega arith) qq ∙ ap (λ k. take at xs ++ (e ∷ (take m (drop at xs) ++ drop (k + 1) xs))) (sym en)
