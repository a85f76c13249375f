-- A line of two fields, cut at its comma.
use Rattle.std.proofs.Common.{◌≡◌, ℕ, suc, ◌+◌, ◌<◌, Bool, true, false, eqb, [], ◌∷◌, ◌++◌, length, take, drop, sym, refl, ap, ◌∙◌, add-one, arith, length-append}
use Rattle.std.proofs.lemmas.Bool.{eqb-true, eq-eqb, ne_eqb, ltb-true, lt-ltb}
use lib.Seq.{take-append_seam}
use Rattle.room.specs.Sales.{Bytes}
use Rattle.file.specs.Fields.{place_of, holds}
use Rattle.file.proofs.Cuts.{place_here, place_later}
use Rattle.file.proofs.Texts.{Without}

module _ (b : ℕ) where
  place_of-append : (xs ys : Bytes) → Without b xs → place_of b (xs ++ (b ∷ ys)) ≡ length xs
  place_of-append [] ys w = place_here b b ys (eq-eqb b b refl)
  place_of-append (x ∷ xs) ys w = place_later b x (xs ++ (b ∷ ys)) (ne_eqb x b w.0) ∙ ap suc (place_of-append xs ys w.1)

  drop_past : (xs ys : Bytes) → drop (suc (length xs)) (xs ++ (b ∷ ys)) ≡ ys
  drop_past [] ys = refl
  drop_past (x ∷ xs) ys = drop_past xs ys

  pub holds-append : (xs ys : Bytes) → Without b xs → holds b (xs ++ (b ∷ ys)) ≡ true
  holds-append xs ys w =
      let p = place_of-append xs ys w in
      let n : length (xs ++ (b ∷ ys)) ≡ length xs + suc (length ys) = length-append xs (b ∷ ys) in
      lt-ltb (place_of b (xs ++ (b ∷ ys))) (length (xs ++ (b ∷ ys))) (omega arith)

  pub field-append : (xs ys : Bytes) → Without b xs → take (place_of b (xs ++ (b ∷ ys))) (xs ++ (b ∷ ys)) ≡ xs
  field-append xs ys w = ap (λ k. take k (xs ++ (b ∷ ys))) (place_of-append xs ys w) ∙ take-append_seam xs (b ∷ ys)

  pub behind-append : (xs ys : Bytes) → Without b xs → drop (place_of b (xs ++ (b ∷ ys)) + 1) (xs ++ (b ∷ ys)) ≡ ys
  behind-append xs ys w =
      ap (λ k. drop k (xs ++ (b ∷ ys))) (add-one (place_of b (xs ++ (b ∷ ys))) ∙ ap suc (place_of-append xs ys w)) ∙ drop_past xs ys

  cut_at : (x : ℕ) (xs : Bytes) (t : Bool) → eqb x b ≡ t → place_of b (x ∷ xs) < length (x ∷ xs)
      → (place_of b xs < length xs → take (place_of b xs) xs ++ (b ∷ drop (suc (place_of b xs)) xs) ≡ xs)
      → take (place_of b (x ∷ xs)) (x ∷ xs) ++ (b ∷ drop (suc (place_of b (x ∷ xs))) (x ∷ xs)) ≡ x ∷ xs
  cut_at x xs true e l ih =
      ap (λ k. take k (x ∷ xs) ++ (b ∷ drop (suc k) (x ∷ xs))) (place_here b x xs e) ∙ ap (λ z. z ∷ xs) (sym (eqb-true x b e))
  cut_at x xs false e l ih =
      let p = place_later b x xs e in
      let h : place_of b xs < length xs = omega arith in
      ap (λ k. take k (x ∷ xs) ++ (b ∷ drop (suc k) (x ∷ xs))) p ∙ ap (λ z. x ∷ z) (ih h)

  cut : (xs : Bytes) → place_of b xs < length xs → take (place_of b xs) xs ++ (b ∷ drop (suc (place_of b xs)) xs) ≡ xs
  cut [] l = absurd (omega arith)
  cut (x ∷ xs) l = cut_at x xs (eqb x b) refl l (cut xs)

  pub append-fields : (xs : Bytes) → holds b xs ≡ true → take (place_of b xs) xs ++ (b ∷ drop (place_of b xs + 1) xs) ≡ xs
  append-fields xs h =
      ap (λ k. take (place_of b xs) xs ++ (b ∷ drop k xs)) (add-one (place_of b xs)) ∙ cut xs (ltb-true (place_of b xs) (length xs) h)
