-- The two scans over the entries, by the library's words for chains of iterators.
use Rattle.std.proofs.Common.{◌≡◌, ◌||◌, List, [], ◌∷◌, length, Ordering, refl, ap}
use Rattle.std.specs.Ordering.{is_eq, is_lt}
use Rattle.std.specs.List.{list_any, take_while}
use Rattle.std.proofs.lemmas.List.Folds.{length-prefix_len}
use Rattle.list.specs.Insertion.{has_equal, count_ahead}

module _ {X : Type 0} (order : X → X → Ordering) (e : X) where
  -- any of the entries is equal in order to e
  pub any_equal : (xs : List X) → list_any (λ x. is_eq (order x e)) xs ≡ has_equal order e xs
  unfolding has_equal
  any_equal [] = refl
  any_equal (x ∷ xs) = ap (λ b. is_eq (order x e) || b) (any_equal xs)

  -- so many entries come before e
  pub count_before : (xs : List X) → length (take_while (λ x. is_lt (order x e)) xs) ≡ count_ahead order e xs
  unfolding count_ahead
  count_before xs = length-prefix_len (λ x. is_lt (order x e)) xs
