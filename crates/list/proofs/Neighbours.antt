-- Lists that rise, told by neighbours or by the numbers of a key.
use Rattle.std.proofs.Common.{◌≡◌, ℕ, zero, suc, ◌+◌, ◌-◌, ◌<◌, List, [], length, get_or, Ordering, Less, Equal, sym, refl, ap, ◌∙◌, subst, arith}
use Rattle.std.specs.Cmp.{ranks}
use Rattle.std.specs.Ordering.{MatchOrdering}
use Rattle.std.proofs.lemmas.Bool.{lt-ltb}
use Rattle.list.specs.Order.{TotalOrder, Rising, by_key, by_key_is_total}

module _ {X : Type 0} (order : X → X → Ordering) where
  pub rising_empty : Rising order []
  unfolding Rising
  rising_empty i j d lt l = absurd (omega arith)

  pub rising_at : (xs : List X) → Rising order xs → (i j : ℕ) (d : X) → i < j → j < length xs → order (get_or xs i d) (get_or xs j d) ≡ Less
  unfolding Rising
  rising_at xs h = h

  chained : TotalOrder order → (xs : List X) → ((k : ℕ) (d : X) → k + 1 < length xs → order (get_or xs k d) (get_or xs (k + 1) d) ≡ Less) → (i m : ℕ) (d : X) → i + 1 + m < length xs → order (get_or xs i d) (get_or xs (i + 1 + m) d) ≡ Less
  chained total xs h i zero d l = ap (λ z. order (get_or xs i d) (get_or xs z d)) (omega arith) ∙ h i d (omega arith)
  chained total xs h i (suc m) d l =
      let s : (i + 1 + m) + 1 ≡ i + 1 + suc m = omega arith in
      total.transitive (get_or xs i d) (get_or xs (i + 1 + m) d) (get_or xs (i + 1 + suc m) d) (chained total xs h i m d (omega arith)) (ap (λ z. order (get_or xs (i + 1 + m) d) (get_or xs z d)) (sym s) ∙ h (i + 1 + m) d (omega arith))

  -- it is enough that each entry comes before the next
  pub rising_from_neighbours : TotalOrder order → (xs : List X) → ((k : ℕ) (d : X) → k + 1 < length xs → order (get_or xs k d) (get_or xs (k + 1) d) ≡ Less) → Rising order xs
  unfolding Rising
  rising_from_neighbours total xs h i j d lt l =
      let s : i + 1 + (j - i - 1) ≡ j = omega arith in
      ap (λ z. order (get_or xs i d) (get_or xs z d)) (sym s) ∙ chained total xs h i (j - i - 1) d (omega arith)

module _ {X : Type 0} (key : X → ℕ) where
  pub before_by_key : (x y : X) → key x < key y → by_key key x y ≡ Less
  before_by_key x y h = rw (lt-ltb (key x) (key y) h) refl

  pub key_below : (x y : X) → by_key key x y ≡ Less → key x < key y
  key_below x y h = subst (λ o. MatchOrdering o (key x < key y) (key x ≡ key y) (key y < key x)) h (ranks (key x) (key y))

  pub same_key : (x y : X) → by_key key x y ≡ Equal → key x ≡ key y
  same_key x y h = subst (λ o. MatchOrdering o (key x < key y) (key x ≡ key y) (key y < key x)) h (ranks (key x) (key y))

  -- in a list that rises by a key, the keys rise
  pub keys_rise : (xs : List X) → Rising (by_key key) xs → (i j : ℕ) (d : X) → i < j → j < length xs → key (get_or xs i d) < key (get_or xs j d)
  keys_rise xs h i j d lt l = key_below (get_or xs i d) (get_or xs j d) (rising_at (by_key key) xs h i j d lt l)

  pub rising_from_keys : (xs : List X) → ((k : ℕ) (d : X) → k + 1 < length xs → key (get_or xs k d) < key (get_or xs (k + 1) d)) → Rising (by_key key) xs
  rising_from_keys xs h = rising_from_neighbours (by_key key) (by_key_is_total key) xs (λ k d l. before_by_key (get_or xs k d) (get_or xs (k + 1) d) (h k d l))
