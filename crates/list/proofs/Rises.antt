-- A rising list stays rising when an entry is inserted.
use Rattle.std.proofs.Common.{◌≡◌, ℕ, ◌+◌, ◌-◌, ◌<◌, ◌≤◌, false, List, length, get_or, Ordering, Less, sym, ap, ◌∙◌, ⊎_elim, arith}
use Rattle.std.specs.Ordering.{ordering_reverse}
use Rattle.std.proofs.lemmas.Bool.{cases_eq, cases_order}
use Rattle.list.specs.Insertion.{has_equal, count_ahead, list_with}
use Rattle.list.specs.Order.{TotalOrder, Rising}
use Rattle.list.proofs.Inserted.{greater_is, unequal_at, ahead_le, comes_before, not_before, length_inserted, below, at_it, above}

module _ {X : Type 0} (order : X → X → Ordering) (total : TotalOrder order) (e : X) (xs : List X) (rises : Rising order xs) (none : has_equal order e xs ≡ false) where
  next_after : (d : X) → count_ahead order e xs < length xs → order e (get_or xs (count_ahead order e xs) d) ≡ Less
  next_after d l = total.turned e (get_or xs (count_ahead order e xs) d) ∙ ap ordering_reverse (greater_is _ (not_before order e xs d l) (unequal_at order e xs (count_ahead order e xs) d none l))

  comes_after : (k : ℕ) (d : X) → count_ahead order e xs ≤ k → k < length xs → order e (get_or xs k d) ≡ Less
  unfolding Rising
  comes_after k d h l = ⊎_elim
      (λ (q : count_ahead order e xs ≡ k). ap (λ z. order e (get_or xs z d)) (sym q) ∙ next_after d (omega arith))
      (λ (q : count_ahead order e xs ≡ k → ⊥). total.transitive e (get_or xs (count_ahead order e xs) d) (get_or xs k d) (next_after d (omega arith)) (rises (count_ahead order e xs) k d (omega arith) l))
      (cases_eq (count_ahead order e xs) k)

  moved : (u v y z : X) → u ≡ y → v ≡ z → order y z ≡ Less → order u v ≡ Less
  moved u v y z p q h = rw p (rw q h)

  module _ (i j : ℕ) (d : X) (lt : i < j) (l : j < length xs + 1) where
    from_above : count_ahead order e xs < i → order (get_or (list_with order e xs) i d) (get_or (list_with order e xs) j d) ≡ Less
    unfolding Rising
    from_above h = moved _ _ _ _ (above order e xs i d h) (above order e xs j d (omega arith)) (rises (i - 1) (j - 1) d (omega arith) (omega arith))

    from_it : i ≡ count_ahead order e xs → order (get_or (list_with order e xs) i d) (get_or (list_with order e xs) j d) ≡ Less
    from_it h = moved _ _ _ _ (at_it order e xs i d h) (above order e xs j d (omega arith)) (comes_after (j - 1) d (omega arith) (omega arith))

    from_below : i < count_ahead order e xs → order (get_or (list_with order e xs) i d) (get_or (list_with order e xs) j d) ≡ Less
    unfolding Rising
    from_below h = let n = ahead_le order e xs in ⊎_elim
        (λ (q : j ≡ count_ahead order e xs). moved _ _ _ _ (below order e xs i d h) (at_it order e xs j d q) (comes_before order e xs i d h))
        (⊎_elim
        (λ (q : j < count_ahead order e xs). moved _ _ _ _ (below order e xs i d h) (below order e xs j d q) (rises i j d lt (omega arith)))
        (λ (q : count_ahead order e xs < j). moved _ _ _ _ (below order e xs i d h) (above order e xs j d q) (rises i (j - 1) d (omega arith) (omega arith))))
        (cases_order j (count_ahead order e xs))

    in_order : order (get_or (list_with order e xs) i d) (get_or (list_with order e xs) j d) ≡ Less
    in_order = ⊎_elim from_it (⊎_elim from_below from_above) (cases_order i (count_ahead order e xs))

  pub rising_inserted : Rising order (list_with order e xs)
  unfolding Rising
  rising_inserted i j d lt l = in_order i j d lt (let n = length_inserted order e xs in omega arith)
