-- Facts about a list with one more entry in it: its length, its entries, and that it rises.
use Rattle.std.proofs.Common.{◌≡◌, ℕ, zero, suc, ◌+◌, ◌-◌, ◌<◌, ◌≤◌, true, false, ◌⊎◌, List, [], ◌∷◌, length, get_or, Ordering, Less, Equal, Greater, sym, refl, ap, ◌∙◌, inl, inr, ⊎_elim, arith}
use Rattle.std.specs.Ordering.{is_eq, is_lt}
use Rattle.std.specs.List.{ContainsAt}
use Rattle.std.proofs.lemmas.List.Edits.{length-insert as length_put_in, get_or-insert_below, get_or-insert_at, get_or-insert_above}
use Rattle.std.proofs.lemmas.List.Sums.{prefix_len-le-length, prefix_len_passes, prefix_len_stops}
use Rattle.std.proofs.lemmas.Bool.{cases_order, or_parts, true≢false}
use Rattle.list.specs.Insertion.{has_equal, count_ahead, list_with}
use Rattle.list.specs.Keeping.{GainsOneEntry}

pub less_is : (o : Ordering) → is_lt o ≡ true → o ≡ Less
less_is Less h = refl
less_is Equal h = absurd (true≢false (sym h))
less_is Greater h = absurd (true≢false (sym h))

pub greater_is : (o : Ordering) → is_lt o ≡ false → is_eq o ≡ false → o ≡ Greater
greater_is Less h k = absurd (true≢false h)
greater_is Equal h k = absurd (true≢false k)
greater_is Greater h k = refl

pub unequal_at : {X : Type 0} (order : X → X → Ordering) (e : X) (xs : List X) (k : ℕ) (d : X) → has_equal order e xs ≡ false → k < length xs → is_eq (order (get_or xs k d) e) ≡ false
unfolding has_equal
unequal_at order e [] k d h l = absurd (omega arith)
unequal_at order e (x ∷ xs) zero d h l = (or_parts (is_eq (order x e)) (has_equal order e xs) h).0
unequal_at order e (x ∷ xs) (suc k) d h l = unequal_at order e xs k d (or_parts (is_eq (order x e)) (has_equal order e xs) h).1 (omega arith)

module _ {X : Type 0} (order : X → X → Ordering) (e : X) (xs : List X) where
  pub ahead_le : count_ahead order e xs ≤ length xs
  unfolding count_ahead
  ahead_le = prefix_len-le-length (λ x. is_lt (order x e)) xs

  pub comes_before : (k : ℕ) (d : X) → k < count_ahead order e xs → order (get_or xs k d) e ≡ Less
  unfolding count_ahead
  comes_before k d h = less_is _ (prefix_len_passes (λ x. is_lt (order x e)) xs k d h)

  pub not_before : (d : X) → count_ahead order e xs < length xs → is_lt (order (get_or xs (count_ahead order e xs) d) e) ≡ false
  unfolding count_ahead
  not_before d h = prefix_len_stops (λ x. is_lt (order x e)) xs d h

  pub length_inserted : length (list_with order e xs) ≡ length xs + 1
  unfolding list_with
  length_inserted = length_put_in xs (count_ahead order e xs) e ahead_le

  pub below : (k : ℕ) (d : X) → k < count_ahead order e xs → get_or (list_with order e xs) k d ≡ get_or xs k d
  unfolding list_with
  below k d h = get_or-insert_below xs (count_ahead order e xs) e d k h ahead_le

  pub at_it : (k : ℕ) (d : X) → k ≡ count_ahead order e xs → get_or (list_with order e xs) k d ≡ e
  unfolding list_with
  at_it k d h = ap (λ z. get_or (list_with order e xs) z d) h ∙ get_or-insert_at xs (count_ahead order e xs) e d ahead_le

  pub above : (k : ℕ) (d : X) → count_ahead order e xs < k → get_or (list_with order e xs) k d ≡ get_or xs (k - 1) d
  unfolding list_with
  above k d h =
      let s : k ≡ (k - 1) + 1 = omega arith in
      ap (λ z. get_or (list_with order e xs) z d) s ∙ get_or-insert_above xs (count_ahead order e xs) e d (k - 1) (omega arith) ahead_le

  kept : (x : X) → ContainsAt xs x → ContainsAt (list_with order e xs) x
  kept x (k, l, is) = let n = length_inserted in ⊎_elim
      (λ (h : k ≡ count_ahead order e xs). (k + 1, omega arith, λ d. above (k + 1) d (omega arith) ∙ ap (λ z. get_or xs z d) (omega arith) ∙ is d))
      (⊎_elim
      (λ (h : k < count_ahead order e xs). (k, omega arith, λ d. below k d h ∙ is d))
      (λ (h : count_ahead order e xs < k). (k + 1, omega arith, λ d. above (k + 1) d (omega arith) ∙ ap (λ z. get_or xs z d) (omega arith) ∙ is d)))
      (cases_order k (count_ahead order e xs))

  there : ContainsAt (list_with order e xs) e
  there = let n = length_inserted in let m = ahead_le in (count_ahead order e xs, omega arith, λ d. at_it (count_ahead order e xs) d refl)

  no_others : (x : X) → ContainsAt (list_with order e xs) x → ContainsAt xs x ⊎ (e ≡ x)
  no_others x (k, l, is) = let n = length_inserted in ⊎_elim
      (λ (h : k ≡ count_ahead order e xs). inr (sym (at_it k e h) ∙ is e))
      (⊎_elim
      (λ (h : k < count_ahead order e xs). inl (k, (let m = ahead_le in omega arith), λ d. sym (below k d h) ∙ is d))
      (λ (h : count_ahead order e xs < k). inl (k - 1, omega arith, λ d. sym (above k d h) ∙ is d)))
      (cases_order k (count_ahead order e xs))

  pub gains_one_entry : GainsOneEntry e xs (list_with order e xs)
  gains_one_entry = record { every_entry_kept = kept; has_the_new_one = there; has_no_others = no_others; is_one_longer = length_inserted }
