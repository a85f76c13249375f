-- An entry that comes after all others is granted the next place.
use Rattle.std.proofs.Common.{◌≡◌, ℕ, zero, suc, ◌+◌, ◌<◌, ◌≤◌, false, List, [], ◌∷◌, ◌++◌, length, get_or, take, drop, set, None, Ordering, Less, sym, refl, ap, ◌∙◌, ⊎_elim, add-one, arith}
use Rattle.std.specs.Ordering.{is_eq, is_lt}
use Rattle.std.proofs.lemmas.List.{append_assoc, drop_all, get_or-take, length-take-le, set_split, take_all}
use Rattle.std.proofs.lemmas.Bool.{cases_lt, lt-ltb, or_from, true≢false}
use Rattle.list.specs.Insertion.{has_equal, count_ahead, list_with, refusal, places_after}
use Rattle.list.proofs.Inserted.{ahead_le, not_before}

module _ {X : Type 0} (order : X → X → Ordering) (e : X) where
  pub none_equal : (xs : List X) → ((k : ℕ) (d : X) → k < length xs → order (get_or xs k d) e ≡ Less) → has_equal order e xs ≡ false
  unfolding has_equal
  none_equal [] h = refl
  none_equal (x ∷ xs) h = or_from (is_eq (order x e)) (has_equal order e xs) (ap is_eq (h zero x (omega arith))) (none_equal xs (λ k d l. h (suc k) d (omega arith)))

  module _ (xs : List X) (last : (k : ℕ) (d : X) → k < length xs → order (get_or xs k d) e ≡ Less) where
    all_ahead : count_ahead order e xs ≡ length xs
    all_ahead =
        let u = ahead_le order e xs in
        ⊎_elim
        (λ (h : count_ahead order e xs < length xs). absurd (true≢false (sym (ap is_lt (last (count_ahead order e xs) e h)) ∙ not_before order e xs e h)))
        (λ (h : length xs ≤ count_ahead order e xs). omega arith)
        (cases_lt (count_ahead order e xs) (length xs))

    pub inserted_last : list_with order e xs ≡ xs ++ e ∷ []
    unfolding list_with
    inserted_last = rw all_ahead (rw (take_all (length xs) xs (omega arith)) (rw (drop_all (length xs) xs (omega arith)) refl))

  module _ (ps : List X) (n : ℕ) (room : n < length ps) (last : (k : ℕ) (d : X) → k < n → order (get_or ps k d) e ≡ Less) where
    within : (k : ℕ) (d : X) → k < length (take n ps) → order (get_or (take n ps) k d) e ≡ Less
    within k d h =
        let w : length (take n ps) ≡ n = length-take-le n ps (omega arith) in
        let l : k < n = omega arith in
        ap (λ z. order z e) (get_or-take n ps k d l) ∙ last k d l

    -- such an entry is granted the next place, if there is one
    pub last_not_refused : refusal order e ps n ≡ None
    last_not_refused = rw (none_equal (take n ps) within) (rw (lt-ltb n (length ps) room) refl)

    pub last_placed : places_after order e ps n ≡ set ps n e
    last_placed =
        rw last_not_refused
        (rw (inserted_last (take n ps) within)
        (append_assoc (take n ps) (e ∷ []) (drop (n + 1) ps) ∙ ap (λ k. take n ps ++ (e ∷ drop k ps)) (add-one n) ∙ sym (set_split ps n e room)))
