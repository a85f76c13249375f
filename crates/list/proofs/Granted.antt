-- What a granted insertion leaves, and how many places there are after any.
use Rattle.std.proofs.Common.{◌≡◌, ℕ, ◌+◌, ◌-◌, ◌<◌, ◌≤◌, Bool, true, false, ltb, List, ◌∷◌, ◌++◌, length, take, drop, Some, None, Ok, Err, Option, Result, Ordering, sym, refl, ap, ◌∙◌, subst, arith}
use Rattle.std.proofs.lemmas.List.{append_assoc, drop-take, length-append, length-drop, length-take-le, take_at, take-take}
use Rattle.std.proofs.lemmas.Bool.{ltb-true}
use Rattle.list.specs.Insertion.{has_equal, count_ahead, list_with, refusal, unless_refused, answer_of, count_after, places_after}
use Rattle.list.specs.Keeping.{RisingStaysRising, GainsOneEntry}
use Rattle.list.specs.Order.{TotalOrder, Rising}
use Rattle.list.specs.declared.faults.ListFault.{ListFault}
use Rattle.list.specs.declared.faults.ListFault.TheVariants.{EqualEntry, Full}
use Rattle.list.proofs.Inserted.{ahead_le, length_inserted, gains_one_entry}
use Rattle.list.proofs.Rises.{rising_inserted}

-- an answer r that is `Ok` refuses nothing
pub not_refused : (o : Option ListFault) (r : Result (Unit {0}) ListFault) → r ≡ Ok tt → r ≡ unless_refused o (Ok tt) Err → o ≡ None
not_refused None r p q = refl
not_refused (Some why) r p q = absurd (let z : ◌≡◌ {A = ℕ} 0 1 = cc in omega arith)

module _ {X : Type 0} (order : X → X → Ordering) (e : X) (ps : List X) (n : ℕ) where
  granted_by : (a b : Bool) → has_equal order e (take n ps) ≡ a → ltb n (length ps) ≡ b → refusal order e ps n ≡ None → (has_equal order e (take n ps) ≡ false) × (n < length ps)
  granted_by true b p q h = absurd (let k : Some EqualEntry ≡ None = rw p at h in let z : ◌≡◌ {A = ℕ} 0 1 = cc in omega arith)
  granted_by false false p q h = absurd (let k : Some Full ≡ None = rw (p, q) at h in let z : ◌≡◌ {A = ℕ} 0 1 = cc in omega arith)
  granted_by false true p q h = (p, ltb-true n (length ps) q)

  -- no entry is equal in order, and there is a place left
  pub granted : refusal order e ps n ≡ None → (has_equal order e (take n ps) ≡ false) × (n < length ps)
  granted = granted_by (has_equal order e (take n ps)) (ltb n (length ps)) refl refl

  -- the count was made over the entries xs
  pub ahead_of : (at : ℕ) (xs : List X) → xs ≡ take n ps → at ≡ count_ahead order e xs → at ≡ count_ahead order e (take n ps)
  ahead_of at xs p q = q ∙ ap (count_ahead order e) p

  pub ahead_within : (at : ℕ) → n < length ps → at ≡ count_ahead order e (take n ps) → at ≤ n
  ahead_within at l q = let u = ahead_le order e (take n ps) in let v = length-take-le n ps (omega arith) in omega arith

  -- to store e behind those ahead of it is to insert it
  pub stored_is : (at : ℕ) → n < length ps → at ≡ count_ahead order e (take n ps) → take at ps ++ (e ∷ (take (n - at) (drop at ps) ++ drop (n + 1) ps)) ≡ list_with order e (take n ps) ++ drop (n + 1) ps
  unfolding list_with
  stored_is at l q =
      let u = ahead_within at l q in
      let t : take at (take n ps) ≡ take at ps = take-take at n ps u in
      let s : n ≡ at + (n - at) = omega arith in
      let d : drop at (take n ps) ≡ take (n - at) (drop at ps) = ap (λ k. drop at (take k ps)) s ∙ drop-take at (n - at) ps in
      let i : list_with order e (take n ps) ≡ take at ps ++ (e ∷ take (n - at) (drop at ps)) = ap (λ k. take k (take n ps) ++ (e ∷ drop k (take n ps))) (sym q) ∙ rw t (rw d refl) in
      sym (ap (λ z. z ++ drop (n + 1) ps) i ∙ append_assoc (take at ps) (e ∷ take (n - at) (drop at ps)) (drop (n + 1) ps))

  entries_inserted : n < length ps → take (n + 1) (list_with order e (take n ps) ++ drop (n + 1) ps) ≡ list_with order e (take n ps)
  entries_inserted l = take_at (list_with order e (take n ps)) (drop (n + 1) ps) (n + 1) (length_inserted order e (take n ps) ∙ ap (λ k. k + 1) (length-take-le n ps (omega arith)))

  pub granted_entries : refusal order e ps n ≡ None → take (n + 1) (places_after order e ps n) ≡ list_with order e (take n ps)
  granted_entries h = rw h (entries_inserted (granted h).1)

  length_by : (a b : Bool) → has_equal order e (take n ps) ≡ a → ltb n (length ps) ≡ b → length (places_after order e ps n) ≡ length ps
  length_by true b p q = rw p refl
  length_by false false p q = rw p (rw q refl)
  length_by false true p q =
      let l = ltb-true n (length ps) q in
      let i = length_inserted order e (take n ps) in
      let w : length (take n ps) ≡ n = length-take-le n ps (omega arith) in
      let d = length-drop (n + 1) ps in
      rw p (rw q (length-append (list_with order e (take n ps)) (drop (n + 1) ps) ∙ omega arith))

  pub length_places_after : length (places_after order e ps n) ≡ length ps
  length_places_after = length_by (has_equal order e (take n ps)) (ltb n (length ps)) refl refl

  -- e was stored behind the entries ahead of it, and the places are qs since then
  module _ (none : refusal order e ps n ≡ None) (at : ℕ) (qs : List X) (found : at ≡ count_ahead order e (take n ps)) (stored : qs ≡ take at ps ++ (e ∷ (take (n - at) (drop at ps) ++ drop (n + 1) ps))) where
    pub answer_is : Ok (n + 1) ≡ answer_of order e ps n
    answer_is = rw none refl

    pub count_is : n + 1 ≡ count_after order e ps n
    count_is = rw none refl

    pub places_are : qs ≡ places_after order e ps n
    places_are = rw none (stored ∙ stored_is at (granted none).1 found)

    entries_are : take (n + 1) qs ≡ list_with order e (take n ps)
    entries_are = ap (take (n + 1)) places_are ∙ granted_entries none

    pub rising_after : TotalOrder order → RisingStaysRising order (take n ps) (take (n + 1) qs)
    rising_after total h = subst (Rising order) (sym entries_are) (rising_inserted order total e (take n ps) h (granted none).0)

    pub gains_after : GainsOneEntry e (take n ps) (take (n + 1) qs)
    gains_after = subst (GainsOneEntry e (take n ps)) (sym entries_are) (gains_one_entry order e (take n ps))
