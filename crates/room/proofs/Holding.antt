-- What a run keeps for each bidder is the standing envelope.
use Rattle.std.proofs.Common.{◌≡◌, ℕ, zero, suc, ◌<◌, ◌≤◌, Bool, true, false, cond, eqb, ◌⊎◌, List, [], ◌∷◌, ◌++◌, length, Some, None, Ok, Err, Option, sym, refl, ap, ◌∙◌, subst, inl, inr, ⊎_elim, append_assoc, append-nil, arith}
use Rattle.std.specs.List.{slice_get}
use Rattle.std.proofs.lemmas.Slice.Eq.{bytes_eq-Decides}
use Rattle.std.proofs.lemmas.Bool.{eqb-true, eqb-false, cases_lt, cond-true}
use Rattle.envelope.specs.Letters.{amount_offered}
use Rattle.envelope.specs.Heads.{bidder_of, sequence_of}
use Rattle.room.specs.Sales.{Bytes, Sale, Lodging, Genuine, Standing, StandingAmount, opened_letter}
use Rattle.room.specs.Rooms.{sequence_in}
use Rattle.room.specs.Calls.{Call, LodgingOf, Asking, Closing, Opening, Answer}
use Rattle.room.specs.Runs.{lodgings_before_closing}
use Rattle.room.proofs.Law.{Kept, Taking, Ended, kept_in, nothing, verdict, kept_after, amount_for, after, meetings}
use Rattle.room.proofs.Verdicts.{granted, grants}

-- Places in a list with one more at its end.
pub nth_push : {X : Type 0} (xs : List X) (y x : X) (i : ℕ) → slice_get (xs ++ y ∷ []) i ≡ Some x → (slice_get xs i ≡ Some x) ⊎ ((i ≡ length xs) × (y ≡ x))
nth_push [] y x zero h = inr (refl, cc)
nth_push [] y x (suc i) h = inl h
nth_push (a ∷ xs) y x zero h = inl h
nth_push (a ∷ xs) y x (suc i) h = ⊎_elim inl (λ r. inr (ap suc r.0, r.1)) (nth_push xs y x i h)

pub nth_kept : {X : Type 0} (xs ys : List X) (x : X) (i : ℕ) → slice_get xs i ≡ Some x → slice_get (xs ++ ys) i ≡ Some x
nth_kept [] ys x i h = let z : ◌≡◌ {A = ℕ} 0 1 = cc in absurd (omega arith)
nth_kept (a ∷ xs) ys x zero h = h
nth_kept (a ∷ xs) ys x (suc i) h = nth_kept xs ys x i h

pub nth_last : {X : Type 0} (xs : List X) (y : X) → slice_get (xs ++ y ∷ []) (length xs) ≡ Some y
nth_last [] y = refl
nth_last (a ∷ xs) y = nth_last xs y

pub nth_within : {X : Type 0} (xs : List X) (x : X) (i : ℕ) → slice_get xs i ≡ Some x → i < length xs
nth_within [] x i h = let z : ◌≡◌ {A = ℕ} 0 1 = cc in absurd (omega arith)
nth_within (a ∷ xs) x zero h = omega arith
nth_within (a ∷ xs) x (suc i) h = let r = nth_within xs x i h in omega arith

module _ (s : Sale) where
  -- o is what is to be kept for b after ls: the envelope of the standing lodging.
  abbrev pub Held : List Lodging → ℕ → Option Bytes → Type 0
  Held ls b None = (i : ℕ) (x : Lodging) → slice_get ls i ≡ Some x → Genuine s x → bidder_of x.envelope ≡ b → ⊥
  Held ls b (Some e) = (l : Lodging) × Standing s ls b l × (l.envelope ≡ e)

  below : (ls : List Lodging) (b : ℕ) (o : Option Bytes) → Held ls b o → (i : ℕ) (x : Lodging) → slice_get ls i ≡ Some x → Genuine s x → bidder_of x.envelope ≡ b → sequence_of x.envelope ≤ sequence_in o
  below ls b None h i x at g of = absurd (h i x at g of)
  below ls b (Some e) (l, h, is) i x at g of = subst (λ z. sequence_of x.envelope ≤ sequence_of z) is (h.highest i x at g of)

  -- A lodging that is not above what stands leaves it standing.
  stands_still : (ls : List Lodging) (b : ℕ) (l y : Lodging) → Standing s ls b l → (Genuine s y → bidder_of y.envelope ≡ b → sequence_of y.envelope ≤ sequence_of l.envelope) → Standing s (ls ++ y ∷ []) b l
  stands_still ls b l y h low = record {
    place = h.place;
    there = nth_kept ls _ l h.place h.there;
    genuine = h.genuine;
    of = h.of;
    highest = λ i x at g of. ⊎_elim (λ old. h.highest i x old g of) (λ new. subst (λ z. sequence_of z.envelope ≤ sequence_of l.envelope) new.1 (low (subst (Genuine s) (sym new.1) g) (ap (λ z. bidder_of z.envelope) new.1 ∙ of))) (nth_push ls y x i at);
    earliest = λ i x at g of same. ⊎_elim (λ old. h.earliest i x old g of same) (λ new. let w = nth_within ls l h.place h.there in omega (arith, new.0)) (nth_push ls y x i at);
  }

  -- So one that is not above what is kept changes nothing.
  held_more : (ls : List Lodging) (b : ℕ) (o : Option Bytes) (y : Lodging) → Held ls b o → (Genuine s y → bidder_of y.envelope ≡ b → sequence_of y.envelope ≤ sequence_in o) → Held (ls ++ y ∷ []) b o
  held_more ls b None y h low =
      λ i x at g of. ⊎_elim (λ old. h i x old g of) (λ new. let g' : Genuine s y = subst (Genuine s) (sym new.1) g in let l = low g' (ap (λ z. bidder_of z.envelope) new.1 ∙ of) in let c = g'.counted in omega arith)
      (nth_push ls y x i at)
  held_more ls b (Some e) y (l, h, is) low =
      (l, stands_still ls b l y h (λ g of. subst (λ z. sequence_of y.envelope ≤ sequence_of z) (sym is) (low g of)), is)

  -- One above what is kept stands.
  held_new : (ls : List Lodging) (b : ℕ) (o : Option Bytes) (y : Lodging) → Held ls b o → Genuine s y → bidder_of y.envelope ≡ b → sequence_in o < sequence_of y.envelope → Held (ls ++ y ∷ []) b (Some y.envelope)
  held_new ls b o y h gy of_y up = (
    y,
    record {
      place = length ls;
      there = nth_last ls y;
      genuine = gy;
      of = of_y;
      highest = λ i x at g of. ⊎_elim (λ old. let l = below ls b o h i x old g of in omega arith) (λ new. subst (λ z. sequence_of z.envelope ≤ sequence_of y.envelope) new.1 (omega arith)) (nth_push ls y x i at);
      earliest = λ i x at g of same. ⊎_elim (λ old. let l = below ls b o h i x old g of in omega arith) (λ new. omega (arith, new.0)) (nth_push ls y x i at);
    },
    refl,
  )

  abbrev pub Holds : List Lodging → Kept → Type 0
  Holds ls k = (b : ℕ) → Held ls b (k b)

  -- One lodging.
  lodging_holds : (ls : List Lodging) (k : Kept) (l : Lodging) → Holds ls k → Holds (ls ++ l ∷ []) (kept_after (verdict s k l) k l.envelope)
  lodging_holds ls k l h b = by_verdict (verdict s k l) refl
    where
      by_test : (n : ℕ) (t : Bool) → eqb (bidder_of l.envelope) b ≡ t → verdict s k l ≡ Ok n → Held (ls ++ l ∷ []) b (cond t (Some l.envelope) (k b))
      by_test n true same v =
          let of = eqb-true _ _ same in
          let r = granted s k l n v in
          held_new ls b (k b) l (h b) r.0 of (subst (λ c. sequence_in (k c) < sequence_of l.envelope) of r.1)
      by_test n false other v = held_more ls b (k b) l (h b) (λ g of. absurd (eqb-false _ _ other of))

      by_verdict : (v : Answer) → verdict s k l ≡ v → Held (ls ++ l ∷ []) b (kept_after v k l.envelope b)
      by_verdict (Ok n) v = by_test n (eqb (bidder_of l.envelope) b) refl v
      by_verdict (Err f) v =
          held_more ls b (k b) l (h b) (λ g of. ⊎_elim (λ up. let c = grants s k l g (subst (λ c. sequence_in (k c) < sequence_of l.envelope) (sym of) up) in let z : ◌≡◌ {A = ℕ} 0 1 = cc in absurd (omega arith)) (λ low. low) (cases_lt (sequence_in (k b)) (sequence_of l.envelope)))

  -- Once closed, what is kept stays.
  pub ended_stays : (k : Kept) (cs : List Call) → after s (Ended k) cs ≡ Ended k
  ended_stays k [] = refl
  ended_stays k (c ∷ cs) = ended_stays k cs

  run_holds : (cs : List Call) (ls : List Lodging) (k : Kept) → Holds ls k → Holds (ls ++ lodgings_before_closing (meetings s (Taking k) cs)) (kept_in (after s (Taking k) cs))
  run_holds [] ls k h = subst (λ l. Holds l k) (sym (append-nil ls)) h
  run_holds (LodgingOf l ∷ cs) ls k h =
      let r = run_holds cs (ls ++ l ∷ []) (kept_after (verdict s k l) k l.envelope) (lodging_holds ls k l h) in
      subst (λ z. Holds z (kept_in (after s (Taking (kept_after (verdict s k l) k l.envelope)) cs))) (append_assoc ls (l ∷ []) _) r
  run_holds (Asking b ∷ cs) ls k h = run_holds cs ls k h
  run_holds (Closing ∷ cs) ls k h = subst (λ r. Holds (ls ++ []) (kept_in r)) (sym (ended_stays k cs)) (subst (λ l. Holds l k) (sym (append-nil ls)) h)
  run_holds (Opening o ∷ cs) ls k h = run_holds cs ls k h

  -- What a room keeps after the calls that it met since its making.
  pub keeps : (cs : List Call) → Holds (lodgings_before_closing (meetings s (Taking nothing) cs)) (kept_in (after s (Taking nothing) cs))
  keeps cs = run_holds cs [] nothing (λ b i x at. let z : ◌≡◌ {A = ℕ} 0 1 = cc in absurd (omega arith))

  -- One bidder, one standing envelope, one standing amount.
  pub standing_one : (ls : List Lodging) (b : ℕ) (e f : Lodging) → Standing s ls b e → Standing s ls b f → e ≡ f
  standing_one ls b e f h g =
      let up = h.highest g.place f g.there g.genuine g.of in
      let down = g.highest h.place e h.there h.genuine h.of in
      let there = h.earliest g.place f g.there g.genuine g.of (omega arith) in
      let back = g.earliest h.place e h.there h.genuine h.of (omega arith) in
      let same : h.place ≡ g.place = omega arith in
      let p = h.there in
      let q = g.there in
      cc

  -- The amount that is held for a bidder's standing envelope is that of its letter.
  standing_amount : (ls : List Lodging) (b : ℕ) (l : Lodging) → Standing s ls b l → amount_for s b (Some l.envelope) ≡ amount_offered (opened_letter s l.envelope)
  standing_amount ls b l h =
      ap (λ c. amount_for s c (Some l.envelope)) (sym h.of) ∙ cond-true _ _ _ ((bytes_eq-Decides _ _).1 h.genuine.right)

  pub amount_of_held : (ls : List Lodging) (b : ℕ) (o : Option Bytes) → Held ls b o → StandingAmount s ls b (amount_for s b o)
  amount_of_held ls b None h = inr (λ e st. h st.place e st.there st.genuine st.of, refl)
  amount_of_held ls b (Some e) (l, h, is) = inl (l, h, ap (λ z. amount_for s b (Some z)) (sym is) ∙ standing_amount ls b l h)

  pub amount_one : (ls : List Lodging) (b m n : ℕ) → StandingAmount s ls b m → StandingAmount s ls b n → m ≡ n
  amount_one ls b m n (inl h) (inl g) = h.2 ∙ ap (λ l. amount_offered (opened_letter s l.envelope)) (standing_one ls b h.0 g.0 h.1 g.1) ∙ sym g.2
  amount_one ls b m n (inl h) (inr g) = absurd (g.0 h.0 h.1)
  amount_one ls b m n (inr h) (inl g) = absurd (h.0 g.0 g.1)
  amount_one ls b m n (inr h) (inr g) = h.1 ∙ sym g.1
