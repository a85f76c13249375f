-- When a list of checks grants, and when a lodging is granted.
use Rattle.std.proofs.Common.{◌≡◌, ℕ, ◌<◌, Bool, true, false, cond, List, [], ◌∷◌, length, Ok, Err, Result, sym, refl, ◌∙◌, arith}
use Rattle.std.specs.List.{AllByRecursion}
use Rattle.std.specs.Str.{bytes_eq}
use Rattle.std.proofs.lemmas.Bool.{eqb-true, eq-eqb, ltb-true, lt-ltb}
use Rattle.std.proofs.lemmas.Slice.Eq.{bytes_eq-Decides}
use Rattle.fault.specs.Checks.{Check, decision}
use Rattle.envelope.specs.Heads.{lot_of, bidder_of, sequence_of}
use Rattle.envelope.specs.Envelopes.{tag_part}
use Rattle.room.specs.Sales.{Sale, Lodging, Genuine, tag_due}
use Rattle.room.specs.Rooms.{sequence_in}
use Rattle.room.proofs.Law.{Kept, checks_by, verdict_by, verdict}
use Rattle.room.specs.declared.faults.RoomFault.{RoomFault}

abbrev pub Passes : {F : Type 0} → List (Check F) → Type 0
Passes cs = AllByRecursion (λ c. c.0 ≡ true) cs

pub passes : {X F : Type 0} (cs : List (Check F)) (x y : X) → decision cs x ≡ Ok y → Passes cs
passes [] x y h = tt
passes {X} {F} (c ∷ cs) x y h = go c.0 refl (λ n. passes cs x y n) h
  where
    go : (t : Bool) → c.0 ≡ t → (decision cs x ≡ Ok y → Passes cs) → cond t (decision cs x) (Err c.1) ≡ Ok y → Passes (c ∷ cs)
    go true e rest n = (e, rest n)
    go false e rest n = let z : ◌≡◌ {A = ℕ} 0 1 = cc in absurd (omega arith)

pub grants_all : {X F : Type 0} (cs : List (Check F)) (x : X) → Passes cs → decision cs x ≡ Ok x
grants_all [] x h = refl
grants_all (c ∷ cs) x h = rw h.0 (grants_all cs x h.1)

-- A granted answer is the one that was to be given.
pub granted_value : {X F : Type 0} (cs : List (Check F)) (x y : X) → decision cs x ≡ Ok y → x ≡ y
granted_value {X} {F} cs x y h =
    let g : decision cs x ≡ Ok x = grants_all cs x (passes cs x y h) in
    let e : ◌≡◌ {A = Result X F} (Ok x) (Ok y) = sym g ∙ h in
    cc

module _ (s : Sale) (k : Kept) (l : Lodging) where
  abbrev e : List ℕ
  e = l.envelope

  abbrev checks : List (Check RoomFault)
  checks =
      checks_by s (length e) (lot_of e) (bidder_of e) (sequence_of e) (sequence_in (k (bidder_of e))) (bytes_eq (tag_part e) (tag_due s e))

  pub granted : (n : ℕ) → verdict s k l ≡ Ok n → Genuine s l × (sequence_in (k (bidder_of e)) < sequence_of e)
  unfolding verdict_by
  granted n h =
      let p = passes checks (sequence_of e) n h in
      let up : sequence_in (k (bidder_of e)) < sequence_of e = ltb-true _ _ p.1.1.1.0 in (
        record {
          long = eqb-true _ _ p.0;
          lot = eqb-true _ _ p.1.0;
          known = p.1.1.0;
          counted = omega arith;
          right = (bytes_eq-Decides _ _).0 p.1.1.1.1.0;
        },
        up,
      )

  pub grants : Genuine s l → sequence_in (k (bidder_of e)) < sequence_of e → verdict s k l ≡ Ok (sequence_of e)
  unfolding verdict_by
  grants g up =
      grants_all checks (sequence_of e) (eq-eqb _ _ g.long, (eq-eqb _ _ g.lot, (g.known, (lt-ltb _ _ up, ((bytes_eq-Decides _ _).1 g.right, tt)))))
