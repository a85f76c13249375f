-- Each way out of lodging and asking.
use Rattle.std.proofs.Common.{◌≡◌, ℕ, ◌^◌, ◌<◌, ◌≤◌, Bool, true, false, cond, eqb, ltb, List, [], ◌∷◌, length, get_or, take, set, Some, Ok, Err, Result, sym, refl, ap, ◌∙◌, arith}
use Rattle.std.specs.Int.Digits.{AllBelowBase}
use Rattle.std.specs.Str.{bytes_eq}
use Rattle.std.proofs.lemmas.Bool.{eq-eqb, eqb-true, lt-ltb, le-ltb}
use Rattle.std.proofs.lemmas.List.{get_or-take, length-take, length-drop, set-get_or}
use Rattle.std.proofs.Math.Seq.{take-set-lt}
use Rattle.fault.specs.Checks.{Check, decision, by_answer}
use Rattle.engine.specs.declared.variants.Variant.{Variant}
use Rattle.cipher.specs.Mode.{tag_size}
use Rattle.cipher.specs.declared.faults.CipherFault.TheVariants.{WrongTag as CipherWrongTag}
use Rattle.envelope.specs.Heads.{lot_of, bidder_of, sequence_of}
use Rattle.envelope.specs.declared.heads.HeadFields.{HeadFields}
use Rattle.envelope.specs.Envelopes.{envelope_size, tag_part, right_tag}
use Rattle.envelope.specs.Parts.{BidParts, bid_of}
use Rattle.envelope.proofs.Laws.{head_back}
use Rattle.room.specs.Sales.{Bytes, is_registered, key_of, tag_due}
use Rattle.room.specs.Rooms.{Contents, register_of, sale_of, kept_for, sequence_in, filled_slot, holding_of}
use Rattle.room.specs.Calls.{LodgingOf, Asking, Answer, answer_to, room_after, head_checks, tag_checks, fields_of, lodging_checks, with_holdings, PlainFields, plain_fields, place_after, Met}
use Rattle.room.specs.Reading.{bid_checks, filled_by}
use Rattle.room.specs.Admission.{admission}
use Rattle.room.specs.Slots.{room_of, IsFirst, HasNone}
use Rattle.room.specs.declared.admission.Op.TheVariants.{Lodge}
use Rattle.room.specs.declared.faults.RoomFault.{RoomFault}
use Rattle.room.specs.declared.faults.RoomFault.TheVariants.{Closed, EnvelopeLength, OtherLot, UnknownBidder, SequenceNotAbove, WrongTag}
use Rattle.room.specs.declared.slots.Phase.{Phase}
use Rattle.room.specs.declared.slots.Phase.TheVariants.{Open, Closed as PhaseClosed}
use Rattle.room.specs.declared.slots.Slot.{Slot}
use Rattle.room.specs.declared.state.RoomState.{RoomState}
use Rattle.room.proofs.CodeChecks.{not_both, same_value, same_reason, decided_front}
use Rattle.room.proofs.CodeReading.{filled_by_bid, checks_of_bid}
use Rattle.room.proofs.CodeSlots.{no_slot, last_is, kept_is, none_known, placed, put_at, filled_at}

-- What lodging into the slots of an open room promises.
pub record Lodged (v : Variant) (lot : ℕ) (terms : Bytes) (before : List Slot) (e : Bytes) (a : Answer) (after : List Slot) : Type 0 where
  pub answers : a ≡ answer_to (room_of v lot terms Open before) (LodgingOf (record { envelope = e }))
  pub leaves : room_of v lot terms Open after ≡ room_after (room_of v lot terms Open before) (LodgingOf (record { envelope = e }))

-- What is known once the bid is read: of the envelope, and of the bid.
read_passed : (v : Variant) (lot : ℕ) (e : Bytes) (b : BidParts) → ◌≡◌ {A = Result BidParts RoomFault} (Ok b) (decision (head_checks v lot e) (bid_of e))
    → (length e ≡ envelope_size v) × (lot_of e ≡ lot) × (b ≡ bid_of e)
read_passed v lot e b read = go (eqb (length e) (envelope_size v)) refl (eqb (lot_of e) lot) refl read
  where
    go : (t : Bool) → eqb (length e) (envelope_size v) ≡ t → (u : Bool) → eqb (lot_of e) lot ≡ u
        → ◌≡◌ {A = Result BidParts RoomFault} (Ok b) (cond t (cond u (Ok (bid_of e)) (Err OtherLot)) (Err EnvelopeLength))
        → (length e ≡ envelope_size v) × (lot_of e ≡ lot) × (b ≡ bid_of e)
    go true et true eu q = (eqb-true _ _ et, eqb-true _ _ eu, same_value b (bid_of e) q)
    go true et false eu q = absurd (not_both b OtherLot q)
    go false et u eu q = absurd (not_both b EnvelopeLength q)

pub head_read : (v : Variant) (lot : ℕ) (e : Bytes) (b : BidParts) → ◌≡◌ {A = Result BidParts RoomFault} (Ok b) (decision (head_checks v lot e) (bid_of e))
    → (length e ≡ envelope_size v) × (lot_of e ≡ lot) × (b.head ≡ fields_of e)
head_read v lot e b read = let p = read_passed v lot e b read in (p.0, p.1, ap (λ z. z.head) p.2)

pub tag_read : (v : Variant) (lot : ℕ) (e : Bytes) (b : BidParts) → ◌≡◌ {A = Result BidParts RoomFault} (Ok b) (decision (head_checks v lot e) (bid_of e)) → length b.tag ≡ tag_size v
tag_read v lot e b read = let p = read_passed v lot e b read in ap (λ z. length z.tag) p.2 ∙ length-drop 76 e ∙ omega (arith, p.0)

-- What is known on the way, in the program's order.
module _ (v : Variant) (lot : ℕ) (terms : Bytes) (xs : List Slot) (e : Bytes) where
  abbrev before : Contents
  before = room_of v lot terms Open xs

  refused : (f : RoomFault) → ◌≡◌ {A = Answer} (decision (lodging_checks before (record { envelope = e })) (sequence_of e)) (Err f) → Lodged v lot terms xs e (Err f) xs
  refused f h = record { answers = sym h; leaves = rw h }

  abbrev later_checks : List (Check RoomFault)
  later_checks =
      (is_registered (register_of before) (bidder_of e), UnknownBidder) ∷ ((ltb (sequence_in (kept_for before.holdings (bidder_of e))) (sequence_of e), SequenceNotAbove)
      ∷ ((bytes_eq (tag_part e) (tag_due (sale_of before) e), WrongTag (bidder_of e) (sequence_of e) CipherWrongTag) ∷ []))

  pub way_head : (f : RoomFault) → ◌≡◌ {A = Result BidParts RoomFault} (Err f) (decision (head_checks v lot e) (bid_of e)) → Lodged v lot terms xs e (Err f) xs
  unfolding lodging_checks
  way_head f h = refused f (decided_front (head_checks v lot e) later_checks (bid_of e) (sequence_of e) f h)

  module _ (head : HeadFields) (read : (length e ≡ envelope_size v) × (lot_of e ≡ lot) × (head ≡ fields_of e)) where
    its_bidder : head.bidder ≡ bidder_of e
    its_bidder = ap (λ h. h.bidder) read.2

    its_sequence : head.sequence ≡ sequence_of e
    its_sequence = ap (λ h. h.sequence) read.2

    fails_known : is_registered (register_of before) (bidder_of e) ≡ false → ◌≡◌ {A = Answer} (decision (lodging_checks before (record { envelope = e })) (sequence_of e)) (Err UnknownBidder)
    unfolding lodging_checks
    fails_known h = rw (eq-eqb _ _ read.0, eq-eqb _ _ read.1, h)

    pub way_unknown : HasNone xs head.bidder → Lodged v lot terms xs e (Err UnknownBidder) xs
    way_unknown h = refused UnknownBidder (fails_known (none_known v lot no_slot xs (bidder_of e) (λ k d l q. h k d l (q ∙ sym its_bidder))))

    module _ (i : ℕ) (found : IsFirst xs head.bidder i) (small : (get_or xs i no_slot).sequence < 2 ^ 32) where
      abbrev key : Bytes
      key = (get_or xs i no_slot).key

      at_here : (get_or xs i no_slot).bidder ≡ bidder_of e
      at_here = found.1 no_slot ∙ its_bidder

      at_first : (k : ℕ) → k < i → (get_or xs k no_slot).bidder ≡ bidder_of e → ⊥
      at_first k l q = found.2 k no_slot l (q ∙ sym its_bidder)

      at_known : is_registered (register_of before) (bidder_of e) ≡ true
      at_known = (placed v lot no_slot xs i (bidder_of e) found.0 at_here at_first).0

      at_key : key_of (register_of before) (bidder_of e) ≡ key
      at_key = (placed v lot no_slot xs i (bidder_of e) found.0 at_here at_first).1

      at_last : sequence_in (kept_for before.holdings (bidder_of e)) ≡ (get_or xs i no_slot).sequence
      at_last = ap sequence_in (placed v lot no_slot xs i (bidder_of e) found.0 at_here at_first).2 ∙ last_is v lot (get_or xs i no_slot) small

      fails_stale : sequence_of e ≤ sequence_in (kept_for before.holdings (bidder_of e)) → ◌≡◌ {A = Answer} (decision (lodging_checks before (record { envelope = e })) (sequence_of e)) (Err SequenceNotAbove)
      unfolding lodging_checks
      fails_stale h = rw (eq-eqb _ _ read.0, eq-eqb _ _ read.1, at_known, le-ltb _ _ h)

      pub way_stale : head.sequence ≤ (get_or xs i no_slot).sequence → Lodged v lot terms xs e (Err SequenceNotAbove) xs
      way_stale h = refused SequenceNotAbove (fails_stale (omega (arith, at_last, its_sequence, h)))

      module _ (up : (get_or xs i no_slot).sequence < head.sequence) where
        at_up : sequence_in (kept_for before.holdings (bidder_of e)) < sequence_of e
        at_up = omega (arith, at_last, its_sequence, up)

        at_right : bytes_eq (tag_part e) (tag_due (sale_of before) e) ≡ bytes_eq (tag_part e) (right_tag v key terms e)
        at_right = ap (λ k. bytes_eq (tag_part e) (right_tag v k terms e)) at_key

        fails_tag : bytes_eq (tag_part e) (right_tag v key terms e) ≡ false → ◌≡◌ {A = Answer} (decision (lodging_checks before (record { envelope = e })) (sequence_of e)) (Err (WrongTag (bidder_of e) (sequence_of e) CipherWrongTag))
        unfolding lodging_checks
        fails_tag h = rw (eq-eqb _ _ read.0, eq-eqb _ _ read.1, at_known, lt-ltb _ _ at_up, at_right ∙ h)

        none_fails : bytes_eq (tag_part e) (right_tag v key terms e) ≡ true → ◌≡◌ {A = Answer} (decision (lodging_checks before (record { envelope = e })) (sequence_of e)) (Ok (sequence_of e))
        unfolding lodging_checks
        none_fails h = rw (eq-eqb _ _ read.0, eq-eqb _ _ read.1, at_known, lt-ltb _ _ at_up, at_right ∙ h)

        way_tag : bytes_eq (tag_part e) (right_tag v key terms e) ≡ false → Lodged v lot terms xs e (Err (WrongTag head.bidder head.sequence CipherWrongTag)) xs
        way_tag h = rw (its_bidder, its_sequence) (refused _ (fails_tag h))

        way_granted : AllBelowBase 256 e → bytes_eq (tag_part e) (right_tag v key terms e) ≡ true → Lodged v lot terms xs e (Ok head.sequence) (set xs i (filled_slot (get_or xs i no_slot) head.sequence e))
        way_granted under h =
            let none = none_fails h in
            let k : holding_of v lot (filled_slot (get_or xs i no_slot) head.sequence e) ≡ record { bidder = (get_or xs i no_slot).bidder; key = (get_or xs i no_slot).key; envelope = Some e } =
            ap (λ n. holding_of v lot (filled_slot (get_or xs i no_slot) n e)) its_sequence ∙ kept_is v lot (get_or xs i no_slot) e read.0 (head_back e (omega (arith, read.0)) under) read.1 at_here (omega (arith, at_up)) in
            record {
              answers = ap (λ n. Ok n) its_sequence ∙ sym none;
              leaves = rw none (ap (λ hs. with_holdings hs before) (put_at v lot no_slot e xs i _ found.0 at_here at_first k));
            }

        -- By the test of the tag.
        by_tag : AllBelowBase 256 e → (t : Bool) → bytes_eq (tag_part e) (right_tag v key terms e) ≡ t → (a : Answer) (y : Slot)
            → a ≡ decision ((t, WrongTag head.bidder head.sequence CipherWrongTag) ∷ []) head.sequence → y ≡ by_answer a (filled_slot (get_or xs i no_slot) head.sequence e) (get_or xs i no_slot) → Lodged v lot terms xs e a (set xs i y)
        by_tag under true q a y h k =
            let g : y ≡ filled_slot (get_or xs i no_slot) head.sequence e = k ∙ ap (λ z. by_answer z (filled_slot (get_or xs i no_slot) head.sequence e) (get_or xs i no_slot)) h in
            rw (h, g) (way_granted under q)
        by_tag under false q a y h k =
            let g : y ≡ get_or xs i no_slot = k ∙ ap (λ z. by_answer z (filled_slot (get_or xs i no_slot) head.sequence e) (get_or xs i no_slot)) h in
            let u : set xs i y ≡ xs = ap (set xs i) g ∙ set-get_or xs i no_slot in
            rw (h, u) (way_tag q)

        pub way_kept : AllBelowBase 256 e → (a : Answer) (y : Slot)
            → a ≡ decision (tag_checks v key terms head e) head.sequence
            → y ≡ by_answer a (filled_slot (get_or xs i no_slot) head.sequence e) (get_or xs i no_slot) → Lodged v lot terms xs e a (set xs i y)
        way_kept under = by_tag under (bytes_eq (tag_part e) (right_tag v key terms e)) refl

-- A lodging upon a room, by its phase.
module _ (v : Variant) (lot : ℕ) (terms : Bytes) (xs : List Slot) (e : Bytes) where
  in_open : (a : Answer) (ys : List Slot) → Lodged v lot terms xs e a ys → (p : Phase) → ◌≡◌ {A = Result (Unit {0}) RoomFault} (Ok tt) (admission p Lodge)
      → (a ≡ answer_to (room_of v lot terms p xs) (LodgingOf (record { envelope = e }))) × (room_of v lot terms p ys ≡ room_after (room_of v lot terms p xs) (LodgingOf (record { envelope = e })))
  in_open a ys l Open o = (l.answers, l.leaves)
  in_open a ys l PhaseClosed o = absurd (not_both tt Closed o)

  in_closed : (f : RoomFault) (p : Phase) → ◌≡◌ {A = Result (Unit {0}) RoomFault} (Err f) (admission p Lodge)
      → ◌≡◌ {A = Answer} (answer_to (room_of v lot terms p xs) (LodgingOf (record { envelope = e }))) (Err f)
  unfolding lodging_checks
  in_closed f Open h = absurd (not_both tt f (sym h))
  in_closed f PhaseClosed h = ap (λ g. Err g) (sym (same_reason f Closed h))

-- The room that a place holds is told by its plain fields.
abbrev held_by : Variant → PlainFields → Contents
held_by v p = room_of v p.lot (take p.terms_bytes p.terms) p.phase (take p.count p.slots)

abbrev with_slots : RoomState → List Slot → PlainFields
with_slots r ss = record (plain_fields r) { slots = ss }

pub met_open : (v : Variant) (r t : RoomState) (ys zs : List Slot) (e : Bytes) (a : Answer) → ◌≡◌ {A = Result (Unit {0}) RoomFault} (Ok tt) (admission r.phase Lodge)
    → plain_fields t ≡ with_slots r ys → take r.count ys ≡ zs → with_slots r ys ≡ place_after (plain_fields r) (LodgingOf (record { envelope = e })) a
    → Lodged v r.lot (take r.terms_bytes r.terms) (take r.count r.slots) e a zs → Met v r (LodgingOf (record { envelope = e })) a t
met_open v r t ys zs e a o is put whole l =
    let p = in_open v r.lot (take r.terms_bytes r.terms) (take r.count r.slots) e a zs l r.phase o in
    record {
      answers = p.0;
      leaves = ap (held_by v) is ∙ ap (room_of v r.lot (take r.terms_bytes r.terms) r.phase) put ∙ p.1;
      place = is ∙ whole;
    }

pub met_closed : (v : Variant) (r : RoomState) (e : Bytes) (f : RoomFault) → ◌≡◌ {A = Result (Unit {0}) RoomFault} (Err f) (admission r.phase Lodge) → Met v r (LodgingOf (record { envelope = e })) (Err f) r
met_closed v r e f h =
    let p = in_closed v r.lot (take r.terms_bytes r.terms) (take r.count r.slots) e f r.phase h in
    record { answers = sym p; leaves = rw p; place = refl }

-- At the slot of the envelope's bidder. The slots are read back after the look at its sequence.
module _ (v : Variant) (r t : RoomState) (e : Bytes) (head : HeadFields) (i : ℕ) (ss : List Slot) (o : ◌≡◌ {A = Result (Unit {0}) RoomFault} (Ok tt) (admission r.phase Lodge))
    (read : (length e ≡ envelope_size v) × (lot_of e ≡ r.lot) × (head ≡ fields_of e)) (found : IsFirst (take r.count r.slots) head.bidder i) (back : ss ≡ r.slots)
    (small : (get_or r.slots i no_slot).sequence < 2 ^ 32) where
  inside : i < r.count
  inside = omega (arith, found.0, length-take r.count r.slots)

  here : get_or (take r.count r.slots) i no_slot ≡ get_or r.slots i no_slot
  here = get_or-take r.count r.slots i no_slot inside

  small_here : (get_or (take r.count r.slots) i no_slot).sequence < 2 ^ 32
  small_here = let q = ap (λ x. x.sequence) here in omega arith

  here_slot : (get_or r.slots i no_slot).bidder ≡ bidder_of e
  here_slot = ap (λ x. x.bidder) (sym here) ∙ found.1 no_slot ∙ ap (λ h. h.bidder) read.2

  first_slot : (k : ℕ) → k < i → (get_or r.slots k no_slot).bidder ≡ bidder_of e → ⊥
  first_slot k l q =
      found.2 k no_slot l (ap (λ x. x.bidder) (get_or-take r.count r.slots k no_slot (omega (arith, inside))) ∙ q ∙ sym (ap (λ h. h.bidder) read.2))

  filled_here : (a : Answer) (y : Slot) → y ≡ by_answer a (filled_slot (get_or r.slots i no_slot) head.sequence e) (get_or r.slots i no_slot)
      → with_slots r (set r.slots i y) ≡ place_after (plain_fields r) (LodgingOf (record { envelope = e })) a
  filled_here (Ok n) y h =
      let long = length-take r.count r.slots in
      ap (λ z. with_slots r (set r.slots i z)) (h ∙ ap (λ m. filled_slot (get_or r.slots i no_slot) m e) (ap (λ g. g.sequence) read.2))
      ∙ ap (with_slots r) (filled_at e no_slot r.slots i (omega (arith, found.0)) here_slot first_slot)
  filled_here (Err f) y h =
      ap (λ z. with_slots r (set r.slots i z)) h ∙ ap (with_slots r) (set-get_or r.slots i no_slot)

  pub met_stale : plain_fields t ≡ with_slots r ss → head.sequence ≤ (get_or r.slots i no_slot).sequence → Met v r (LodgingOf (record { envelope = e })) (Err SequenceNotAbove) t
  met_stale is low =
      let q = ap (λ x. x.sequence) here in
      met_open v r t ss _ e _ o is (ap (take r.count) back) (ap (with_slots r) back) (way_stale v r.lot (take r.terms_bytes r.terms) (take r.count r.slots) e head read i found small_here (omega arith))

  met_kept : (a : Answer) (y : Slot) → plain_fields t ≡ with_slots r (set ss i y) → (get_or r.slots i no_slot).sequence < head.sequence → AllBelowBase 256 e
      → a ≡ decision (tag_checks v (get_or ss i no_slot).key (take r.terms_bytes r.terms) head e) head.sequence
      → y ≡ by_answer a (filled_slot (get_or ss i no_slot) head.sequence e) (get_or ss i no_slot) → Met v r (LodgingOf (record { envelope = e })) a t
  met_kept a y is high under ha hy =
      let q = ap (λ x. x.sequence) here in
      let there : get_or ss i no_slot ≡ get_or (take r.count r.slots) i no_slot = ap (λ z. get_or z i no_slot) back ∙ sym here in
      met_open v r t (set ss i y) _ e a o is (ap (λ z. take r.count (set z i y)) back ∙ take-set-lt r.count r.slots i y inside)
      (ap (λ zs. with_slots r (set zs i y)) back ∙ filled_here a y (hy ∙ ap (λ zs. by_answer a (filled_slot (get_or zs i no_slot) head.sequence e) (get_or zs i no_slot)) back))
      (way_kept v r.lot (take r.terms_bytes r.terms) (take r.count r.slots) e head read i found small_here (omega arith) under a y
      (ha ∙ ap (λ x. decision (tag_checks v x.key (take r.terms_bytes r.terms) head e) head.sequence) there) (hy ∙ ap (λ x. by_answer a (filled_slot x head.sequence e) x) there))

-- The same of the bid that was read of the envelope.
pub met_bid : (v : Variant) (r t : RoomState) (e : Bytes) (b : BidParts) (i : ℕ) (ss : List Slot) → ◌≡◌ {A = Result (Unit {0}) RoomFault} (Ok tt) (admission r.phase Lodge)
    → ◌≡◌ {A = Result BidParts RoomFault} (Ok b) (decision (head_checks v r.lot e) (bid_of e)) → IsFirst (take r.count r.slots) b.head.bidder i → ss ≡ r.slots
    → (get_or r.slots i no_slot).sequence < 2 ^ 32 → (a : Answer) (y : Slot) → plain_fields t ≡ with_slots r (set ss i y) → (get_or r.slots i no_slot).sequence < b.head.sequence
    → AllBelowBase 256 e → a ≡ decision (bid_checks v (get_or ss i no_slot).key (take r.terms_bytes r.terms) b) b.head.sequence
    → y ≡ by_answer a (filled_by b (get_or ss i no_slot)) (get_or ss i no_slot) → Met v r (LodgingOf (record { envelope = e })) a t
met_bid v r t e b i ss o read found back small a y is high under ha hy =
    let p = read_passed v r.lot e b read in
    let x = get_or ss i no_slot in
    met_kept v r t e b.head i ss o (head_read v r.lot e b read) found back small a y is high under
    (ha ∙ ap (λ cs. decision cs b.head.sequence) (checks_of_bid e b p.2 v x.key (take r.terms_bytes r.terms) (omega (arith, p.0)) under))
    (hy ∙ ap (λ z. by_answer a z x) (filled_by_bid e b p.2 x))

-- Asking leaves the room as it is, and answers the last accepted sequence.
module _ (v : Variant) (r : RoomState) (b : ℕ) where
  abbrev front : List Slot
  front = take r.count r.slots

  pub ask_unknown : HasNone front b → Met v r (Asking b) (Err UnknownBidder) r
  ask_unknown h = let k = none_known v r.lot no_slot front b h in record { answers = rw k; leaves = refl; place = refl }

  pub ask_known : (i n : ℕ) → IsFirst front b i → n ≡ (get_or front i no_slot).sequence → n < 2 ^ 32 → Met v r (Asking b) (Ok n) r
  ask_known i n first is small =
      let p = placed v r.lot no_slot front i b first.0 (first.1 no_slot) (λ k l. first.2 k no_slot l) in
      let known = p.0 in
      let kept = ap sequence_in p.2 ∙ last_is v r.lot (get_or front i no_slot) (omega arith) in
      record { answers = rw known (ap (λ m. Ok m) (is ∙ sym kept)); leaves = refl; place = refl }
