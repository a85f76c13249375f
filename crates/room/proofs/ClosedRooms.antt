-- Every lawful sale has closed rooms with any lodgings: each upon any place can be met, and so a history goes on with it.
use Rattle.std.proofs.Common.{◌≡◌, ℕ, zero, suc, ◌^◌, ◌<◌, ◌≤◌, Bool, true, false, cond, eqb, List, [], ◌∷◌, ◌++◌, map, length, take, replicate, Some, Ok, Err, sym, refl, ap, ◌∙◌, subst, append_assoc, append-nil, arith}
use Rattle.std.specs.List.{AllByRecursion}
use Rattle.std.specs.List.Sorted.{IsStrictlyIncreasing}
use Rattle.std.proofs.lemmas.Bool.{eqb-true, ltb-true}
use Rattle.std.proofs.lemmas.List.{take-map}
use Rattle.fault.specs.Checks.{decision, by_answer}
use Rattle.engine.specs.declared.variants.Variant.{Variant}
use Rattle.envelope.specs.Heads.{lot_of, bidder_of, sequence_of}
use Rattle.envelope.specs.Envelopes.{envelope_size}
use Rattle.room.specs.Sales.{Bytes, Sale, Lodging}
use Rattle.room.specs.Rising.{RiseByBidder}
use Rattle.room.specs.Rooms.{Holding, Contents, holdings_with, filled_slot, slots_with, holding_of, contents_of}
use Rattle.room.specs.Calls.{Call, LodgingOf, Closing, Answer, Met, is_open, lodging_checks, answer_to, with_holdings, closed_room as closed_contents}
use Rattle.room.specs.Slots.{new_slot}
use Rattle.room.specs.Opening.{place_with}
use Rattle.room.specs.Making.{Made, is_lawful_register}
use Rattle.room.specs.Runs.{Meeting, met_with, calls_of, lodgings_before_closing, History, IsClosed, lodgings}
use Rattle.room.specs.declared.faults.RoomFault.TheVariants.{Closed as ClosedFault}
use Rattle.room.specs.declared.slots.Phase.{Phase}
use Rattle.room.specs.declared.slots.Phase.TheVariants.{Open, Closed}
use Rattle.room.specs.declared.slots.Slot.{Slot}
use Rattle.room.specs.declared.state.RoomState.{RoomState}
use Rattle.room.proofs.Law.{Taking, nothing, meetings}
use Rattle.room.proofs.Verdicts.{passes}
use Rattle.room.proofs.CodeSlots.{HasHead, kept_is}
use Rattle.room.proofs.CodeMaking.{Fits, made_rising, made_granted}
use Rattle.room.proofs.Registers.{lawful_exactly}
use Rattle.room.proofs.Histories.{same_meetings, begun, gone_on}
use Rattle.room.proofs.PageLaws.{calls_with, lodgings_back}

-- Lodging fills a slot, and leaves every bidder where it was.
abbrev bidders : List Slot → List ℕ
bidders xs = map (λ x. x.bidder) xs

same_bidders : (e : Bytes) (xs : List Slot) → bidders (slots_with e xs) ≡ bidders xs
same_bidders e [] = refl
same_bidders e (x ∷ xs) = go (eqb x.bidder (bidder_of e)) (same_bidders e xs)
  where
    go : (t : Bool) → bidders (slots_with e xs) ≡ bidders xs
        → bidders (cond t (filled_slot x (sequence_of e) e ∷ xs) (x ∷ slots_with e xs)) ≡ bidders (x ∷ xs)
    go true ih = refl
    go false ih = ap (λ bs. x.bidder ∷ bs) ih

filled_rise : (e : Bytes) (n : ℕ) (xs : List Slot) → RiseByBidder (take n xs) → RiseByBidder (take n (slots_with e xs))
filled_rise e n xs =
    subst IsStrictlyIncreasing
    (sym (take-map (λ x. x.bidder) n xs) ∙ ap (take n) (sym (same_bidders e xs)) ∙ take-map (λ x. x.bidder) n (slots_with e xs))

-- What a call upon a place answers, and the place that it leaves.
record Outcome (v : Variant) (r : RoomState) (c : Call) : Type 0 where
  answer : Answer
  after : RoomState
  meets : Met v r c answer after

module _ (v : Variant) (r : RoomState) where
  abbrev held : Slot → Holding
  held x = holding_of v r.lot x

  module _ (l : Lodging) (its_head : HasHead l.envelope) where
    abbrev contents_left : Answer → Contents
    contents_left a = by_answer a (with_holdings (holdings_with l.envelope (contents_of v r).holdings) (contents_of v r)) (contents_of v r)

    module _ (n : ℕ) (granted : answer_to (contents_of v r) (LodgingOf l) ≡ Ok n) where
      head_checked : (length l.envelope ≡ envelope_size v) × (lot_of l.envelope ≡ r.lot) × (0 < sequence_of l.envelope)
      unfolding lodging_checks
      head_checked =
          let p = passes (lodging_checks (contents_of v r) l) (sequence_of l.envelope) n granted in
          let up = ltb-true _ _ p.1.1.1.1.0 in
          (eqb-true _ _ p.1.0, eqb-true _ _ p.1.1.0, omega arith)

      -- The slots after the lodging hold what is accepted.
      accepts : (k : ℕ) (xs : List Slot) → map held (take k (slots_with l.envelope xs)) ≡ holdings_with l.envelope (map held (take k xs))
      accepts zero xs = refl
      accepts (suc k) [] = refl
      accepts (suc k) (x ∷ xs) = go (eqb x.bidder (bidder_of l.envelope)) refl (accepts k xs)
        where
          go : (t : Bool) → eqb x.bidder (bidder_of l.envelope) ≡ t → map held (take k (slots_with l.envelope xs)) ≡ holdings_with l.envelope (map held (take k xs))
              → map held (take (suc k) (cond t (filled_slot x (sequence_of l.envelope) l.envelope ∷ xs) (x ∷ slots_with l.envelope xs)))
              ≡ cond t (record { bidder = x.bidder; key = x.key; envelope = Some l.envelope } ∷ map held (take k xs))
              (held x ∷ holdings_with l.envelope (map held (take k xs)))
          go true same ih =
              ap (λ h. h ∷ map held (take k xs))
              (kept_is v r.lot x l.envelope head_checked.0 its_head head_checked.1 (eqb-true _ _ same) head_checked.2)
          go false other ih = ap (λ hs. held x ∷ hs) ih

      abbrev place_taken : RoomState
      place_taken = record r { slots = slots_with l.envelope r.slots; rising = filled_rise l.envelope r.count r.slots r.rising }

      takes : Met v r (LodgingOf l) (Ok n) place_taken
      takes = record {
        answers = sym granted;
        leaves = ap (λ hs. with_holdings hs (contents_of v r)) (accepts r.count r.slots) ∙ sym (ap contents_left granted);
        place = refl;
      }

    lodges : Outcome v r (LodgingOf l)
    lodges = go (answer_to (contents_of v r) (LodgingOf l)) refl
      where
        go : (a : Answer) → answer_to (contents_of v r) (LodgingOf l) ≡ a → Outcome v r (LodgingOf l)
        go (Ok n) h = record { answer = Ok n; after = place_taken n h; meets = takes n h }
        go (Err f) h = record { answer = Err f; after = r; meets = record { answers = sym h; leaves = sym (ap contents_left h); place = refl } }

  abbrev closing_answer : Phase → Answer
  closing_answer p = decision ((is_open p, ClosedFault) ∷ []) 0

  abbrev contents_closed : Phase → Contents
  contents_closed p = by_answer (closing_answer p) (closed_contents (contents_of v r)) (contents_of v r)

  -- Closing leaves a closed place, granted or refused.
  closes : (a : Outcome v r Closing) × (a.after.phase ≡ Closed)
  closes = go r.phase refl
    where
      go : (p : Phase) → r.phase ≡ p → (a : Outcome v r Closing) × (a.after.phase ≡ Closed)
      go Open h = (
        record {
          answer = Ok 0;
          after = record r { phase = Closed };
          meets = record { answers = sym (ap closing_answer h); leaves = sym (ap contents_closed h); place = refl };
        },
        refl,
      )
      go Closed h = (
        record {
          answer = Err ClosedFault;
          after = r;
          meets = record { answers = sym (ap closing_answer h); leaves = sym (ap contents_closed h); place = refl };
        },
        h,
      )

-- Rooms can be made of a sale.
pub record IsMakeable (s : Sale) : Type 0 where
  pub lot : s.lot < 2 ^ 32
  pub terms : length s.terms ≤ 64
  pub register : is_lawful_register s.register ≡ true
  pub bidders : AllByRecursion Fits s.register

module _ (s : Sale) (m : IsMakeable s) where
  abbrev place_before : RoomState
  place_before = record {
    phase = Closed;
    lot = 0;
    terms = replicate 64 0;
    terms_bytes = 0;
    slots = replicate 64 (new_slot (record { bidder = 0; key = replicate 16 0 }));
    count = 0;
    short = omega arith;
    few = omega arith;
    rising = λ k l. absurd (omega arith);
  }

  abbrev place_made : RoomState
  place_made = record {
    phase = Open;
    lot = s.lot;
    terms = place_with s.terms (replicate 64 0);
    terms_bytes = length s.terms;
    slots = place_with (map new_slot s.register) place_before.slots;
    count = length s.register;
    short = m.terms;
    few = ((lawful_exactly s.register).0 m.register).1;
    rising = made_rising s.register place_before.slots _ m.register refl;
  }

  made_so : Made s place_before (Ok tt) place_made
  made_so =
      made_granted s place_before place_made _ _ m.terms m.register m.lot m.bidders
      refl refl refl refl refl

-- A history that goes on with some calls.
record Continuation (x : History) (cs : List Call) : Type 0 where
  y : History
  same_sale : y.sale ≡ x.sale
  calls : calls_of y.meetings ≡ calls_of x.meetings ++ cs

calls_more : (ms : List Meeting) (c : Call) (a : Answer) → calls_of (ms ++ met_with c a ∷ []) ≡ calls_of ms ++ c ∷ []
calls_more [] c a = refl
calls_more (met_with d b ∷ ms) c a = ap (λ cs. d ∷ cs) (calls_more ms c a)

-- The envelopes of lodgings have their heads.
abbrev pub HaveHeads : List Lodging → Type 0
HaveHeads ls = AllByRecursion (λ l. HasHead l.envelope) ls

lodges_all : (ls : List Lodging) → HaveHeads ls → (x : History) → Continuation x (map LodgingOf ls)
lodges_all [] h x = record { y = x; same_sale = refl; calls = sym (append-nil (calls_of x.meetings)) }
lodges_all (l ∷ ls) h x =
    let o = lodges x.sale.variant x.room l h.0 in
    let g = lodges_all ls h.1 (gone_on x (LodgingOf l) o.answer o.after o.meets) in
    record {
      y = g.y;
      same_sale = g.same_sale;
      calls =
          g.calls ∙ ap (λ cs. cs ++ map LodgingOf ls) (calls_more x.meetings (LodgingOf l) o.answer)
          ∙ append_assoc (calls_of x.meetings) (LodgingOf l ∷ []) (map LodgingOf ls);
    }

-- A closed room of a sale with just these lodgings, each granted or refused, in this order.
pub record ClosedRoom (s : Sale) (ls : List Lodging) : Type 0 where
  pub x : History
  pub of_the_sale : x.sale ≡ s
  pub is_closed : IsClosed x
  pub calls : calls_of x.meetings ≡ calls_with ls
  pub lodgings_are : lodgings x ≡ ls

pub closed_room : (s : Sale) → IsMakeable s → (ls : List Lodging) → HaveHeads ls → ClosedRoom s ls
closed_room s m ls heads =
    let g = lodges_all ls heads (begun s (place_before s m) (place_made s m) (made_so s m)) in
    let c = closes g.y.sale.variant g.y.room in
    let x = gone_on g.y Closing c.0.answer c.0.after c.0.meets in
    let calls : calls_of x.meetings ≡ calls_with ls =
    calls_more g.y.meetings Closing c.0.answer ∙ ap (λ cs. cs ++ Closing ∷ []) g.calls in
    record {
      x = x;
      of_the_sale = g.same_sale;
      is_closed = c.1;
      calls = calls;
      lodgings_are =
          ap lodgings_before_closing (same_meetings x)
          ∙ ap (λ cs. lodgings_before_closing (meetings x.sale (Taking nothing) cs)) calls
          ∙ lodgings_back x.sale nothing ls;
    }
