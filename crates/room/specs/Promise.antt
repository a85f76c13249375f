-- The promise: what is said of rooms after every list of calls, whatever engines they have. What it is for comes first, then what makes that whole.
use Rattle.std.specs.Prelude.{◌≡◌, ℕ, ◌≤◌, true, ◌↔◌, List, [], ◌∷◌, ◌++◌, Ok, Result, ◌≢◌}
use Rattle.std.specs.List.{AllZip}
use Rattle.engine.specs.declared.variants.Variant.{Variant}
use Rattle.envelope.specs.Takings.{IsNewPen, Takings, heads_given, NoTwoEqual}
use Rattle.envelope.specs.declared.faults.EnvelopeFault.{EnvelopeFault}
use Rattle.envelope.specs.declared.heads.Head.{Head}
use Rattle.envelope.specs.declared.pens.Pen.{Pen}
use Rattle.room.specs.Sales.{Bytes, Sale, Lodging, Among, OneToAHead, Standing, is_registered}
use Rattle.room.specs.Rooms.{contents_of}
use Rattle.room.specs.Calls.{Call, Answer, Met}
use Rattle.room.specs.Making.{Made}
use Rattle.room.specs.Runs.{Meeting, met_with, Runs, History, IsClosed, lodgings, GenuineIn, Stands, OpeningPrints, Prints, calls_of, answers_to_closing}
use Rattle.room.specs.ExactlyOne.{ExactlyOne}
use Rattle.room.specs.Sealings.{Sealed, SameButForALetter}
use Rattle.room.specs.RoomsThatDifferInALetter.{RoomsThatDifferInALetter}
use Rattle.room.specs.RoomsThatDifferInOrder.{RoomsThatDifferInOrder}
use Rattle.room.specs.declared.state.RoomState.{RoomState}

pub record Promise : Type 0 where
  -- Two closed rooms of one lot print equal pages exactly when every bidder's standing amount is equal in both.
  pub pages_are_equal_exactly_when_the_standing_amounts_are :
      (x y : History) → IsClosed x → IsClosed y → x.sale.lot ≡ y.sale.lot
      → (p q : Bytes) → Prints x p → Prints y q → (p ≡ q) ↔ ((b n : ℕ) → Stands x b n ↔ Stands y b n)
  -- Two closed rooms of one sale, with the same lodgings in whatever order and however often, print equal pages if no two different genuine
  -- envelopes among them carry one head.
  pub order_and_repetition_do_not_matter :
      (x y : History) → IsClosed x → IsClosed y → x.sale ≡ y.sale
      → ((l : Lodging) → Among (lodgings x) l ↔ Among (lodgings y) l)
      → OneToAHead x.sale (lodgings x) → (p q : Bytes) → Prints x p → Prints y q → p ≡ q
  -- No two heads that one pen gave since its making are equal, after every list of takings, granted or refused.
  pub no_two_heads_of_one_pen_are_equal :
      (lot : ℕ) (terms : Bytes) (p q : Pen) (answers : List (Result Head EnvelopeFault))
      → IsNewPen lot terms p → Takings p answers q → NoTwoEqual (heads_given answers)
  -- Where two rooms of one sale have met lists that differ only in sealed letters, their answers are equal at each position up to and with the
  -- granted closing.
  pub answers_until_closing_do_not_depend_on_the_letters :
      (x y : History) → x.sale ≡ y.sale
      → AllZip (SameButForALetter x.sale) (calls_of x.meetings) (calls_of y.meetings)
      → answers_to_closing x.meetings ≡ answers_to_closing y.meetings
  -- Pages and amounts are determined. A closed room prints exactly one page, whichever opening writes it.
  pub a_closed_room_prints_exactly_one_page : (x : History) → IsClosed x → ExactlyOne (Prints x)
  -- What an opening of a closed room prints, an opening after any more calls prints as well.
  pub an_opening_prints_the_same_page_after_more_calls :
      (x : History) → IsClosed x → (more_calls : List Meeting) (later : RoomState)
      → Runs x.sale.variant x.room more_calls later → (p q : Bytes)
      → OpeningPrints x.sale.variant x.room p → OpeningPrints x.sale.variant later q → p ≡ q
  -- Every bidder, registered or not, has exactly one standing amount.
  pub every_bidder_has_exactly_one_standing_amount : (x : History) (b : ℕ) → ExactlyOne (Stands x b)
  -- A bidder who is not registered has the standing amount 0.
  pub unregistered_bidders_stand_with_0 :
      (x : History) (b n : ℕ) → (is_registered x.sale.register b ≢ true) → Stands x b n → n ≡ 0
  -- An envelope of a granted sealing for the lot, with a sequence of at least 1, is genuine, and where it stands its amount is the sealed one.
  pub sealed_bids_are_genuine_and_stand_with_their_amount :
      (x : History) (bidder sequence : ℕ) (l : Lodging)
      (q : Sealed x.sale x.sale.lot bidder sequence l.envelope) → 1 ≤ sequence
      → GenuineIn x l × (Standing x.sale (lodgings x) bidder l → Stands x bidder q.amount)
  -- Two rooms of one sale that have met the same calls have given the same answers and hold the same. (A sale names the variant; that of an engine
  -- nothing else enters is said by every call's contract, which speaks of its variant alone.)
  pub sale_and_calls_determine_answers_and_contents :
      (x y : History) → x.sale ≡ y.sale → calls_of x.meetings ≡ calls_of y.meetings
      → (x.meetings ≡ y.meetings)
      × (contents_of x.sale.variant x.room ≡ contents_of y.sale.variant y.room)
  -- Histories are all that rooms go through. Every granted making begins one, above an engine of any variant, and every call upon its room goes
  -- on with it.
  pub every_making_begins_a_history :
      (s : Sale) (before start : RoomState) → Made s before (Ok tt) start
      → (x : History) × (x.sale ≡ s) × (x.meetings ≡ []) × (x.room ≡ start)
  pub every_call_goes_on :
      (x : History) (c : Call) (a : Answer) (after : RoomState)
      → Met x.sale.variant x.room c a after → (y : History) × (y.sale ≡ x.sale)
      × (y.meetings ≡ x.meetings ++ (met_with c a ∷ [])) × (y.room ≡ after)
  -- None of this holds for want of rooms: there are two that differ in a letter and print different pages, and two that differ in order.
  pub some_rooms_differ_in_a_letter : (v : Variant) → RoomsThatDifferInALetter v
  pub some_rooms_differ_in_order : (v : Variant) → RoomsThatDifferInOrder v
