-- Laws of the definitions of a room's calls, in the words of the rules.
use Rattle.std.specs.Prelude.{◌≡◌, ℕ, ◌<◌, ◌≤◌, ◌≢◌, true, false, ◌↔◌, List, [], ◌∷◌, length, Ok, Err}
use Rattle.envelope.specs.Heads.{lot_of, bidder_of, sequence_of}
use Rattle.envelope.specs.Envelopes.{envelope_size}
use Rattle.envelope.specs.Terms.{most_terms_bytes}
use Rattle.list.specs.Order.{Rising, by_key}
use Rattle.room.specs.Limits.{most_bidders}
use Rattle.room.specs.Sales.{Sale, Lodging, is_registered}
use Rattle.room.specs.Rooms.{Contents, register_of, kept_for, sequence_in}
use Rattle.room.specs.Calls.{Sizes, LodgingOf, Asking, Closing, Opening, answer_to, closed_room, has_opening_sizes}
use Rattle.room.specs.Making.{is_lawful_register, making_answer}
use Rattle.room.specs.Runs.{met_with, lodgings_before_closing, answers_to_closing}
use Rattle.room.specs.declared.faults.RoomFault.{RoomFault}
use Rattle.room.specs.declared.faults.RoomFault.TheVariants.{TermsLength, Register, Closed, EnvelopeLength, OtherLot, UnknownBidder, SequenceNotAbove, NotClosed, Places}
use Rattle.room.specs.declared.register.RegisterEntry.{RegisterEntry}
use Rattle.room.specs.declared.slots.Phase.TheVariants.{Open as PhaseOpen}

-- The checks of making, lodging and opening, where several fail at once: the first of them decides, whatever comes behind it.
pub record ChecksInOrder : Type 0 where
  pub making_looks_at_the_terms_first :
      (s : Sale) → most_terms_bytes < length s.terms → making_answer s ≡ Err TermsLength
  pub making_then_at_the_register :
      (s : Sale) → length s.terms ≤ most_terms_bytes → is_lawful_register s.register ≡ false
      → making_answer s ≡ Err Register
  pub lodging_looks_at_the_phase_first :
      (r : Contents) (l : Lodging) → answer_to (closed_room r) (LodgingOf l) ≡ Err Closed
  pub then_at_the_length :
      (r : Contents) (l : Lodging) → r.phase ≡ PhaseOpen
      → (length l.envelope ≢ envelope_size r.variant)
      → answer_to r (LodgingOf l) ≡ Err EnvelopeLength
  pub then_at_the_lot :
      (r : Contents) (l : Lodging) → r.phase ≡ PhaseOpen
      → length l.envelope ≡ envelope_size r.variant → (lot_of l.envelope ≢ r.lot)
      → answer_to r (LodgingOf l) ≡ Err OtherLot
  pub then_at_the_bidder :
      (r : Contents) (l : Lodging) → r.phase ≡ PhaseOpen
      → length l.envelope ≡ envelope_size r.variant → lot_of l.envelope ≡ r.lot
      → is_registered (register_of r) (bidder_of l.envelope) ≡ false
      → answer_to r (LodgingOf l) ≡ Err UnknownBidder
  -- The tag is looked at last: a sequence that is not above refuses, whatever the tag is.
  pub then_at_the_sequence :
      (r : Contents) (l : Lodging) → r.phase ≡ PhaseOpen
      → length l.envelope ≡ envelope_size r.variant → lot_of l.envelope ≡ r.lot
      → is_registered (register_of r) (bidder_of l.envelope) ≡ true
      → sequence_of l.envelope ≤ sequence_in (kept_for r.holdings (bidder_of l.envelope))
      → answer_to r (LodgingOf l) ≡ Err SequenceNotAbove
  pub opening_looks_at_the_phase_first :
      (r : Contents) (o : Sizes) → r.phase ≡ PhaseOpen → answer_to r (Opening o) ≡ Err NotClosed
  pub opening_then_at_the_places :
      (r : Contents) (o : Sizes) → has_opening_sizes o ≡ false
      → answer_to (closed_room r) (Opening o) ≡ Err Places

-- What is said of making, of calls alone, and of which lodgings and answers count in a list of calls.
pub record CallLaws : Type 0 where
  -- The registers of which rooms are made.
  pub a_register_is_lawful_exactly_when_it_has_1_to_64_entries_by_rising_bidder :
      (xs : List RegisterEntry)
      → (is_lawful_register xs ≡ true)
      ↔ ((1 ≤ length xs) × (length xs ≤ most_bidders) × Rising (by_key (λ x. x.bidder)) xs)
  pub checks_in_order : ChecksInOrder
  pub asking_is_answered_after_closing_as_before :
      (r : Contents) (b : ℕ) → answer_to (closed_room r) (Asking b) ≡ answer_to r (Asking b)
  -- Lodgings count granted and refused, and neither a closing that is refused nor any other call ends them.
  pub lodged_before_the_granted_closing :
      (k l m : Lodging) (b : ℕ) (o : Sizes) (f g : RoomFault)
      → lodgings_before_closing (met_with (LodgingOf k) (Err f) ∷ met_with Closing (Err g)
      ∷ met_with (Asking b) (Ok 1)
      ∷ met_with (Opening o) (Err g) ∷ met_with (LodgingOf l) (Ok 2)
      ∷ met_with Closing (Ok 0) ∷ met_with (LodgingOf m) (Err Closed) ∷ [])
      ≡ k ∷ l ∷ []
  -- Answers count up to and with the granted closing, those of refused closings and openings before it too.
  pub answers_up_to_and_with_the_granted_closing :
      (l : Lodging) (b : ℕ) (o : Sizes) (f g : RoomFault)
      → answers_to_closing (met_with (LodgingOf l) (Ok 1) ∷ met_with (LodgingOf l) (Err f)
      ∷ met_with (Asking b) (Ok 1)
      ∷ met_with Closing (Err g) ∷ met_with (Opening o) (Err g)
      ∷ met_with Closing (Ok 0) ∷ met_with (Opening o) (Ok 9) ∷ met_with (Asking b) (Ok 1) ∷ [])
      ≡ Ok 1 ∷ Err f ∷ Ok 1 ∷ Err g ∷ Err g ∷ Ok 0 ∷ []
