-- The calls upon a room: what each answers, and the room that it leaves.
use Rattle.std.specs.Prelude.{◌≡◌, ℕ, Bool, true, false, if◌then◌else◌, ◌&&◌, List, [], ◌∷◌, ◌++◌, length, Some, None, Ok, Err, Option, Result, ◌==◌, nat_le, nat_lt}
use Rattle.std.specs.Str.{bytes_eq}
use Rattle.fault.specs.Checks.{Check, decision, by_answer}
use Rattle.engine.specs.declared.variants.Variant.{Variant}
use Rattle.cipher.specs.declared.faults.CipherFault.TheVariants.{WrongTag as CipherWrongTag}
use Rattle.envelope.specs.Letters.{letter_bytes, amount_offered}
use Rattle.envelope.specs.Heads.{lot_of, bidder_of, sequence_of}
use Rattle.envelope.specs.Envelopes.{envelope_size, tag_part, right_tag, letter_sealed_in}
use Rattle.envelope.specs.declared.heads.HeadFields.{HeadFields}
use Rattle.room.specs.Limits.{most_bidders, most_page_bytes}
use Rattle.room.specs.Sales.{Bytes, Lodging, is_registered, key_of}
use Rattle.room.specs.Page.{page}
use Rattle.room.specs.Rooms.{Holding, Contents, register_of, kept_for, sequence_in, holdings_with, slots_with, contents_of}
use Rattle.room.specs.declared.faults.RoomFault.{RoomFault}
use Rattle.room.specs.declared.faults.RoomFault.TheVariants.{Closed, EnvelopeLength, OtherLot, UnknownBidder, SequenceNotAbove, WrongTag, NotClosed, Places}
use Rattle.room.specs.declared.sheet.SheetEntry.{SheetEntry}
use Rattle.room.specs.declared.slots.Phase.{Phase}
use Rattle.room.specs.declared.slots.Phase.TheVariants.{Open as PhaseOpen, Closed as PhaseClosed}
use Rattle.room.specs.declared.slots.Slot.{Slot}
use Rattle.room.specs.declared.state.RoomState.{RoomState}

-- How much is lent to an opening: places for sheet entries, bytes for the page, bytes to work in.
pub record Sizes : Type 0 where
  pub sheet : ℕ
  pub page : ℕ
  pub work : ℕ

-- A lodging, asking for a bidder's last accepted sequence, closing, and opening.
pub data Call : Type 0 where
  LodgingOf : Lodging → Call
  Asking : ℕ → Call
  Closing : Call
  Opening : Sizes → Call

-- A granted call answers a number (closing, which answers nothing, counts as 0), a refused one its fault.
abbrev pub Answer : Type 0
Answer = Result ℕ RoomFault

abbrev pub without_number : Result (Unit {0}) RoomFault → Answer
without_number (Ok u) = Ok 0
without_number (Err f) = Err f

abbrev pub is_open : Phase → Bool
is_open PhaseOpen = true
is_open PhaseClosed = false

abbrev pub is_closed : Phase → Bool
is_closed PhaseOpen = false
is_closed PhaseClosed = true

-- The amount that is held for a bidder: that of the letter in the last accepted envelope, and 0 where there is none. (A room holds no envelope
-- with a wrong tag, from its making on; one would count for nothing.)
abbrev pub amount_held : Variant → Bytes → Bytes → Option Bytes → ℕ
amount_held v key terms None = 0
amount_held v key terms (Some e) =
    if bytes_eq (tag_part e) (right_tag v key terms e)
    then amount_offered (letter_sealed_in v key e)
    else 0

abbrev pub amount_of_holding : Contents → Holding → ℕ
amount_of_holding r h = amount_held r.variant h.key r.terms h.envelope

-- The sheet: each registered bidder, in the order of the register, whose amount is above 0.
abbrev pub sheet_entries : Contents → List Holding → List SheetEntry
sheet_entries r [] = []
sheet_entries r (h ∷ hs) =
    if nat_lt 0 (amount_of_holding r h)
    then record { bidder = h.bidder; amount = amount_of_holding r h } ∷ sheet_entries r hs
    else sheet_entries r hs

abbrev pub sheet_of : Contents → List SheetEntry
sheet_of r = sheet_entries r r.holdings

-- The page of a room.
abbrev pub page_of_room : Contents → Bytes
page_of_room r = page r.lot (sheet_of r)

-- The checks of lodging that look at the head alone.
abbrev pub head_checks : Variant → ℕ → Bytes → List (Check RoomFault)
head_checks v lot e =
    (length e == envelope_size v, EnvelopeLength) ∷ (lot_of e == lot, OtherLot) ∷ []

-- What the head of an envelope says.
abbrev pub fields_of : Bytes → HeadFields
fields_of e = record { lot = lot_of e; bidder = bidder_of e; sequence = sequence_of e }

-- The check of lodging that looks at the tag. A refusal tells what the head says.
abbrev pub tag_checks : Variant → Bytes → Bytes → HeadFields → Bytes → List (Check RoomFault)
tag_checks v key terms h e = (
  bytes_eq (tag_part e) (right_tag v key terms e),
  WrongTag h.bidder h.sequence CipherWrongTag,
) ∷ []

-- The last accepted sequence of an envelope's bidder, and the key registered for it.
abbrev pub last_sequence : Contents → Bytes → ℕ
last_sequence r e = sequence_in (kept_for r.holdings (bidder_of e))

abbrev pub key_due : Contents → Bytes → Bytes
key_due r e = key_of (register_of r) (bidder_of e)

-- The checks of each call, in their order.
unfoldable pub lodging_checks : Contents → Lodging → List (Check RoomFault)
lodging_checks r l =
    ((is_open r.phase, Closed) ∷ head_checks r.variant r.lot l.envelope)
    ++ (is_registered (register_of r) (bidder_of l.envelope), UnknownBidder)
    ∷ (nat_lt (last_sequence r l.envelope) (sequence_of l.envelope), SequenceNotAbove)
    ∷ tag_checks r.variant (key_due r l.envelope) r.terms (fields_of l.envelope) l.envelope

abbrev pub asking_checks : Contents → ℕ → List (Check RoomFault)
asking_checks r b = (is_registered (register_of r) b, UnknownBidder) ∷ []

abbrev pub closing_checks : Contents → List (Check RoomFault)
closing_checks r = (is_open r.phase, Closed) ∷ []

-- Places for all bidders, for the longest page, and for one letter to work in.
abbrev pub has_opening_sizes : Sizes → Bool
has_opening_sizes o =
    nat_le most_bidders o.sheet && (nat_le most_page_bytes o.page && o.work == letter_bytes)

abbrev pub opening_checks : Contents → Sizes → List (Check RoomFault)
opening_checks r o =
    (is_closed r.phase, NotClosed) ∷ (has_opening_sizes o, Places) ∷ []

-- What a call answers: lodging the envelope's sequence, asking the last accepted one, opening the length of the page.
abbrev pub answer_to : Contents → Call → Answer
answer_to r (LodgingOf l) = decision (lodging_checks r l) (sequence_of l.envelope)
answer_to r (Asking b) = decision (asking_checks r b) (sequence_in (kept_for r.holdings b))
answer_to r Closing = decision (closing_checks r) 0
answer_to r (Opening o) = decision (opening_checks r o) (length (page_of_room r))

-- The room with other holdings, and the room closed.
abbrev pub with_holdings : List Holding → Contents → Contents
with_holdings hs r = record r { holdings = hs }

abbrev pub closed_room : Contents → Contents
closed_room r = record r { phase = PhaseClosed }

-- The room that a call leaves: lodging keeps the envelope and closing ends lodging, where they are granted; nothing else changes a room.
abbrev pub room_after : Contents → Call → Contents
room_after r (LodgingOf l) =
    by_answer (answer_to r (LodgingOf l)) (with_holdings (holdings_with l.envelope r.holdings) r) r
room_after r (Asking b) = r
room_after r Closing = by_answer (answer_to r Closing) (closed_room r) r
room_after r (Opening o) = r

-- All that a place is made of, used parts and unused. (That its counts are within its arrays and its slots rise are facts of every place, and no
-- parts.)
pub record PlainFields : Type 0 where
  pub phase : Phase
  pub lot : ℕ
  pub terms : Bytes
  pub terms_bytes : ℕ
  pub slots : List Slot
  pub count : ℕ

abbrev pub plain_fields : RoomState → PlainFields
plain_fields s =
    record {
      phase = s.phase;
      lot = s.lot;
      terms = s.terms;
      terms_bytes = s.terms_bytes;
      slots = s.slots;
      count = s.count;
    }

-- The place that a call leaves, used parts and unused: a granted lodging fills one slot, a granted closing ends the phase, and nothing else
-- changes a place. So a refusal changes nothing.
abbrev pub place_after : PlainFields → Call → Answer → PlainFields
place_after s (LodgingOf l) a = by_answer a (record s { slots = slots_with l.envelope s.slots }) s
place_after s (Asking b) a = s
place_after s Closing a = by_answer a (record s { phase = PhaseClosed }) s
place_after s (Opening o) a = s

-- What every call promises, above an engine of a variant, of the place before it, its answer and the place after it: of what the place holds of a
-- room, and of the whole place.
pub record Met (v : Variant) (before : RoomState) (c : Call) (a : Answer) (after : RoomState) : Type 0 where
  pub answers : a ≡ answer_to (contents_of v before) c
  pub leaves : contents_of v after ≡ room_after (contents_of v before) c
  pub place : plain_fields after ≡ place_after (plain_fields before) c a
