-- The rules of a room over a function from bidders to what is kept for them: the view of a room in which the promise is proved.
use Rattle.std.proofs.Common.{ℕ, Bool, cond, ◌&&◌, eqb, ltb, leb, List, [], ◌∷◌, length, Some, None, Ok, Err, Option}
use Rattle.std.specs.Str.{bytes_eq}
use Rattle.fault.specs.Checks.{Check, decision, by_answer}
use Rattle.cipher.specs.declared.faults.CipherFault.TheVariants.{WrongTag as CipherWrongTag}
use Rattle.envelope.specs.Letters.{letter_bytes}
use Rattle.envelope.specs.Heads.{lot_of, bidder_of, sequence_of}
use Rattle.envelope.specs.Envelopes.{envelope_size, tag_part}
use Rattle.room.specs.Limits.{most_bidders, most_page_bytes}
use Rattle.room.specs.Sales.{Bytes, Sale, Lodging, is_registered, key_of, tag_due}
use Rattle.room.specs.Page.{page}
use Rattle.room.specs.Rooms.{sequence_in}
use Rattle.room.specs.Calls.{Call, LodgingOf, Asking, Closing, Opening, Sizes, Answer, amount_held}
use Rattle.room.specs.Runs.{Meeting, met_with}
use Rattle.room.specs.declared.faults.RoomFault.{RoomFault}
use Rattle.room.specs.declared.faults.RoomFault.TheVariants.{Closed, EnvelopeLength, OtherLot, UnknownBidder, SequenceNotAbove, WrongTag, NotClosed, Places}
use Rattle.room.specs.declared.register.RegisterEntry.{RegisterEntry}
use Rattle.room.specs.declared.sheet.SheetEntry.{SheetEntry}

-- The last accepted envelope of each bidder.
abbrev pub Kept : Type 0
Kept = ℕ → Option Bytes

-- A room that takes envelopes, and one where lodging has ended.
pub data Stage : Type 0 where
  Taking : Kept → Stage
  Ended : Kept → Stage

abbrev pub kept_in : Stage → Kept
kept_in (Taking k) = k
kept_in (Ended k) = k

abbrev pub nothing : Kept
nothing b = None

-- The checks of lodging after the first, by all that they look at.
abbrev pub checks_by : Sale → ℕ → ℕ → ℕ → ℕ → ℕ → Bool → List (Check RoomFault)
checks_by s long lot bidder sequence last right =
    (eqb long (envelope_size s.variant), EnvelopeLength) ∷ (eqb lot s.lot, OtherLot) ∷ (is_registered s.register bidder, UnknownBidder)
    ∷ (ltb last sequence, SequenceNotAbove) ∷ (right, WrongTag bidder sequence CipherWrongTag) ∷ []

unfoldable pub verdict_by : Sale → ℕ → ℕ → ℕ → ℕ → ℕ → Bool → Answer
verdict_by s long lot bidder sequence last right = decision (checks_by s long lot bidder sequence last right) sequence

abbrev pub verdict : Sale → Kept → Lodging → Answer
verdict s k l =
    verdict_by s (length l.envelope) (lot_of l.envelope) (bidder_of l.envelope) (sequence_of l.envelope) (sequence_in (k (bidder_of l.envelope)))
    (bytes_eq (tag_part l.envelope) (tag_due s l.envelope))

-- What is kept once an envelope is accepted, and after a lodging.
abbrev pub kept_with : Bytes → Kept → Kept
kept_with e k b = cond (eqb (bidder_of e) b) (Some e) (k b)

abbrev pub kept_after : Answer → Kept → Bytes → Kept
kept_after v k e = by_answer v (kept_with e k) k

abbrev pub asking_answer : Sale → ℕ → ℕ → Answer
asking_answer s b n = decision ((is_registered s.register b, UnknownBidder) ∷ []) n

abbrev pub opening_answer : Sizes → ℕ → Answer
opening_answer o n =
    decision ((leb most_bidders o.sheet && (leb most_page_bytes o.page && eqb o.work letter_bytes), Places) ∷ []) n

-- The amount of what is kept for a bidder, the sheet of a function from bidders to amounts, and the page.
abbrev pub amount_for : Sale → ℕ → Option Bytes → ℕ
amount_for s b o = amount_held s.variant (key_of s.register b) s.terms o

abbrev pub sheet_by : (ℕ → ℕ) → List RegisterEntry → List SheetEntry
sheet_by f [] = []
sheet_by f (x ∷ xs) = cond (ltb 0 (f x.bidder)) (record { bidder = x.bidder; amount = f x.bidder } ∷ sheet_by f xs) (sheet_by f xs)

abbrev pub page_for : Sale → Kept → Bytes
page_for s k = page s.lot (sheet_by (λ b. amount_for s b (k b)) s.register)

abbrev pub answer : Sale → Stage → Call → Answer
answer s (Taking k) (LodgingOf l) = verdict s k l
answer s (Taking k) (Asking b) = asking_answer s b (sequence_in (k b))
answer s (Taking k) Closing = Ok 0
answer s (Taking k) (Opening o) = Err NotClosed
answer s (Ended k) (LodgingOf l) = Err Closed
answer s (Ended k) (Asking b) = asking_answer s b (sequence_in (k b))
answer s (Ended k) Closing = Err Closed
answer s (Ended k) (Opening o) = opening_answer o (length (page_for s k))

abbrev pub next : Sale → Stage → Call → Stage
next s (Taking k) (LodgingOf l) = Taking (kept_after (verdict s k l) k l.envelope)
next s (Taking k) (Asking b) = Taking k
next s (Taking k) Closing = Ended k
next s (Taking k) (Opening o) = Taking k
next s (Ended k) c = Ended k

-- The room after a list of calls, and each call with its answer.
abbrev pub after : Sale → Stage → List Call → Stage
after s r [] = r
after s r (c ∷ cs) = after s (next s r c) cs

abbrev pub meetings : Sale → Stage → List Call → List Meeting
meetings s r [] = []
meetings s r (c ∷ cs) = met_with c (answer s r c) ∷ meetings s (next s r c) cs
