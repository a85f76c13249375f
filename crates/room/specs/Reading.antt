-- What a room reads of an envelope, checks of it and keeps: the bid in it.
use Rattle.std.specs.Prelude.{List, [], ◌∷◌, ◌++◌, length, drop, Ok, Err, Result}
use Rattle.std.specs.Str.{bytes_eq}
use Rattle.fault.specs.Checks.{Check}
use Rattle.engine.specs.declared.variants.Variant.{Variant}
use Rattle.cipher.specs.Mode.{tag}
use Rattle.cipher.specs.declared.faults.CipherFault.TheVariants.{WrongTag as CipherWrongTag}
use Rattle.envelope.specs.Heads.{head}
use Rattle.envelope.specs.Parts.{BidParts, bid_seen}
use Rattle.envelope.specs.declared.reading.SealedBid.{SealedBid}
use Rattle.room.specs.Sales.{Bytes}
use Rattle.room.specs.declared.faults.RoomFault.{RoomFault}
use Rattle.room.specs.declared.faults.RoomFault.TheVariants.{WrongTag}
use Rattle.room.specs.declared.slots.Slot.{Slot}

-- The bid that was read, as plain values.
abbrev pub bid_read : Result SealedBid RoomFault → Result BidParts RoomFault
bid_read (Ok b) = Ok (bid_seen b)
bid_read (Err f) = Err f

-- The check of a bid's tag, under a bidder's key and a lot's terms. A refusal tells what the head says.
abbrev pub bid_checks : Variant → Bytes → Bytes → BidParts → List (Check RoomFault)
bid_checks v key terms b = (
  bytes_eq b.tag (tag v key (head b.head.lot b.head.bidder b.head.sequence) terms b.letter),
  WrongTag b.head.bidder b.head.sequence CipherWrongTag,
) ∷ []

-- A slot after a bid is accepted: a tag of eight bytes stands in the first eight.
abbrev pub filled_by : BidParts → Slot → Slot
filled_by b x = record x { sequence = b.head.sequence; letter = b.letter; tag = b.tag ++ drop (length b.tag) x.tag }
