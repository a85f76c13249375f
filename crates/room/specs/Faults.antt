-- What each fault of a room tells: its number, its layer and its place. Faults of the cipher and of the list are held whole.
use Rattle.std.specs.Prelude.{ℕ}
use Rattle.fault.specs.declared.Layer.{Layer}
use Rattle.fault.specs.declared.Layer.TheVariants.{Room}
use Rattle.fault.specs.declared.Place.{Place}
use Rattle.fault.specs.declared.Place.TheVariants.{Zero, Head}
use Rattle.cipher.specs.Faults.{fault_number as cipher_number}
use Rattle.list.specs.Faults.{fault_number as list_number}
use Rattle.room.specs.declared.faults.RoomFault.{RoomFault}
use Rattle.room.specs.declared.faults.RoomFault.TheVariants.{TermsLength, Register, Closed, EnvelopeLength, OtherLot, UnknownBidder, SequenceNotAbove, WrongTag, NotClosed, Places, Cipher, List}

abbrev pub fault_number : RoomFault → ℕ
fault_number TermsLength = 15
fault_number Register = 16
fault_number Closed = 12
fault_number EnvelopeLength = 8
fault_number OtherLot = 9
fault_number UnknownBidder = 10
fault_number SequenceNotAbove = 11
fault_number (WrongTag bidder sequence cause) = cipher_number cause
fault_number NotClosed = 13
fault_number Places = 14
fault_number (Cipher f) = cipher_number f
fault_number (List f) = list_number f

abbrev pub fault_layer : RoomFault → Layer
fault_layer f = Room

-- A wrong tag lies at the head of its bidder and sequence, every other fault nowhere in particular.
abbrev pub fault_place : RoomFault → Place
fault_place TermsLength = Zero
fault_place Register = Zero
fault_place Closed = Zero
fault_place EnvelopeLength = Zero
fault_place OtherLot = Zero
fault_place UnknownBidder = Zero
fault_place SequenceNotAbove = Zero
fault_place (WrongTag bidder sequence cause) = Head bidder sequence
fault_place NotClosed = Zero
fault_place Places = Zero
fault_place (Cipher f) = Zero
fault_place (List f) = Zero
