-- Making a room in a place: when it is refused, and what the place holds afterwards.
use Rattle.std.specs.Prelude.{◌≡◌, ℕ, ◌+◌, ◌^◌, ◌<◌, Bool, true, ◌&&◌, List, [], ◌∷◌, map, length, replicate, IfOk, None, Result, MatchResult, nat_le}
use Rattle.std.specs.List.{AllByRecursion}
use Rattle.fault.specs.Checks.{Check, decision}
use Rattle.engine.specs.declared.variants.Variant.{Variant}
use Rattle.envelope.specs.Terms.{most_terms_bytes}
use Rattle.room.specs.Limits.{most_bidders, key_bytes}
use Rattle.room.specs.Sales.{Sale}
use Rattle.room.specs.Rooms.{Holding, Contents, contents_of}
use Rattle.room.specs.Slots.{new_slot}
use Rattle.room.specs.Opening.{place_with}
use Rattle.room.specs.declared.faults.RoomFault.{RoomFault}
use Rattle.room.specs.declared.faults.RoomFault.TheVariants.{TermsLength, Register}
use Rattle.room.specs.declared.register.RegisterEntry.{RegisterEntry}
use Rattle.room.specs.declared.slots.Phase.TheVariants.{Open, Closed}
use Rattle.room.specs.declared.state.RoomState.{RoomState}

-- Whether the bidders of a register rise strictly, and none is below m.
abbrev pub rises_from : ℕ → List RegisterEntry → Bool
rises_from m [] = true
rises_from m (x ∷ xs) = nat_le m x.bidder && rises_from (x.bidder + 1) xs

-- A register is lawful when it has 1 to 64 entries by strictly rising bidder.
abbrev pub is_lawful_register : List RegisterEntry → Bool
is_lawful_register xs = nat_le 1 (length xs) && (nat_le (length xs) most_bidders && rises_from 0 xs)

-- The checks of making: the terms, and then the register.
abbrev pub making_checks : Sale → List (Check RoomFault)
making_checks s =
    (nat_le (length s.terms) most_terms_bytes, TermsLength) ∷ (is_lawful_register s.register, Register) ∷ []

abbrev pub making_answer : Sale → Result (Unit {0}) RoomFault
making_answer s = decision (making_checks s) tt

-- A room just made: it is open, and holds nothing yet.
abbrev pub empty_holding : RegisterEntry → Holding
empty_holding x = record { bidder = x.bidder; key = x.key; envelope = None }

abbrev pub new_room : Sale → Contents
new_room s = record {
  variant = s.variant;
  lot = s.lot;
  terms = s.terms;
  phase = Open;
  holdings = map empty_holding s.register;
}

-- What making a room of a sale promises. A refusal leaves the place as it was; a grant writes terms and slots over the first ones of the
-- place, and leaves those behind. The last two fields say that the numbers of lots and of registered bidders have 32 bits.
pub record Made (s : Sale) (before : RoomState) (a : Result (Unit {0}) RoomFault) (after : RoomState) : Type 0 where
  pub answers : a ≡ making_answer s
  pub leaves : MatchResult a (λ _. contents_of s.variant after ≡ new_room s) (λ _. after ≡ before)
  pub place :
      IfOk a (λ _. (after.terms ≡ place_with s.terms before.terms)
      × (after.slots ≡ place_with (map new_slot s.register) before.slots))
  pub lot_fits : s.lot < 2 ^ 32
  pub bidders_fit : IfOk a (λ _. AllByRecursion (λ x. x.bidder < 2 ^ 32) s.register)

-- A fresh place is a closed room of lot 0 without bidders. What it does not use are zeros.
pub record IsFreshPlace (s : RoomState) : Type 0 where
  pub holds :
      (v : Variant)
      → contents_of v s ≡ record { variant = v; lot = 0; terms = []; phase = Closed; holdings = [] }
  pub terms : s.terms ≡ replicate most_terms_bytes 0
  pub slots :
      s.slots ≡ replicate most_bidders (new_slot (record { bidder = 0; key = replicate key_bytes 0 }))
