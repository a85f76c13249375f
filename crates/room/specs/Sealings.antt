-- Envelopes that sealings made, and calls that are the same but for a sealed letter.
use Rattle.std.specs.Prelude.{◌≡◌, ℕ, ◌^◌, ◌<◌, true, Ok}
use Rattle.envelope.specs.Envelopes.{bid}
use Rattle.envelope.specs.Calls.{bid_answer}
use Rattle.room.specs.Sales.{Bytes, Sale, Lodging, is_registered, key_of}
use Rattle.room.specs.Calls.{Call, LodgingOf}

-- The envelope e was made by a granted sealing, of some amount and note, under the terms and variant of a sale, the head of a lot, a bidder and a
-- sequence (numbers of 32 bits), and the registered key of that bidder.
pub record Sealed (s : Sale) (lot bidder sequence : ℕ) (e : Bytes) : Type 0 where
  pub amount : ℕ
  pub note : Bytes
  pub place : Bytes
  pub lot_fits : lot < 2 ^ 32
  pub bidder_fits : bidder < 2 ^ 32
  pub sequence_fits : sequence < 2 ^ 32
  pub known : is_registered s.register bidder ≡ true
  pub granted : bid_answer s.variant (key_of s.register bidder) amount note place ≡ Ok tt
  pub is : e ≡ bid s.variant (key_of s.register bidder) s.terms lot bidder sequence amount note

-- Two calls are the same but for a sealed letter: they are equal, or both lodge an envelope that a granted sealing made, of any amount and note,
-- under the sale's terms and variant, one head, and the registered key of that head's bidder.
pub data SameButForALetter (s : Sale) : Call → Call → Type 0 where
  equal_calls : {c : Call} → SameButForALetter s c c
  but_for_a_letter :
      {lot bidder sequence : ℕ} {l m : Lodging} → Sealed s lot bidder sequence l.envelope
      → Sealed s lot bidder sequence m.envelope
      → SameButForALetter s (LodgingOf l) (LodgingOf m)
