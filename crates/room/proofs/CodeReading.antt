-- The bid in an envelope: what is read, checked and kept of it is what the envelope says.
use Rattle.std.proofs.Common.{◌≡◌, ℕ, ◌≤◌, Bool, true, false, cond, eqb, [], ◌∷◌, length, Some, None, Ok, Err, Option, Result, sym, refl, ap, ◌∙◌, arith}
use Rattle.std.specs.Int.Digits.{AllBelowBase}
use Rattle.std.specs.Str.{bytes_eq}
use Rattle.fault.specs.Checks.{decision}
use Rattle.engine.specs.declared.variants.Variant.{Variant}
use Rattle.cipher.specs.Mode.{tag}
use Rattle.cipher.specs.declared.faults.CipherFault.TheVariants.{WrongTag as CipherWrongTag}
use Rattle.envelope.specs.Heads.{head, lot_of}
use Rattle.envelope.specs.Envelopes.{envelope_size, tag_part, right_tag}
use Rattle.envelope.specs.Parts.{BidParts, sealed_bid_seen, bid_of}
use Rattle.envelope.specs.declared.reading.SealedBid.{SealedBid}
use Rattle.envelope.proofs.Laws.{head_back}
use Rattle.envelope.proofs.ReadingLaws.{bid_in}
use Rattle.room.specs.Sales.{Bytes}
use Rattle.room.specs.Rooms.{filled_slot}
use Rattle.room.specs.Calls.{head_checks, tag_checks}
use Rattle.room.specs.Reading.{bid_checks, filled_by}
use Rattle.room.specs.declared.faults.RoomFault.{RoomFault}
use Rattle.room.specs.declared.faults.RoomFault.TheVariants.{EnvelopeLength, OtherLot, WrongTag}
use Rattle.room.specs.declared.slots.Slot.{Slot}

-- Where no bid is read, the length is refused.
pub none_read : (v : Variant) (lot : ℕ) (e : Bytes) (o : Option SealedBid) → sealed_bid_seen o ≡ bid_in v e → o ≡ None
    → ◌≡◌ {A = Result BidParts RoomFault} (Err EnvelopeLength) (decision (head_checks v lot e) (bid_of e))
none_read v lot e o h none = go (eqb (length e) (envelope_size v)) refl (ap sealed_bid_seen (sym none) ∙ h)
  where
    go : (t : Bool) → eqb (length e) (envelope_size v) ≡ t → ◌≡◌ {A = Option BidParts} None (cond t (Some (bid_of e)) None)
        → ◌≡◌ {A = Result BidParts RoomFault} (Err EnvelopeLength) (cond t (cond (eqb (lot_of e) lot) (Ok (bid_of e)) (Err OtherLot)) (Err EnvelopeLength))
    go true q k = let z : ◌≡◌ {A = ℕ} 0 1 = cc in absurd (omega arith)
    go false q k = refl

-- The bid that was read, in the envelope that it was read of.
module _ (e : Bytes) (b : BidParts) (is : b ≡ bid_of e) where
  pub filled_by_bid : (x : Slot) → filled_by b x ≡ filled_slot x b.head.sequence e
  filled_by_bid x = ap (λ z. filled_by (record { head = b.head; letter = z.letter; tag = z.tag }) x) is

  right : (v : Variant) (key terms : Bytes) → 12 ≤ length e → AllBelowBase 256 e
      → bytes_eq b.tag (tag v key (head b.head.lot b.head.bidder b.head.sequence) terms b.letter) ≡ bytes_eq (tag_part e) (right_tag v key terms e)
  right v key terms long under =
      ap (λ z. bytes_eq z.tag (tag v key (head z.head.lot z.head.bidder z.head.sequence) terms z.letter)) is
      ∙ ap (λ n. bytes_eq (tag_part e) (tag v key n terms (bid_of e).letter)) (head_back e long under)

  pub checks_of_bid : (v : Variant) (key terms : Bytes) → 12 ≤ length e → AllBelowBase 256 e → bid_checks v key terms b ≡ tag_checks v key terms b.head e
  checks_of_bid v key terms long under = ap (λ t. (t, WrongTag b.head.bidder b.head.sequence CipherWrongTag) ∷ []) (right v key terms long under)
