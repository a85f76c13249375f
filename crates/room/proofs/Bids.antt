-- The envelope of a granted sealing is genuine, and opens to the amount that was sealed.
use Rattle.std.proofs.Common.{◌≡◌, ℕ, ◌≤◌, eqb, leb, List, [], ◌∷◌, length, sym, ap, ◌∙◌, subst}
use Rattle.std.proofs.lemmas.Bool.{leb-true}
use Rattle.fault.specs.Checks.{Check}
use Rattle.cipher.specs.declared.faults.CipherFault.TheVariants.{KeyLength}
use Rattle.envelope.specs.Letters.{letter, amount_offered, most_cents, most_note_bytes}
use Rattle.envelope.specs.Heads.{lot_of, bidder_of, sequence_of}
use Rattle.envelope.specs.Envelopes.{envelope_size, tag_part, right_tag, letter_sealed_in}
use Rattle.envelope.specs.declared.faults.EnvelopeFault.{EnvelopeFault}
use Rattle.envelope.specs.declared.faults.EnvelopeFault.TheVariants.{EnvelopeLength, NoteLength, AmountAboveLimit, Cipher}
use Rattle.envelope.proofs.Laws as laws
use Rattle.room.specs.Sales.{Bytes, Sale, Genuine, is_registered, key_of, tag_due, opened_letter}
use Rattle.room.specs.Sealings.{Sealed}
use Rattle.room.proofs.Verdicts.{passes}

module _ (s : Sale) (l b n : ℕ) (e : Bytes) (q : Sealed s l b n e) where
  abbrev key : Bytes
  key = key_of s.register b

  abbrev checks : List (Check EnvelopeFault)
  checks =
      (eqb (length key) 16, Cipher KeyLength) ∷ ((eqb (length q.place) (envelope_size s.variant), EnvelopeLength)
      ∷ ((leb (length q.note) most_note_bytes, NoteLength) ∷ ((leb q.amount most_cents, AmountAboveLimit) ∷ [])))

  short : length q.note ≤ 55
  short = leb-true _ _ (passes checks tt tt q.granted).1.1.0

  affordable : q.amount ≤ most_cents
  affordable = leb-true _ _ (passes checks tt tt q.granted).1.1.1.0

  pub bid_long : length e ≡ envelope_size s.variant
  bid_long = ap length q.is ∙ laws.bid_length s.variant key s.terms l b n q.amount q.note short

  pub bid_lot : lot_of e ≡ l
  bid_lot = ap lot_of q.is ∙ laws.bid_lot s.variant key s.terms l b n q.amount q.note q.lot_fits

  pub bid_bidder : bidder_of e ≡ b
  bid_bidder = ap bidder_of q.is ∙ laws.bid_bidder s.variant key s.terms l b n q.amount q.note q.bidder_fits

  pub bid_sequence : sequence_of e ≡ n
  bid_sequence = ap sequence_of q.is ∙ laws.bid_sequence s.variant key s.terms l b n q.amount q.note q.sequence_fits

  pub bid_right : tag_part e ≡ tag_due s e
  bid_right =
      ap tag_part q.is ∙ sym (laws.bid_right s.variant key s.terms l b n q.amount q.note short)
      ∙ sym (λ i. right_tag s.variant (key_of s.register (bid_bidder i)) s.terms (q.is i))

  -- What opening shows of a bid is the letter that was sealed.
  bid_opens : opened_letter s e ≡ letter q.amount q.note
  bid_opens =
      (λ i. letter_sealed_in s.variant (key_of s.register (bid_bidder i)) (q.is i))
      ∙ laws.bid_letter s.variant key s.terms l b n q.amount q.note short

  pub bid_amount : amount_offered (opened_letter s e) ≡ q.amount
  bid_amount = ap amount_offered bid_opens ∙ laws.amount_in_letter q.amount q.note affordable short

  pub bid_genuine : l ≡ s.lot → 1 ≤ n → Genuine s (record { envelope = e })
  bid_genuine its counted = record {
    long = bid_long;
    lot = bid_lot ∙ its;
    known = ap (is_registered s.register) bid_bidder ∙ q.known;
    counted = subst (λ m. 1 ≤ m) (sym bid_sequence) counted;
    right = bid_right;
  }
