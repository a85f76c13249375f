-- The laws of letters, pens and sealed bids, put together.
use Rattle.std.proofs.Common.{◌≡◌, ℕ, ◌+◌, true, false, leb, ◌↔◌, List, [], ◌∷◌, length, ◌==◌, sym, refl, ap, ◌∙◌, ap₂, arith, eq-eqb}
use Rattle.std.specs.Int.Digits.{AllBelowBase}
use Rattle.std.proofs.lemmas.Bool.{eqb-true, ne_eqb, leb-true, le-leb, lt-leb}
use Rattle.fault.specs.Checks.{Check, is_granted}
use Rattle.fault.proofs.Checks.{granted_exactly_where_passed}
use Rattle.engine.specs.declared.variants.Variant.{Variant}
use Rattle.cipher.specs.Calls.{key_check}
use Rattle.envelope.specs.Letters.{letter, most_cents, most_note_bytes, amount_field, note_field, is_lawful}
use Rattle.envelope.specs.Envelopes.{envelope_size, bid, letter_sealed_in}
use Rattle.envelope.specs.Calls.{by_cipher, bid_answer}
use Rattle.envelope.specs.Theorems.{LawfulBid, LawfulSealing, FirstFaultDecides, LawsOfLetters, LawsOfBids, EnvelopeLaws}
use Rattle.envelope.specs.declared.faults.EnvelopeFault.{EnvelopeFault}
use Rattle.envelope.specs.declared.faults.EnvelopeFault.TheVariants.{EnvelopeLength, NoteLength, AmountAboveLimit}
use Rattle.envelope.proofs.LetterLaws.{lawful_amount, lawful_note, unlawful_amount}
use Rattle.envelope.proofs.PenLaws.{pen_laws}
use Rattle.envelope.proofs.Laws.{letter_length, letter_amount_back, letter_amount, letter_note, letter_lawful, lawful_is_letter, note_bytes, note_field_length, amount_in_letter, amount_in_le, bid_lot, bid_bidder, bid_sequence, bid_length, bid_letter, bid_passes}

above_limit_unlawful : is_lawful (letter (most_cents + 1) []) ≡ false
above_limit_unlawful = sym (unlawful_amount (letter (most_cents + 1) []) (omega (arith, letter_amount_back (most_cents + 1) [] (omega arith))))

-- The lawful letters are those of lawful amounts and notes.
written : (xs : List ℕ) → AllBelowBase 256 xs
    → (is_lawful xs ≡ true) ↔ ((amount : ℕ) × (note : List ℕ) × LawfulBid amount note × AllBelowBase 256 note × (xs ≡ letter amount note))
written xs u = (
  (λ h.
      let n = lawful_note xs h in (
        amount_field xs,
        note_field xs,
        record { amount_within = lawful_amount xs h; note_within = omega (arith, note_field_length xs h, n) },
        note_bytes xs u,
        lawful_is_letter xs u h,
      )),
  (λ w. ap is_lawful w.4 ∙ letter_lawful w.0 w.1 w.2.amount_within w.2.note_within),
)

-- The checks of a bid.
abbrev bid_checks : Variant → List ℕ → ℕ → List ℕ → List ℕ → List (Check EnvelopeFault)
bid_checks v key amount note place =
    by_cipher (key_check key) ∷ (((length place == envelope_size v), EnvelopeLength)
    ∷ ((leb (length note) most_note_bytes, NoteLength) ∷ ((leb amount most_cents, AmountAboveLimit) ∷ [])))

pub bid_granted : (v : Variant) (key : List ℕ) (amount : ℕ) (note place : List ℕ) → is_granted (bid_answer v key amount note place) ≡ true → LawfulSealing v key amount note place
bid_granted v key amount note place e =
    let p = (granted_exactly_where_passed (bid_checks v key amount note place) tt).0 e in
    record {
      key_length = eqb-true (length key) 16 p.0;
      place_length = eqb-true (length place) (envelope_size v) p.1.0;
      bid_within = record { amount_within = leb-true amount most_cents p.1.1.1.0; note_within = leb-true (length note) 55 p.1.1.0 };
    }

pub grants_bid : (v : Variant) (key : List ℕ) (amount : ℕ) (note place : List ℕ) → LawfulSealing v key amount note place → is_granted (bid_answer v key amount note place) ≡ true
grants_bid v key amount note place l =
    rw (
      eq-eqb (length key) 16 l.key_length,
      eq-eqb (length place) (envelope_size v) l.place_length,
      le-leb (length note) 55 l.bid_within.note_within,
      le-leb amount most_cents l.bid_within.amount_within,
    )

first_decides : (v : Variant) (key : List ℕ) (amount : ℕ) (note place : List ℕ) → FirstFaultDecides v key amount note place
first_decides v key amount note place =
    record {
      the_key = λ h. rw (ne_eqb (length key) 16 h);
      then_the_place = λ lk h. rw (eq-eqb (length key) 16 lk, ne_eqb (length place) (envelope_size v) h);
      then_the_note = λ lk lp h. rw (eq-eqb (length key) 16 lk, eq-eqb (length place) (envelope_size v) lp, lt-leb (length note) 55 h);
      then_the_amount = λ lk lp ln h.
          rw (eq-eqb (length key) 16 lk, eq-eqb (length place) (envelope_size v) lp, le-leb (length note) 55 ln, lt-leb amount most_cents h);
    }

pub same_bids : (v : Variant) (key terms : List ℕ) (lot bidder sequence a b : ℕ) (m n : List ℕ) → LawfulBid a m → LawfulBid b n
    → (bid v key terms lot bidder sequence a m ≡ bid v key terms lot bidder sequence b n) ↔ ((a ≡ b) × (m ≡ n))
same_bids v key terms lot bidder sequence a b m n la lb = (
  (λ p.
      let q : letter a m ≡ letter b n =
      sym (bid_letter v key terms lot bidder sequence a m la.note_within) ∙ ap (letter_sealed_in v key) p ∙ bid_letter v key terms lot bidder sequence b n lb.note_within in
      (sym (letter_amount a m la.amount_within) ∙ ap amount_field q ∙ letter_amount b n lb.amount_within, sym (letter_note a m) ∙ ap note_field q ∙ letter_note b n)),
  (λ p. ap₂ (bid v key terms lot bidder sequence) p.0 p.1),
)

pub letter_laws : LawsOfLetters
letter_laws =
    record {
      a_written_letter_is_lawful = λ amount note l. (letter_lawful amount note l.amount_within l.note_within, letter_length amount note l.note_within);
      lawful_letters_are_those_that_can_be_written = written;
      reading_gives_amount_and_note_back = λ amount note l. (amount_in_letter amount note l.amount_within l.note_within, letter_note amount note);
      one_cent_above_the_limit_is_unlawful = (letter_lawful most_cents [] (omega arith) (omega arith), above_limit_unlawful);
      no_amount_is_above_the_limit = amount_in_le;
    }

pub bid_laws : LawsOfBids
bid_laws =
    record {
      granted_exactly_when_lawful = λ v key amount note place. (bid_granted v key amount note place, grants_bid v key amount note place);
      refused_for_the_first_fault = first_decides;
      envelopes_have_84_84_and_92_bytes = (refl, refl, refl);
      lengths_depend_on_the_variant_alone = λ v key terms lot bidder sequence amount note l. bid_length v key terms lot bidder sequence amount note l.note_within;
      bids_are_equal_exactly_when_amount_and_note_are = same_bids;
      heads_name_lot_bidder_and_sequence = λ v key terms lot bidder sequence amount note hl hb hs.
          (bid_lot v key terms lot bidder sequence amount note hl, bid_bidder v key terms lot bidder sequence amount note hb, bid_sequence v key terms lot bidder sequence amount note hs);
      bids_pass_the_check_of_their_tag = λ v key terms lot bidder sequence amount note lk lt l. bid_passes v key terms lot bidder sequence amount note lk lt l.note_within;
      bids_open_to_their_letter = λ v key terms lot bidder sequence amount note l. bid_letter v key terms lot bidder sequence amount note l.note_within;
    }

pub laws : EnvelopeLaws
laws = record { letters = letter_laws; pens = pen_laws; bids = bid_laws }
