-- What letters, pens and sealed bids mean together.
use Rattle.std.specs.Prelude.{◌≡◌, ◌≢◌, ℕ, ◌+◌, ◌^◌, ◌<◌, ◌≤◌, true, false, ◌↔◌, List, [], map, length, Err, Result, slice_index}
use Rattle.std.specs.List.{AllByRecursion}
use Rattle.std.specs.Int.Digits.{AllBelowBase}
use Rattle.fault.specs.Checks.{is_granted}
use Rattle.engine.specs.declared.variants.Variant.{Variant}
use Rattle.engine.specs.declared.variants.Variant.TheVariants.{Dumbo, Jumbo, Delirium}
use Rattle.cipher.specs.Calls.{check_answer}
use Rattle.cipher.specs.declared.faults.CipherFault.TheVariants.{KeyLength}
use Rattle.envelope.specs.Letters.{letter, letter_bytes, most_cents, note_field, is_lawful, amount_offered}
use Rattle.envelope.specs.Terms.{most_terms_bytes, bytes_of_terms}
use Rattle.envelope.specs.Pens.{pen_answer, take_answer}
use Rattle.envelope.specs.Heads.{lot_of, bidder_of, sequence_of}
use Rattle.envelope.specs.Envelopes.{envelope_size, head_part, sealed_part, tag_part, bid, letter_sealed_in}
use Rattle.envelope.specs.Calls.{bid_answer}
use Rattle.envelope.specs.Takings.{IsNewPen, Takings, heads_given, NoTwoEqual}
use Rattle.envelope.specs.declared.heads.Head.{Head}
use Rattle.envelope.specs.declared.pens.Pen.{Pen}
use Rattle.envelope.specs.declared.faults.EnvelopeFault.{EnvelopeFault}
use Rattle.envelope.specs.declared.faults.EnvelopeFault.TheVariants.{TermsLength, HeadsSpent, EnvelopeLength, NoteLength, AmountAboveLimit, Cipher}

-- An amount and a note that can be sealed.
pub record LawfulBid (amount : ℕ) (note : List ℕ) : Type 0 where
  pub amount_within : amount ≤ 999999999999
  pub note_within : length note ≤ 55

-- All that sealing a bid asks for.
pub record LawfulSealing (v : Variant) (key : List ℕ) (amount : ℕ) (note place : List ℕ) : Type 0 where
  pub key_length : length key ≡ 16
  pub place_length : length place ≡ envelope_size v
  pub bid_within : LawfulBid amount note

-- The first fault decides how sealing is refused, whatever is wrong after it.
pub record FirstFaultDecides (v : Variant) (key : List ℕ) (amount : ℕ) (note place : List ℕ) : Type 0 where
  pub the_key : length key ≢ 16 → bid_answer v key amount note place ≡ Err (Cipher KeyLength)
  pub then_the_place : length key ≡ 16 → length place ≢ envelope_size v → bid_answer v key amount note place ≡ Err EnvelopeLength
  pub then_the_note : length key ≡ 16 → length place ≡ envelope_size v → 55 < length note → bid_answer v key amount note place ≡ Err NoteLength
  pub then_the_amount :
      length key ≡ 16 → length place ≡ envelope_size v → length note ≤ 55 → 999999999999 < amount
      → bid_answer v key amount note place ≡ Err AmountAboveLimit

-- The laws of letters.
pub record LawsOfLetters : Type 0 where
  -- What is written is a lawful letter of 64 bytes.
  pub a_written_letter_is_lawful : (amount : ℕ) (note : List ℕ) → LawfulBid amount note → (is_lawful (letter amount note) ≡ true) × (length (letter amount note) ≡ letter_bytes)
  -- The lawful letters are those that can be written: each is the letter of an amount within the limit and a note of at most 55 bytes.
  pub lawful_letters_are_those_that_can_be_written :
      (xs : List ℕ) → AllBelowBase 256 xs
      → (is_lawful xs ≡ true) ↔ ((amount : ℕ) × (note : List ℕ) × LawfulBid amount note × AllBelowBase 256 note × (xs ≡ letter amount note))
  -- Reading it gives the amount and the note back.
  pub reading_gives_amount_and_note_back : (amount : ℕ) (note : List ℕ) → LawfulBid amount note → (amount_offered (letter amount note) ≡ amount) × (note_field (letter amount note) ≡ note)
  -- The limit is a lawful amount, and one cent more is not.
  pub one_cent_above_the_limit_is_unlawful : (is_lawful (letter most_cents []) ≡ true) × (is_lawful (letter (most_cents + 1) []) ≡ false)
  -- Whatever is read, its amount is at most the limit.
  pub no_amount_is_above_the_limit : (xs : List ℕ) → amount_offered xs ≤ most_cents

-- The laws of pens: when making one and taking heads are granted, and what any list of takings from a pen just made gives.
pub record LawsOfPens : Type 0 where
  -- A pen is made of terms of at most 64 bytes, and refused for longer ones.
  pub a_pen_is_granted_for_terms_of_at_most_64_bytes :
      (lot : ℕ) (terms : List ℕ)
      → ((is_granted (pen_answer lot terms) ≡ true) ↔ (length terms ≤ 64)) × (64 < length terms → pen_answer lot terms ≡ Err TermsLength)
  -- Taking is granted as long as the next sequence has four bytes, and refused from then on.
  pub taking_is_granted_until_the_last_sequence :
      (p : Pen) (bidder : ℕ)
      → ((is_granted (take_answer p bidder) ≡ true) ↔ (p.given + 1 < 2 ^ 32)) × (2 ^ 32 ≤ p.given + 1 → take_answer p bidder ≡ Err HeadsSpent)
  -- No two heads of one pen are equal.
  pub no_two_heads_of_one_pen_are_equal :
      (lot : ℕ) (terms : List ℕ) (p q : Pen) (answers : List (Result Head EnvelopeFault)) → IsNewPen lot terms p → Takings p answers q
      → NoTwoEqual (heads_given answers)
  -- The sequences are 1, 2, 3 and on.
  pub sequences_count_from_one :
      (lot : ℕ) (terms : List ℕ) (p q : Pen) (answers : List (Result Head EnvelopeFault)) → IsNewPen lot terms p → Takings p answers q
      → (k : ℕ) → k < length (heads_given answers) → slice_index (map (λ h. h.fields.sequence) (heads_given answers)) k ≡ k + 1
  -- Every head has the pen's lot and terms.
  pub heads_have_the_lot_and_terms_of_their_pen :
      (lot : ℕ) (terms : List ℕ) (p q : Pen) (answers : List (Result Head EnvelopeFault)) → IsNewPen lot terms p → Takings p answers q
      → AllByRecursion (λ h. (h.fields.lot ≡ lot) × (bytes_of_terms h.terms ≡ terms)) (heads_given answers)

-- The laws of sealed bids.
pub record LawsOfBids : Type 0 where
  -- Sealing is granted exactly when key, place, note and amount are lawful.
  pub granted_exactly_when_lawful :
      (v : Variant) (key : List ℕ) (amount : ℕ) (note place : List ℕ)
      → (is_granted (bid_answer v key amount note place) ≡ true) ↔ LawfulSealing v key amount note place
  -- Of several faults the first decides.
  pub refused_for_the_first_fault : (v : Variant) (key : List ℕ) (amount : ℕ) (note place : List ℕ) → FirstFaultDecides v key amount note place
  -- Envelopes have 84, 84 and 92 bytes.
  pub envelopes_have_84_84_and_92_bytes : (envelope_size Dumbo ≡ 84) × (envelope_size Jumbo ≡ 84) × (envelope_size Delirium ≡ 92)
  -- The length of an envelope depends on the variant alone.
  pub lengths_depend_on_the_variant_alone :
      (v : Variant) (key terms : List ℕ) (lot bidder sequence amount : ℕ) (note : List ℕ) → LawfulBid amount note
      → length (bid v key terms lot bidder sequence amount note) ≡ envelope_size v
  -- Under one variant, key, terms and head two bids are equal exactly when amount and note are.
  pub bids_are_equal_exactly_when_amount_and_note_are :
      (v : Variant) (key terms : List ℕ) (lot bidder sequence a b : ℕ) (m n : List ℕ) → LawfulBid a m → LawfulBid b n
      → (bid v key terms lot bidder sequence a m ≡ bid v key terms lot bidder sequence b n) ↔ ((a ≡ b) × (m ≡ n))
  -- The head of a bid names its lot, bidder and sequence.
  pub heads_name_lot_bidder_and_sequence :
      (v : Variant) (key terms : List ℕ) (lot bidder sequence amount : ℕ) (note : List ℕ) → lot < 2 ^ 32 → bidder < 2 ^ 32 → sequence < 2 ^ 32
      → (lot_of (bid v key terms lot bidder sequence amount note) ≡ lot) × (bidder_of (bid v key terms lot bidder sequence amount note) ≡ bidder)
      × (sequence_of (bid v key terms lot bidder sequence amount note) ≡ sequence)
  -- A bid passes the check of its tag under its key and terms.
  pub bids_pass_the_check_of_their_tag :
      (v : Variant) (key terms : List ℕ) (lot bidder sequence amount : ℕ) (note : List ℕ) → length key ≡ 16 → length terms ≤ most_terms_bytes → LawfulBid amount note
      → (let e = bid v key terms lot bidder sequence amount note in is_granted (check_answer v key (head_part e) terms (sealed_part e) (tag_part e)) ≡ true)
  -- A bid opens to its letter.
  pub bids_open_to_their_letter :
      (v : Variant) (key terms : List ℕ) (lot bidder sequence amount : ℕ) (note : List ℕ) → LawfulBid amount note
      → letter_sealed_in v key (bid v key terms lot bidder sequence amount note) ≡ letter amount note

pub record EnvelopeLaws : Type 0 where
  pub letters : LawsOfLetters
  pub pens : LawsOfPens
  pub bids : LawsOfBids
