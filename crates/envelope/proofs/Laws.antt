-- The laws of letters, heads and sealed bids, for the layers above.
use Rattle.std.proofs.Common.{◌≡◌, ℕ, zero, suc, ◌+◌, ◌-◌, ◌^◌, ◌<◌, ◌≤◌, true, List, [], ◌∷◌, ◌++◌, length, take, drop, replicate, sym, refl, ap, ◌∙◌, ap₂, ⊎_elim, arith}
use Rattle.std.specs.Int.Digits.{number_from_digits, AllBelowBase}
use Rattle.std.proofs.ByRecursion.{All-take, All-drop}
use Rattle.std.proofs.lemmas.Bool.{cases_Bool}
use Rattle.std.proofs.lemmas.List.{take_at, take-take, drop_at, drop-drop, drop-take, take-append-drop, drop_more, get_or_at, length-append, length-replicate, length-take-le, length-drop, append_assoc}
use Rattle.fault.specs.Checks.{is_granted}
use Rattle.big_endian.specs.Numbers.{bytes_of}
use Rattle.big_endian.proofs.Laws.{bytes_back, bytes_of_length}
use Rattle.engine.specs.declared.variants.Variant.{Variant}
use Rattle.cipher.specs.Mode.{tag_size, tag, sealed_text, opened_text}
use Rattle.cipher.specs.Calls.{check_answer}
use Rattle.cipher.proofs.Laws.{sealed_length, tag_length, opened_sealed, right_tag_passes}
use Rattle.envelope.specs.Letters.{letter, most_cents, amount_field, note_length, note_field, after_note, all_zero, is_lawful, amount_offered}
use Rattle.envelope.specs.Heads.{head, lot_of, bidder_of, sequence_of}
use Rattle.envelope.specs.Envelopes.{envelope_size, head_part, sealed_part, tag_part, envelope_of, bid, right_tag, letter_sealed_in}
use Rattle.envelope.proofs.LetterLaws.{lawful_rest, lawful_length, lawful_amount, lawful_note, lawful_after_note, zeros_replicated, offered, offered_none}
use Rattle.envelope.proofs.HeadLaws.{number_back, head_length, lot_back, bidder_back, sequence_back}

-- Letters.

-- What stands after the amount in a letter.
abbrev after_amount : List ℕ → List ℕ
after_amount note = length note ∷ (note ++ replicate (55 - length note) 0)

pub letter_length : (amount : ℕ) (note : List ℕ) → length note ≤ 55 → length (letter amount note) ≡ 64
unfolding letter
letter_length amount note h =
    let zeros : List ℕ = replicate (55 - length note) 0 in
    omega (arith, length-append (bytes_of 8 amount) (after_amount note), bytes_of_length 8 amount, length-append note zeros, length-replicate {A = ℕ} (55 - length note) 0)

pub letter_amount_back : (amount : ℕ) (note : List ℕ) → amount < 2 ^ 64 → amount_field (letter amount note) ≡ amount
unfolding letter
letter_amount_back amount note h =
    ap (number_from_digits 256) (take_at (bytes_of 8 amount) (after_amount note) 8 (bytes_of_length 8 amount)) ∙ number_back 8 amount (omega arith)

pub letter_amount : (amount : ℕ) (note : List ℕ) → amount ≤ most_cents → amount_field (letter amount note) ≡ amount
letter_amount amount note h = letter_amount_back amount note (omega arith)

pub letter_note_length : (amount : ℕ) (note : List ℕ) → note_length (letter amount note) ≡ length note
unfolding letter
letter_note_length amount note = get_or_at (bytes_of 8 amount) (length note) (note ++ replicate (55 - length note) 0) 0 8 (bytes_of_length 8 amount)

-- What stands after amount and note length.
after_nine : (amount : ℕ) (note : List ℕ) → drop 9 (letter amount note) ≡ note ++ replicate (55 - length note) 0
unfolding letter
after_nine amount note =
    let front : length (bytes_of 8 amount ++ (length note ∷ [])) ≡ 9 = length-append (bytes_of 8 amount) (length note ∷ []) ∙ omega (arith, bytes_of_length 8 amount) in
    ap (drop 9) (sym (append_assoc (bytes_of 8 amount) (length note ∷ []) (note ++ replicate (55 - length note) 0)))
    ∙ drop_at (bytes_of 8 amount ++ (length note ∷ [])) (note ++ replicate (55 - length note) 0) 9 front

pub letter_note : (amount : ℕ) (note : List ℕ) → note_field (letter amount note) ≡ note
letter_note amount note =
    ap₂ take (letter_note_length amount note) (after_nine amount note) ∙ take_at note (replicate (55 - length note) 0) (length note) refl

letter_after_note : (amount : ℕ) (note : List ℕ) → after_note (letter amount note) ≡ replicate (55 - length note) 0
letter_after_note amount note =
    ap (λ n. drop (9 + n) (letter amount note)) (letter_note_length amount note)
    ∙ sym (drop-drop (length note) 9 (letter amount note))
    ∙ ap (drop (length note)) (after_nine amount note)
    ∙ drop_at note (replicate (55 - length note) 0) (length note) refl

all_zero_zeros : (n : ℕ) → all_zero (replicate n 0) ≡ true
all_zero_zeros zero = refl
all_zero_zeros (suc n) = all_zero_zeros n

pub letter_lawful : (amount : ℕ) (note : List ℕ) → amount ≤ most_cents → length note ≤ 55 → is_lawful (letter amount note) ≡ true
letter_lawful amount note ha hn =
    let a = letter_amount amount note ha in
    let n = letter_note_length amount note in
    lawful_rest (letter amount note) (letter_length amount note hn) (omega arith) (omega arith)
    ∙ ap all_zero (letter_after_note amount note) ∙ all_zero_zeros (55 - length note)

pub note_field_length : (xs : List ℕ) → is_lawful xs ≡ true → length (note_field xs) ≡ note_length xs
note_field_length xs h =
    let l = lawful_length xs h in
    let n = lawful_note xs h in
    length-take-le (note_length xs) (drop 9 xs) (omega (arith, length-drop 9 xs, l, n))

-- A lawful letter is the letter of its amount and its note.
pub lawful_is_letter : (xs : List ℕ) → AllBelowBase 256 xs → is_lawful xs ≡ true → xs ≡ letter (amount_field xs) (note_field xs)
unfolding letter
lawful_is_letter xs u h =
    let l = lawful_length xs h in
    let n = lawful_note xs h in
    let ln = note_field_length xs h in
    let eight : bytes_of 8 (amount_field xs) ≡ take 8 xs = bytes_back 8 (take 8 xs) (length-take-le 8 xs (omega (arith, l))) (All-take (λ d. d < 256) 8 xs u) in
    let rest : after_note xs ≡ replicate (55 - length (note_field xs)) 0 =
    zeros_replicated (after_note xs) (lawful_after_note xs h)
    ∙ ap (λ k. replicate k 0) (length-drop (9 + note_length xs) xs ∙ omega (arith, l, ln, n)) in
    let tail : drop 9 xs ≡ note_field xs ++ replicate (55 - length (note_field xs)) 0 =
    sym (take-append-drop (note_length xs) (drop 9 xs)) ∙ ap (λ z. note_field xs ++ z) (drop-drop (note_length xs) 9 xs ∙ rest) in
    sym (take-append-drop 8 xs)
    ∙ ap₂ ◌++◌ (sym eight) (drop_more xs 8 0 (omega (arith, l)) ∙ ap₂ ◌∷◌ (sym ln) tail)

pub note_bytes : (xs : List ℕ) → AllBelowBase 256 xs → AllBelowBase 256 (note_field xs)
note_bytes xs u = All-take (λ d. d < 256) (note_length xs) (drop 9 xs) (All-drop (λ d. d < 256) 9 xs u)

pub amount_in_letter : (amount : ℕ) (note : List ℕ) → amount ≤ most_cents → length note ≤ 55 → amount_offered (letter amount note) ≡ amount
amount_in_letter amount note ha hn = offered (letter amount note) (letter_lawful amount note ha hn) ∙ letter_amount amount note ha

pub amount_in_le : (xs : List ℕ) → amount_offered xs ≤ most_cents
amount_in_le xs =
    ⊎_elim (λ h. let a = lawful_amount xs h in let e = offered xs h in omega arith) (λ h. let e = offered_none xs h in omega arith) (cases_Bool (is_lawful xs))

-- Envelopes of any head and letter.

pub enveloped_head : (v : Variant) (key terms h l : List ℕ) → length h ≡ 12 → head_part (envelope_of v key terms h l) ≡ h
unfolding envelope_of
enveloped_head v key terms h l lh = take_at h _ 12 lh

enveloped_rest : (v : Variant) (key terms h l : List ℕ) → length h ≡ 12 → drop 12 (envelope_of v key terms h l) ≡ sealed_text v key h l ++ tag v key h terms (sealed_text v key h l)
unfolding envelope_of
enveloped_rest v key terms h l lh = drop_at h _ 12 lh

pub enveloped_sealed : (v : Variant) (key terms h l : List ℕ) → length h ≡ 12 → length l ≡ 64 → sealed_part (envelope_of v key terms h l) ≡ sealed_text v key h l
enveloped_sealed v key terms h l lh ll =
    ap (take 64) (enveloped_rest v key terms h l lh) ∙ take_at (sealed_text v key h l) _ 64 (sealed_length v key h l ∙ ll)

pub enveloped_tag : (v : Variant) (key terms h l : List ℕ) → length h ≡ 12 → length l ≡ 64 → tag_part (envelope_of v key terms h l) ≡ tag v key h terms (sealed_text v key h l)
enveloped_tag v key terms h l lh ll =
    sym (drop-drop 64 12 (envelope_of v key terms h l)) ∙ ap (drop 64) (enveloped_rest v key terms h l lh) ∙ drop_at (sealed_text v key h l) _ 64 (sealed_length v key h l ∙ ll)

pub enveloped_length : (v : Variant) (key terms h l : List ℕ) → length h ≡ 12 → length l ≡ 64 → length (envelope_of v key terms h l) ≡ envelope_size v
unfolding envelope_of
enveloped_length v key terms h l lh ll =
    let s = sealed_text v key h l in
    let t = tag v key h terms s in
    omega (arith, length-append h (s ++ t), length-append s t, sealed_length v key h l, tag_length v key h terms s)

pub enveloped_right : (v : Variant) (key terms h l : List ℕ) → length h ≡ 12 → length l ≡ 64 → right_tag v key terms (envelope_of v key terms h l) ≡ tag_part (envelope_of v key terms h l)
enveloped_right v key terms h l lh ll =
    ap₂ (λ n s. tag v key n terms s) (enveloped_head v key terms h l lh) (enveloped_sealed v key terms h l lh ll) ∙ sym (enveloped_tag v key terms h l lh ll)

pub enveloped_letter : (v : Variant) (key terms h l : List ℕ) → length h ≡ 12 → length l ≡ 64 → letter_sealed_in v key (envelope_of v key terms h l) ≡ l
enveloped_letter v key terms h l lh ll =
    ap₂ (λ n s. opened_text v key n s) (enveloped_head v key terms h l lh) (enveloped_sealed v key terms h l lh ll) ∙ opened_sealed v key h l

-- A head is the head of what it names, where it is made of bytes.
pub head_back : (e : List ℕ) → 12 ≤ length e → AllBelowBase 256 e → head (lot_of e) (bidder_of e) (sequence_of e) ≡ head_part e
unfolding head
head_back e l u =
    let under : (k : ℕ) → AllBelowBase 256 (take 4 (drop k e)) = λ k. All-take (λ d. d < 256) 4 (drop k e) (All-drop (λ d. d < 256) k e u) in
    let long : (k : ℕ) → k + 4 ≤ length e → length (take 4 (drop k e)) ≡ 4 = λ k h. length-take-le 4 (drop k e) (omega (arith, length-drop k e)) in
    let a = bytes_back 4 (take 4 (drop 0 e)) (long 0 (omega arith)) (under 0) in
    let b = bytes_back 4 (take 4 (drop 4 e)) (long 4 (omega arith)) (under 4) in
    let c = bytes_back 4 (take 4 (drop 8 e)) (long 8 (omega arith)) (under 8) in
    let eight : take 4 (drop 4 e) ++ take 4 (drop 8 e) ≡ drop 4 (take 12 e) =
    sym (ap (λ r. take 4 (drop 4 e) ++ take 4 r) (drop-drop 4 4 e))
    ∙ ap₂ ◌++◌ (sym (take-take 4 8 (drop 4 e) (omega arith))) (sym (drop-take 4 4 (drop 4 e)))
    ∙ take-append-drop 4 (take 8 (drop 4 e)) ∙ sym (drop-take 4 8 e) in
    ap₂ ◌++◌ a (ap₂ ◌++◌ b c)
    ∙ ap₂ ◌++◌ (sym (take-take 4 12 e (omega arith))) eight
    ∙ take-append-drop 4 (take 12 e)

-- Bids.

pub bid_is : (v : Variant) (key terms : List ℕ) (lot bidder sequence amount : ℕ) (note : List ℕ)
    → bid v key terms lot bidder sequence amount note ≡ envelope_of v key terms (head lot bidder sequence) (letter amount note)
unfolding bid
bid_is v key terms lot bidder sequence amount note = refl

module _ (v : Variant) (key terms : List ℕ) (lot bidder sequence amount : ℕ) (note : List ℕ) where
  abbrev e : List ℕ
  e = bid v key terms lot bidder sequence amount note

  -- An envelope opens with its head.
  pub bid_head : head_part e ≡ head lot bidder sequence
  bid_head =
      ap head_part (bid_is v key terms lot bidder sequence amount note)
      ∙ enveloped_head v key terms (head lot bidder sequence) (letter amount note) (head_length lot bidder sequence)

  pub bid_lot : lot < 2 ^ 32 → lot_of e ≡ lot
  unfolding bid envelope_of
  bid_lot h = lot_back lot bidder sequence _ h

  pub bid_bidder : bidder < 2 ^ 32 → bidder_of e ≡ bidder
  unfolding bid envelope_of
  bid_bidder h = bidder_back lot bidder sequence _ h

  pub bid_sequence : sequence < 2 ^ 32 → sequence_of e ≡ sequence
  unfolding bid envelope_of
  bid_sequence h = sequence_back lot bidder sequence _ h

  pub bid_sealed : length note ≤ 55 → sealed_part e ≡ sealed_text v key (head lot bidder sequence) (letter amount note)
  unfolding bid
  bid_sealed h = enveloped_sealed v key terms (head lot bidder sequence) (letter amount note) (head_length lot bidder sequence) (letter_length amount note h)

  pub bid_length : length note ≤ 55 → length e ≡ envelope_size v
  unfolding bid
  bid_length h = enveloped_length v key terms (head lot bidder sequence) (letter amount note) (head_length lot bidder sequence) (letter_length amount note h)

  pub bid_right : length note ≤ 55 → right_tag v key terms e ≡ tag_part e
  unfolding bid
  bid_right h = enveloped_right v key terms (head lot bidder sequence) (letter amount note) (head_length lot bidder sequence) (letter_length amount note h)

  pub bid_letter : length note ≤ 55 → letter_sealed_in v key e ≡ letter amount note
  unfolding bid
  bid_letter h = enveloped_letter v key terms (head lot bidder sequence) (letter amount note) (head_length lot bidder sequence) (letter_length amount note h)

  pub bid_tag_length : length note ≤ 55 → length (tag_part e) ≡ tag_size v
  bid_tag_length h = length-drop 76 e ∙ omega (arith, bid_length h)

  pub bid_passes : length key ≡ 16 → length terms ≤ 64 → length note ≤ 55 → is_granted (check_answer v key (head_part e) terms (sealed_part e) (tag_part e)) ≡ true
  bid_passes lk lt h =
      let n = letter_length amount note h in
      (right_tag_passes v key (head_part e) terms (sealed_part e) (tag_part e)
      (record {
        key_length = lk;
        nonce_length = ap length bid_head ∙ head_length lot bidder sequence;
        associated_length = omega arith;
        text_length = omega (arith, ap length (bid_sealed h), sealed_length v key (head lot bidder sequence) (letter amount note));
        tag_length = bid_tag_length h;
      })
      ).1 (sym (bid_right h))
