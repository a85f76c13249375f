-- Letters: how one is written, and how it is read.
use Rattle.std.proofs.Common.{◌≡◌, ℕ, ◌+◌, ◌-◌, ◌<◌, ◌≤◌, true, false, ◌&&◌, leb, List, [], ◌∷◌, ◌++◌, length, get_or, take, drop, set, replicate, w64, ◌==◌, refl, sym, ap, ap₂, ◌∙◌, arith}
use borrow.Rule.Slice.PartMut.{put_mid, post_of}
use Rattle.std.specs.Int.{to_be_bytes, from_be_bytes}
use Rattle.std.specs.List.{list_all}
use Rattle.std.specs.Int.Digits.{number_from_digits}
use Rattle.std.proofs.lemmas.Bool.{eq-eqb, ne_eqb, le-leb, lt-leb, eqb-true, leb-true, and_parts, and_left, and_right, cond-true, cond-false}
use Rattle.std.proofs.lemmas.List.{get_or-drop, take_rest, drop-drop, set_at, take_at, drop_at, append_assoc, length-append, drop-replicate, length-take-le}
use Rattle.big_endian.specs.Numbers.{bytes_of}
use Rattle.big_endian.proofs.Laws.{bytes_of_length}
use Rattle.cipher.proofs.Bytes.{bytes_given, eight_read}
use Rattle.envelope.specs.Letters.{letter, most_cents, amount_field, note_length, after_note, all_zero, is_lawful, amount_offered}

-- All bytes are zero, by the library's word.
pub all_zeros : (xs : List ℕ) → list_all (λ x. x == 0) xs ≡ all_zero xs
all_zeros [] = refl
all_zeros (x ∷ xs) = ap (λ b. x == 0 && b) (all_zeros xs)

-- What stands in the place after amount, note length and note are written over zeros.
written_parts : (a note : List ℕ) (n : ℕ) → length a ≡ 8 → put_mid 9 (9 + n - 9) (set (a ++ replicate 56 0) 8 n) note ≡ a ++ (n ∷ (note ++ replicate (55 - n) 0))
written_parts a note n la =
    let front : List ℕ = a ++ (n ∷ []) in
    let lf : length front ≡ 9 = length-append a (n ∷ []) ∙ omega arith in
    let split : set (a ++ replicate 56 0) 8 n ≡ front ++ replicate 55 0 = set_at a 0 (replicate 55 0) n 8 la ∙ sym (append_assoc a (n ∷ []) (replicate 55 0)) in
    let k : 9 + n - 9 ≡ n = omega arith in
    ap (λ xs. put_mid 9 (9 + n - 9) xs note) split
    ∙ ap (λ xs. xs ++ (note ++ post_of 9 (9 + n - 9) (front ++ replicate 55 0))) (take_at front (replicate 55 0) 9 lf)
    ∙ ap (λ xs. front ++ (note ++ drop (9 + n - 9) xs)) (drop_at front (replicate 55 0) 9 lf)
    ∙ ap (λ m. front ++ (note ++ drop m (replicate 55 0))) k
    ∙ ap (λ xs. front ++ (note ++ xs)) (drop-replicate n 55 0)
    ∙ append_assoc a (n ∷ []) (note ++ replicate (55 - n) 0)

pub written : (amount : ℕ) (note a n : List ℕ) → a ≡ to_be_bytes w64 amount → n ≡ note → put_mid 9 (9 + length note - 9) (set (a ++ replicate 56 0) 8 (length note)) n ≡ letter amount note
unfolding letter
written amount note a n ea en =
    let eb : a ≡ bytes_of 8 amount = ea ∙ bytes_given 8 amount in
    let la : length a ≡ 8 = ap length eb ∙ bytes_of_length 8 amount in
    ap (put_mid 9 (9 + length note - 9) (set (a ++ replicate 56 0) 8 (length note))) en
    ∙ written_parts a note (length note) la
    ∙ ap (λ xs. xs ++ (length note ∷ (note ++ replicate (55 - length note) 0))) eb

-- The number that is read from the first eight bytes is the amount.
pub amount_read : (xs ys : List ℕ) (n : ℕ) → 8 ≤ length xs → ys ≡ take 8 xs → n ≡ from_be_bytes w64 ys → n ≡ amount_field xs
amount_read xs ys n h e r =
    r ∙ eight_read ys (ap length e ∙ length-take-le 8 xs h) ∙ ap (number_from_digits 256) e

-- What each check says of a letter.
pub unlawful_length : (xs : List ℕ) → (length xs ≡ 64 → ⊥) → false ≡ is_lawful xs
unfolding is_lawful
unlawful_length xs h = sym (and_left _ _ (ne_eqb (length xs) 64 h))

pub unlawful_amount : (xs : List ℕ) → most_cents < amount_field xs → false ≡ is_lawful xs
unfolding is_lawful
unlawful_amount xs h = sym (and_right _ _ (and_left _ _ (lt-leb (amount_field xs) most_cents h)))

pub unlawful_note : (xs : List ℕ) → 55 < note_length xs → false ≡ is_lawful xs
unfolding is_lawful
unlawful_note xs h = sym (and_right _ _ (and_right (leb (amount_field xs) most_cents) _ (and_left _ _ (lt-leb (note_length xs) 55 h))))

pub lawful_rest : (xs : List ℕ) → length xs ≡ 64 → amount_field xs ≤ most_cents → note_length xs ≤ 55 → is_lawful xs ≡ all_zero (after_note xs)
unfolding is_lawful
lawful_rest xs l a n =
    ap (λ b. b && (leb (amount_field xs) most_cents && (leb (note_length xs) 55 && all_zero (after_note xs)))) (eq-eqb (length xs) 64 l)
    ∙ ap (λ b. b && (leb (note_length xs) 55 && all_zero (after_note xs))) (le-leb (amount_field xs) most_cents a)
    ∙ ap (λ b. b && all_zero (after_note xs)) (le-leb (note_length xs) 55 n)

-- The same, where the letter is split into eight bytes and the rest, which has the note's length in front.
module _ (xs rest : List ℕ) (split : rest ≡ drop 8 xs) where
  abbrev text : List ℕ
  text = take (length rest - 1) (drop 1 rest)

  length_is : get_or rest 0 0 ≡ note_length xs
  length_is = ap (λ ys. get_or ys 0 0) split ∙ get_or-drop 8 xs 0 0

  pub long_note : 55 < get_or rest 0 0 → false ≡ is_lawful xs
  long_note h = unlawful_note xs (let e = length_is in omega arith)

  zeros_are : take (length text - get_or rest 0 0) (drop (get_or rest 0 0) text) ≡ after_note xs
  zeros_are =
      take_rest text (get_or rest 0 0) ∙ ap (drop (get_or rest 0 0)) (take_rest rest 1 ∙ ap (drop 1) split ∙ drop-drop 1 8 xs)
      ∙ drop-drop (get_or rest 0 0) 9 xs ∙ ap (λ k. drop (9 + k) xs) length_is

  pub lawful_zeros : length xs ≡ 64 → amount_field xs ≤ most_cents → get_or rest 0 0 ≤ 55
      → all_zero (take (length text - get_or rest 0 0) (drop (get_or rest 0 0) text)) ≡ is_lawful xs
  lawful_zeros l a n = ap all_zero zeros_are ∙ sym (lawful_rest xs l a (let e = length_is in omega arith))

-- A lawful letter has 64 bytes and a lawful amount, which it offers; an unlawful one offers nothing.
pub lawful_length : (xs : List ℕ) → is_lawful xs ≡ true → length xs ≡ 64
unfolding is_lawful
lawful_length xs h = eqb-true (length xs) 64 (and_parts _ _ h).0

pub lawful_amount : (xs : List ℕ) → is_lawful xs ≡ true → amount_field xs ≤ most_cents
unfolding is_lawful
lawful_amount xs h = leb-true (amount_field xs) most_cents (and_parts _ _ (and_parts _ _ h).1).0

pub lawful_note : (xs : List ℕ) → is_lawful xs ≡ true → note_length xs ≤ 55
unfolding is_lawful
lawful_note xs h = leb-true (note_length xs) 55 (and_parts _ _ (and_parts _ _ (and_parts _ _ h).1).1).0

pub lawful_after_note : (xs : List ℕ) → is_lawful xs ≡ true → all_zero (after_note xs) ≡ true
unfolding is_lawful
lawful_after_note xs h =
    let zeros = all_zero (after_note xs) in
    let rest = leb (note_length xs) 55 && zeros in
    (and_parts (leb (note_length xs) 55) zeros (and_parts (leb (amount_field xs) most_cents) rest (and_parts (length xs == 64) (leb (amount_field xs) most_cents && rest) h).1).1).1

-- Bytes that are all zero.
pub zeros_replicated : (xs : List ℕ) → all_zero xs ≡ true → xs ≡ replicate (length xs) 0
zeros_replicated [] h = refl
zeros_replicated (x ∷ xs) h =
    let p = and_parts (x == 0) (all_zero xs) h in
    ap₂ ◌∷◌ (eqb-true x 0 p.0) (zeros_replicated xs p.1)

pub offered : (xs : List ℕ) → is_lawful xs ≡ true → amount_offered xs ≡ amount_field xs
unfolding amount_offered
offered xs h = cond-true (is_lawful xs) (amount_field xs) 0 h

pub offered_none : (xs : List ℕ) → is_lawful xs ≡ false → amount_offered xs ≡ 0
unfolding amount_offered
offered_none xs h = cond-false (is_lawful xs) (amount_field xs) 0 h
