-- Heads: how one is written, and what is read of it.
use Rattle.std.proofs.Common.{◌≡◌, ℕ, zero, suc, ◌+◌, ◌*◌, ◌/◌, ◌%◌, ◌^◌, ◌<◌, List, [], ◌∷◌, ◌++◌, length, get_or, take, drop, sym, ap, ◌∙◌, ap₂, w32, arith}
use native.Mathlib.Numerals.{unary_clauses}
use Rattle.std.specs.Int.{to_be_bytes}
use Rattle.std.specs.Int.Digits.{number_from_digits}
use Rattle.std.proofs.lemmas.Int.Digits.{number_push}
use Rattle.std.proofs.lemmas.List.{take_at, drop_at, length-append, append_assoc}
use Rattle.big_endian.specs.Numbers.{bytes_of}
use Rattle.big_endian.proofs.Laws.{bytes_of_length}
use Rattle.cipher.proofs.Bytes.{bytes_given}
use Rattle.envelope.specs.Heads.{head, lot_of, bidder_of, sequence_of}

-- The number that the last k bytes of a number write is that number, if it has no more bytes.
pub number_back : (k n : ℕ) → n < 256 ^ k → number_from_digits 256 (bytes_of k n) ≡ n
unfolding bytes_of
number_back zero n h = omega arith
number_back (suc k) n h =
    let e : 256 ^ suc k ≡ 256 ^ k * 256 = simp unary_clauses in
    let q : n / 256 < 256 ^ k = omega arith in
    number_push 256 (bytes_of k (n / 256)) (n % 256) ∙ ap (λ m. m * 256 + n % 256) (number_back k (n / 256) q) ∙ omega arith

-- The twelve bytes of three numbers are their head.
pub head_written : (l b s : ℕ) (xs ys zs : List ℕ) → xs ≡ to_be_bytes w32 l → ys ≡ to_be_bytes w32 b → zs ≡ to_be_bytes w32 s
    → get_or xs 0 0 ∷ get_or xs 1 0 ∷ get_or xs 2 0 ∷ get_or xs 3 0 ∷ get_or ys 0 0 ∷ get_or ys 1 0 ∷ get_or ys 2 0 ∷ get_or ys 3 0 ∷ get_or zs 0 0 ∷ get_or zs 1 0 ∷ get_or zs 2 0 ∷ get_or zs 3 0 ∷ [] ≡ head l b s
unfolding head
head_written l b s xs ys zs el eb es =
    (λ i. get_or (el i) 0 0 ∷ get_or (el i) 1 0 ∷ get_or (el i) 2 0 ∷ get_or (el i) 3 0 ∷ get_or (eb i) 0 0 ∷ get_or (eb i) 1 0 ∷ get_or (eb i) 2 0 ∷ get_or (eb i) 3 0 ∷ get_or (es i) 0 0 ∷ get_or (es i) 1 0 ∷ get_or (es i) 2 0 ∷ get_or (es i) 3 0 ∷ [])
    ∙ ap₂ ◌++◌ (bytes_given 4 l) (ap₂ ◌++◌ (bytes_given 4 b) (bytes_given 4 s))

pub head_length : (l b s : ℕ) → length (head l b s) ≡ 12
unfolding head
head_length l b s =
    let ll = bytes_of_length 4 l in
    let lb = bytes_of_length 4 b in
    let ls = bytes_of_length 4 s in
    omega (arith, length-append (bytes_of 4 l) (bytes_of 4 b ++ bytes_of 4 s), length-append (bytes_of 4 b) (bytes_of 4 s))

-- The bytes of lot, bidder and sequence in an envelope that opens with a head.
lot_bytes : (l b s : ℕ) (rest : List ℕ) → take 4 (head l b s ++ rest) ≡ bytes_of 4 l
unfolding head
lot_bytes l b s rest =
    ap (take 4) (append_assoc (bytes_of 4 l) (bytes_of 4 b ++ bytes_of 4 s) rest) ∙ take_at (bytes_of 4 l) _ 4 (bytes_of_length 4 l)

bidder_bytes : (l b s : ℕ) (rest : List ℕ) → take 4 (drop 4 (head l b s ++ rest)) ≡ bytes_of 4 b
unfolding head
bidder_bytes l b s rest =
    ap (λ p. take 4 (drop 4 p)) (append_assoc (bytes_of 4 l) (bytes_of 4 b ++ bytes_of 4 s) rest)
    ∙ ap (take 4) (drop_at (bytes_of 4 l) _ 4 (bytes_of_length 4 l) ∙ append_assoc (bytes_of 4 b) (bytes_of 4 s) rest)
    ∙ take_at (bytes_of 4 b) _ 4 (bytes_of_length 4 b)

sequence_bytes : (l b s : ℕ) (rest : List ℕ) → take 4 (drop 8 (head l b s ++ rest)) ≡ bytes_of 4 s
unfolding head
sequence_bytes l b s rest =
    let front : length (bytes_of 4 l ++ bytes_of 4 b) ≡ 8 = length-append (bytes_of 4 l) (bytes_of 4 b) ∙ omega (arith, bytes_of_length 4 l, bytes_of_length 4 b) in
    ap (λ p. take 4 (drop 8 (p ++ rest))) (sym (append_assoc (bytes_of 4 l) (bytes_of 4 b) (bytes_of 4 s)))
    ∙ ap (λ p. take 4 (drop 8 p)) (append_assoc (bytes_of 4 l ++ bytes_of 4 b) (bytes_of 4 s) rest)
    ∙ ap (take 4) (drop_at (bytes_of 4 l ++ bytes_of 4 b) _ 8 front)
    ∙ take_at (bytes_of 4 s) rest 4 (bytes_of_length 4 s)

-- They are read back, if they are below 2^32.
pub lot_back : (l b s : ℕ) (rest : List ℕ) → l < 2 ^ 32 → lot_of (head l b s ++ rest) ≡ l
lot_back l b s rest h = ap (number_from_digits 256) (lot_bytes l b s rest) ∙ number_back 4 l h

pub bidder_back : (l b s : ℕ) (rest : List ℕ) → b < 2 ^ 32 → bidder_of (head l b s ++ rest) ≡ b
bidder_back l b s rest h = ap (number_from_digits 256) (bidder_bytes l b s rest) ∙ number_back 4 b h

pub sequence_back : (l b s : ℕ) (rest : List ℕ) → s < 2 ^ 32 → sequence_of (head l b s ++ rest) ≡ s
sequence_back l b s rest h = ap (number_from_digits 256) (sequence_bytes l b s rest) ∙ number_back 4 s h
