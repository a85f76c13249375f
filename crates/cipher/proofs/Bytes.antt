-- Numbers and their bytes, by the library's words.
use Rattle.std.proofs.Common.{◌≡◌, ℕ, zero, suc, ◌+◌, ◌-◌, ◌*◌, ◌/◌, ◌%◌, ◌^◌, ◌<◌, ◌≤◌, w64, List, [], ◌∷◌, ◌++◌, length, take, sym, refl, ap, ◌∙◌, ap₂, add-mul, mul_assoc, arith}
use native.Mathlib.Numerals.{unary_clauses}
use Rattle.std.specs.Int.{w128, byte_at, byte_worth, bytes_high_first, sum_through, from_be_bytes}
use Rattle.std.specs.Int.Digits.{number_from_digits}
use Rattle.std.specs.List.{slice_index}
use Rattle.std.proofs.Math.Nat.{div-div-eq-div-mul}
use Rattle.std.proofs.lemmas.Int.Digits.{number_more}
use Rattle.std.proofs.lemmas.List.{take_all}
use Rattle.big_endian.specs.Numbers.{bytes_of}

byte_higher : (k n : ℕ) → byte_at (suc k) n ≡ byte_at k (n / 256)
byte_higher zero n = let e : n / 256 ^ 1 ≡ n / 256 = omega arith in ap (λ m. m % 256) e
byte_higher (suc k) n =
    let e : 256 ^ suc (suc k) ≡ 256 * 256 ^ suc k = simp unary_clauses (omega arith) in
    ap (λ m. m % 256) (ap (λ m. n / m) e ∙ sym (div-div-eq-div-mul n 256 (256 ^ suc k)))

lowest_last : (k n : ℕ) → bytes_high_first (suc k) n ≡ bytes_high_first k (n / 256) ++ (n % 256 ∷ [])
lowest_last zero n = refl
lowest_last (suc k) n = ap₂ ◌∷◌ (byte_higher k n) (lowest_last k n)

-- The last k bytes of a number.
pub bytes_given : (k n : ℕ) → bytes_high_first k n ≡ bytes_of k n
unfolding bytes_of
bytes_given zero n = refl
bytes_given (suc k) n = lowest_last k n ∙ ap (λ xs. xs ++ (n % 256 ∷ [])) (bytes_given k (n / 256))

worth : (i b : ℕ) → byte_worth i b ≡ b * 256 ^ i
worth zero b = omega arith
worth (suc i) b = refl

-- The first bytes of a number of n + 1 bytes, as the library adds them up.
worths : (n m : ℕ) (xs : List ℕ) → m ≤ n → m < length xs
    → sum_through (λ i. byte_worth (n - i) (slice_index xs i)) m ≡ number_from_digits 256 (take (m + 1) xs) * 256 ^ (n - m)
worths n zero xs h l =
    let first : slice_index xs 0 ≡ number_from_digits 256 (take 0 xs) * 256 + slice_index xs 0 = omega arith in
    worth (n - 0) (slice_index xs 0) ∙ ap (λ k. k * 256 ^ (n - 0)) (first ∙ sym (number_more 256 xs 0 l))
worths n (suc m) xs h l =
    let e : n - m ≡ suc (n - suc m) = omega arith in
    let p : 256 ^ suc (n - suc m) ≡ 256 * 256 ^ (n - suc m) = simp unary_clauses (omega arith) in
    let a : ℕ = number_from_digits 256 (take (m + 1) xs) in
    let s : suc m ≡ m + 1 = omega arith in
    let first : sum_through (λ i. byte_worth (n - i) (slice_index xs i)) m ≡ a * 256 * 256 ^ (n - suc m) =
    worths n m xs (omega arith) (omega arith) ∙ ap (λ k. a * 256 ^ k) e ∙ ap (λ k. a * k) p ∙ sym (mul_assoc a 256 (256 ^ (n - suc m))) in
    ap₂ ◌+◌ first (worth (n - suc m) (slice_index xs (suc m))) ∙ sym (add-mul (a * 256) (slice_index xs (suc m)) (256 ^ (n - suc m)))
    ∙ ap (λ k. k * 256 ^ (n - suc m)) (ap (λ k. number_from_digits 256 (take k xs) * 256 + slice_index xs (suc m)) (sym s) ∙ sym (number_more 256 xs (suc m) l))

-- The number that k + 1 bytes write.
number_read : (k : ℕ) (xs : List ℕ) → length xs ≡ k + 1 → sum_through (λ i. byte_worth (k - i) (slice_index xs i)) k ≡ number_from_digits 256 xs
number_read k xs h =
    let none : k - k ≡ 0 = omega arith in
    worths k k xs (omega arith) (omega arith) ∙ ap₂ (λ ys i. number_from_digits 256 ys * 256 ^ i) (take_all (k + 1) xs (omega arith)) none ∙ omega arith

pub eight_read : (xs : List ℕ) → length xs ≡ 8 → from_be_bytes w64 xs ≡ number_from_digits 256 xs
eight_read xs h = number_read 7 xs h

pub sixteen_read : (xs : List ℕ) → length xs ≡ 16 → from_be_bytes w128 xs ≡ number_from_digits 256 xs
sixteen_read xs h = number_read 15 xs h
