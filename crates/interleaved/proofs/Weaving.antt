-- What the bytes of a word become when it is woven, and when it is unwoven.
use Rattle.std.proofs.Common.{◌≡◌, ℕ, zero, suc, ◌+◌, ◌-◌, ◌*◌, ◌/◌, ◌%◌, ◌^◌, ◌<◌, Bool, eqb, sym, refl, ap, ◌∙◌, ap₂, ⊎_elim, mod-eq_of_lt, add-one, arith}
use Rattle.std.proofs.lemmas.Bool.{cases_lt}
use Rattle.std.proofs.lemmas.Nat.{mod-pow-add}
use Rattle.binary.specs.Bits.{bit, bit_number, word}
use Rattle.binary.proofs.BitLaws.{bit_suc}
use Rattle.binary.proofs.NumberLaws.{word_ext}
use Rattle.binary.proofs.RotationLaws.{bit_shr, bit_mod}
use Rattle.interleaved.specs.Moves.{Moved, weave_source, unweave_source}
use Rattle.interleaved.specs.Words.{woven_word, byte_in}

-- bits of a list of bytes
abbrev pub of_bytes : (ℕ → ℕ) → ℕ → Bool
of_bytes g j = bit (g (j / 8)) (j % 8)

-- the lowest bit as a number
one_low : (x : ℕ) → bit_number (bit x 0) ≡ x % 2
one_low x = low (x / 1 % 2) (omega arith) ∙ omega arith
  where
    low : (u : ℕ) → u < 2 → bit_number (eqb u 1) ≡ u
    low zero h = refl
    low (suc zero) h = refl
    low (suc (suc u)) h = absurd (omega arith)

-- a number from its lowest bits
low_word : (w x : ℕ) → x % 2 ^ w ≡ word (bit x) 0 w
low_word zero x = omega arith
low_word (suc w) x =
    let e = rw (add-one w) at (mod-pow-add x w 1) in
    let f : x % 2 ^ suc w ≡ x % 2 + 2 * (x / 2 % 2 ^ w) = omega (arith, e) in
    f ∙ ap₂ (λ a b. a + 2 * b) (sym (one_low x)) (low_word w (x / 2) ∙ word_ext (bit (x / 2)) (bit x) 0 1 w (λ k h. sym (ap (bit x) (shift k) ∙ bit_suc x (0 + k))))
  where
    shift : (k : ℕ) → 1 + k ≡ suc (0 + k)
    shift k = omega arith

-- a woven word, by the bytes of the word before
pub woven_is : (g : ℕ → ℕ) (x r : ℕ) → r < 2 ^ 32 → ((p : ℕ) → p < 32 → bit x p ≡ of_bytes g p) → Moved weave_source x r → r ≡ woven_word g
woven_is g x r small bytes move =
    sym (mod-eq_of_lt small) ∙ low_word 32 r
    ∙ word_ext (bit r) (λ k. bit (g (k % 4)) (k / 4)) 0 0 32 (λ k hk.
    let p = 0 + k in
    let row : (8 * (p % 4) + p / 4) / 8 ≡ p % 4 = omega arith in
    let col : (8 * (p % 4) + p / 4) % 8 ≡ p / 4 = omega arith in
    move p (omega arith) ∙ bytes (8 * (p % 4) + p / 4) (omega arith) ∙ ap₂ (λ i z. bit (g i) z) row col)

-- the bytes of an unwoven word
pub lifted_is : (x r i : ℕ) → i < 4 → Moved unweave_source x r → r / 2 ^ (8 * i) % 2 ^ 8 ≡ byte_in x i
lifted_is x r i hi move =
    low_word 8 (r / 2 ^ (8 * i))
    ∙ word_ext (bit (r / 2 ^ (8 * i))) (λ z. bit x (4 * z + i)) 0 0 8 (λ z hz.
    let p = 8 * i + (0 + z) in
    let from : 4 * (p % 8) + p / 8 ≡ 4 * (0 + z) + i = omega arith in
    bit_shr r (8 * i) (0 + z) ∙ move p (omega arith) ∙ ap (bit x) from)

-- the number of n bytes, the lowest first
abbrev pub joined : ℕ → (ℕ → ℕ) → ℕ
joined zero g = 0
joined (suc n) g = g 0 + joined n (λ i. g (suc i)) * 256

pub bit_of_joined : (n : ℕ) (g : ℕ → ℕ) (p : ℕ) → ((i : ℕ) → g i < 256) → p < 8 * n → bit (joined n g) p ≡ of_bytes g p
bit_of_joined zero g p small h = absurd (omega arith)
bit_of_joined (suc n) g p small h =
    let rest = joined n (λ i. g (suc i)) in
    let first = small 0 in
    ⊎_elim
    (λ l.
    let low : (g 0 + rest * 256) % 2 ^ 8 ≡ g 0 = omega (arith, first) in
    let row : 0 ≡ p / 8 = omega arith in
    let col : p ≡ p % 8 = omega arith in
    sym (bit_mod (g 0 + rest * 256) 8 p l) ∙ ap (λ m. bit m p) low ∙ ap₂ (λ i z. bit (g i) z) row col)
    (λ l.
    let high : (g 0 + rest * 256) / 2 ^ 8 ≡ rest = omega (arith, first) in
    let back : p ≡ 8 + (p - 8) = omega arith in
    let row : suc ((p - 8) / 8) ≡ p / 8 = omega arith in
    let col : (p - 8) % 8 ≡ p % 8 = omega arith in
    ap (bit (g 0 + rest * 256)) back ∙ sym (bit_shr (g 0 + rest * 256) 8 (p - 8)) ∙ ap (λ m. bit m (p - 8)) high
    ∙ bit_of_joined n (λ i. g (suc i)) (p - 8) (λ i. small (suc i)) (omega arith) ∙ ap₂ (λ i z. bit (g i) z) row col)
    (cases_lt p 8)
