-- The bits of what the word operations give, and numbers from their bits.
use Rattle.std.proofs.Common.{◌≡◌, ℕ, zero, suc, ◌+◌, ◌-◌, ◌*◌, ◌/◌, ◌%◌, ◌^◌, ◌<◌, Bool, true, false, not, ◌&&◌, ◌||◌, eqb, sym, refl, ap, ◌∙◌, le_of_suc-le-suc, not-suc-le-zero, add-zero, mod-lt, mod-eq_of_lt, pow-suc, one-add, arith, lit<}
use lib.Bits.{bit_and, bit_or, bit_xor, and_shr, or_shr, xor_shr, and_mod, or_mod, xor_mod, xor_add_and, and_mask}
use Rattle.std.proofs.lemmas.Nat.{shr-shr, pow_pos}
use Rattle.binary.specs.Bits.{bit, bit_number, differs, word}

two : 0 < 2
two = lit< tt

abbrev Low : (ℕ → ℕ → ℕ) → (Bool → Bool → Bool) → Type 0
Low op on = (u v : ℕ) → u < 2 → v < 2 → eqb (op u v) 1 ≡ on (eqb u 1) (eqb v 1)

too_big : {X : Type 0} (u : ℕ) → suc (suc u) < 2 → X
too_big u h = absurd (omega arith)

and_low : Low bit_and (λ a b. a && b)
and_low zero zero h k = refl
and_low zero (suc zero) h k = refl
and_low (suc zero) zero h k = refl
and_low (suc zero) (suc zero) h k = refl
and_low (suc (suc u)) v h k = too_big u h
and_low zero (suc (suc v)) h k = too_big v k
and_low (suc zero) (suc (suc v)) h k = too_big v k

or_low : Low bit_or (λ a b. a || b)
or_low zero zero h k = refl
or_low zero (suc zero) h k = refl
or_low (suc zero) zero h k = refl
or_low (suc zero) (suc zero) h k = refl
or_low (suc (suc u)) v h k = too_big u h
or_low zero (suc (suc v)) h k = too_big v k
or_low (suc zero) (suc (suc v)) h k = too_big v k

xor_low : Low bit_xor differs
xor_low zero zero h k = refl
xor_low zero (suc zero) h k = refl
xor_low (suc zero) zero h k = refl
xor_low (suc zero) (suc zero) h k = refl
xor_low (suc (suc u)) v h k = too_big u h
xor_low zero (suc (suc v)) h k = too_big v k
xor_low (suc zero) (suc (suc v)) h k = too_big v k

pub bit_of_and : (a b k : ℕ) → bit (bit_and a b) k ≡ (bit a k && bit b k)
bit_of_and a b k =
    ap (λ n. eqb (n % 2) 1) (and_shr a b k) ∙ ap (λ n. eqb n 1) (and_mod (a / 2 ^ k) (b / 2 ^ k) 1)
    ∙ and_low (a / 2 ^ k % 2) (b / 2 ^ k % 2) (mod-lt (a / 2 ^ k) two) (mod-lt (b / 2 ^ k) two)

pub bit_of_or : (a b k : ℕ) → bit (bit_or a b) k ≡ (bit a k || bit b k)
bit_of_or a b k =
    ap (λ n. eqb (n % 2) 1) (or_shr a b k) ∙ ap (λ n. eqb n 1) (or_mod (a / 2 ^ k) (b / 2 ^ k) 1)
    ∙ or_low (a / 2 ^ k % 2) (b / 2 ^ k % 2) (mod-lt (a / 2 ^ k) two) (mod-lt (b / 2 ^ k) two)

pub bit_of_xor : (a b k : ℕ) → bit (bit_xor a b) k ≡ differs (bit a k) (bit b k)
bit_of_xor a b k =
    ap (λ n. eqb (n % 2) 1) (xor_shr a b k) ∙ ap (λ n. eqb n 1) (xor_mod (a / 2 ^ k) (b / 2 ^ k) 1)
    ∙ xor_low (a / 2 ^ k % 2) (b / 2 ^ k % 2) (mod-lt (a / 2 ^ k) two) (mod-lt (b / 2 ^ k) two)

pub bit_suc : (x k : ℕ) → bit x (suc k) ≡ bit (x / 2) k
bit_suc x k = ap (λ n. eqb (n % 2) 1) (sym (shr-shr x 1 k ∙ ap (λ n. x / 2 ^ n) (one-add k)))

half : (b : Bool) (y : ℕ) → (bit_number b + 2 * y) / 2 ≡ y
half true y = omega arith
half false y = omega arith

pub bit_zero : (b : Bool) (y : ℕ) → bit (bit_number b + 2 * y) 0 ≡ b
bit_zero true y = let e : (1 + 2 * y) / 1 % 2 ≡ 1 = omega arith in rw e
bit_zero false y = let e : (0 + 2 * y) / 1 % 2 ≡ 0 = omega arith in rw e

pub bit_more : (b : Bool) (y k : ℕ) → bit (bit_number b + 2 * y) (suc k) ≡ bit y k
bit_more b y k = bit_suc (bit_number b + 2 * y) k ∙ ap (λ n. bit n k) (half b y)

pub bit_word : (f : ℕ → Bool) (p w k : ℕ) → k < w → bit (word f p w) k ≡ f (p + k)
bit_word f p zero k h = absurd (not-suc-le-zero h)
bit_word f p (suc w) zero h = bit_zero (f p) (word f (p + 1) w) ∙ ap f (sym (add-zero p))
bit_word f p (suc w) (suc k) h =
    bit_more (f p) (word f (p + 1) w) k ∙ bit_word f (p + 1) w k (le_of_suc-le-suc h) ∙ ap f (omega arith)

-- the complement at a width of w bits
ones_bit : (w k : ℕ) → k < w → bit (2 ^ w - 1) k ≡ true
ones_bit zero k h = absurd (not-suc-le-zero h)
ones_bit (suc w) zero h = let p = pow_pos w in let e : (2 ^ w * 2 - 1) / 1 % 2 ≡ 1 = omega arith in rw (pow-suc, e)
ones_bit (suc w) (suc k) h =
    let p = pow_pos w in
    let e : (2 ^ w * 2 - 1) / 2 ≡ 2 ^ w - 1 = omega arith in
    bit_suc (2 ^ suc w - 1) k ∙ ap (λ n. bit n k) (rw pow-suc e) ∙ ones_bit w k (le_of_suc-le-suc h)

flip : (b : Bool) → differs b true ≡ not b
flip true = refl
flip false = refl

pub bit_not : (w a k : ℕ) → a < 2 ^ w → k < w → bit (2 ^ w - 1 - a) k ≡ not (bit a k)
bit_not w a k small h =
    let m = 2 ^ w - 1 in
    let p = pow_pos w in
    let kept : bit_and a m ≡ a = and_mask a w ∙ mod-eq_of_lt small in
    let sums : bit_xor a m + a * 2 ≡ a + m = rw kept at (xor_add_and a m) in
    let other : m - a ≡ bit_xor a m = omega arith in
    ap (λ n. bit n k) other ∙ bit_of_xor a m k ∙ ap (differs (bit a k)) (ones_bit w k h) ∙ flip (bit a k)
