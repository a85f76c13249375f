-- Bits of a shifted, cut or turned word.
use Rattle.std.proofs.Common.{◌≡◌, ℕ, zero, suc, ◌+◌, ◌-◌, ◌*◌, ◌/◌, ◌%◌, ◌^◌, ◌<◌, ◌≤◌, Bool, true, false, ◌||◌, eqb, sym, refl, ap, ◌∙◌, ap₂, ⊎_elim, le_of_suc-le-suc, not-suc-le-zero, mod-eq_of_lt, add_comm, zero-add, mul-one, add-one, arith, pow_pos, pow_mono}
use native.Mathlib.Nat.{mod_self, add-mod_right}
use lib.Bits.{bit_or, or_lt, shifted_half, shifted_even}
use Rattle.std.proofs.lemmas.Nat.{shr-shr, shl-shr, shr_le, mod_below, field_of, mod-pow-add, div_below}
use Rattle.std.proofs.lemmas.Bool.{cases_lt}
use Rattle.binary.specs.Bits.{bit}
use Rattle.binary.proofs.BitLaws.{bit_of_or, bit_suc}

pub bit_shr : (x s k : ℕ) → bit (x / 2 ^ s) k ≡ bit x (s + k)
bit_shr x s k = ap (λ n. eqb (n % 2) 1) (shr-shr x s k)

pub bit_shl : (x r k : ℕ) → bit (x * 2 ^ r) (r + k) ≡ bit x k
bit_shl x r k = sym (bit_shr (x * 2 ^ r) r k) ∙ ap (λ n. bit n k) (shl-shr x r)

pub bit_shl_low : (x r k : ℕ) → k < r → bit (x * 2 ^ r) k ≡ false
bit_shl_low x zero k h = absurd (not-suc-le-zero h)
bit_shl_low x (suc r) zero h = let e = shifted_even x r in let f : x * 2 ^ suc r / 1 % 2 ≡ 0 = omega arith in rw f
bit_shl_low x (suc r) (suc k) h = bit_suc (x * 2 ^ suc r) k ∙ ap (λ n. bit n k) (shifted_half x r) ∙ bit_shl_low x r k (le_of_suc-le-suc h)

pub bit_past : (x w k : ℕ) → x < 2 ^ w → w ≤ k → bit x k ≡ false
bit_past x w k small h =
    let p : 0 < 2 ^ k = pow_pos k in
    let up : 2 ^ w ≤ 2 ^ k = pow_mono h in
    let none : x / 2 ^ k < 1 = div_below x (2 ^ k) 1 p (omega arith) in
    let e : x / 2 ^ k ≡ 0 = omega arith in
    rw e

pub bit_mod : (x w k : ℕ) → k < w → bit (x % 2 ^ w) k ≡ bit x k
bit_mod x zero k h = absurd (not-suc-le-zero h)
bit_mod x (suc w) zero h =
    let e = rw add-one at (mod-pow-add x w 1) in
    let f : x % 2 ^ suc w / 1 % 2 ≡ x / 1 % 2 = omega (arith, e) in
    rw f
bit_mod x (suc w) (suc k) h =
    bit_suc (x % 2 ^ suc w) k ∙ ap (λ n. bit n k) (rw add-one at (field_of x w 1)) ∙ bit_mod (x / 2) w k (le_of_suc-le-suc h) ∙ sym (bit_suc x k)

or_false : (b : Bool) → (b || false) ≡ b
or_false true = refl
or_false false = refl

or_same : (b : Bool) → (b || b) ≡ b
or_same true = refl
or_same false = refl

-- n turned left by r of w places
abbrev pub turned : ℕ → ℕ → ℕ → ℕ
turned w r n = bit_or ((n * 2 ^ r) % 2 ^ w) (n / 2 ^ ((w - r) % w))

pub turned_lt : (w r n : ℕ) → n < 2 ^ w → turned w r n < 2 ^ w
turned_lt w r n small = or_lt w _ _ (mod_below (n * 2 ^ r) (2 ^ w) (pow_pos w)) (omega (arith, shr_le n ((w - r) % w)))

pub bit_turned : (w r n k : ℕ) → n < 2 ^ w → r < w → k < w → bit (turned w r n) k ≡ bit n ((k + (w - r)) % w)
bit_turned w zero n k small hr hk =
    let whole : w - 0 ≡ w = omega arith in
    let none : (w - 0) % w ≡ 0 = rw whole (mod_self w) in
    let here : (k + (w - 0)) % w ≡ k = rw (whole, add-mod_right) (mod-eq_of_lt hk) in
    bit_of_or (n * 1 % 2 ^ w) (n / 2 ^ ((w - 0) % w)) k
    ∙ ap₂ (λ a b. a || b) (bit_mod (n * 1) w k hk ∙ ap (λ m. bit m k) (mul-one n)) (ap (λ m. bit (n / 2 ^ m) k) none ∙ bit_shr n 0 k ∙ ap (bit n) (zero-add k))
    ∙ or_same (bit n k) ∙ ap (bit n) (sym here)
bit_turned w (suc r) n k small hr hk =
    let s = w - suc r in
    let sm : s % w ≡ s = mod-eq_of_lt (omega arith) in
    let split : bit (turned w (suc r) n) k ≡ (bit (n * 2 ^ suc r) k || bit n (s + k)) =
    bit_of_or (n * 2 ^ suc r % 2 ^ w) (n / 2 ^ (s % w)) k
    ∙ ap₂ (λ a b. a || b) (bit_mod (n * 2 ^ suc r) w k hk) (ap (λ m. bit (n / 2 ^ m) k) sm ∙ bit_shr n s k) in
    let Goal : Type 0 = bit (turned w (suc r) n) k ≡ bit n ((k + s) % w) in
    let low : k < suc r → Goal = λ h.
    let at : (k + s) % w ≡ s + k = mod-eq_of_lt {n = k + s} {m = w} (omega arith) ∙ add_comm k s in
    split ∙ ap (λ b. b || bit n (s + k)) (bit_shl_low n (suc r) k h) ∙ ap (bit n) (sym at) in
    let high : suc r ≤ k → Goal = λ h.
    let j = k - suc r in
    let back : suc r + j ≡ k = omega arith in
    let on : k + s ≡ j + w = omega arith in
    let at : (k + s) % w ≡ j = rw (on, add-mod_right) (mod-eq_of_lt (omega arith)) in
    split
    ∙ ap₂ (λ a b. a || b) (ap (bit (n * 2 ^ suc r)) (sym back) ∙ bit_shl n (suc r) j) (bit_past n w (s + k) small (omega arith))
    ∙ or_false (bit n j) ∙ ap (bit n) (sym at) in
    ⊎_elim low high (cases_lt k (suc r))
