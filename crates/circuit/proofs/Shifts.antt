-- The bits of a shifted word of 64 bits, and the lanes of a vector of four words.
use Rattle.std.proofs.Common.{◌≡◌, ℕ, zero, suc, ◌+◌, ◌-◌, ◌*◌, ◌/◌, ◌%◌, ◌^◌, ◌<◌, false, cond, ltb, List, [], ◌∷◌, map, length, get_or, sym, refl, ap, ◌∙◌, ⊎_elim, arith}
use lib.Lanes.{zip2}
use Rattle.std.proofs.lemmas.Simd.{get_or-zip2}
use Rattle.std.proofs.lemmas.List.{get_or-map}
use Rattle.std.proofs.lemmas.Bool.{cases_lt, lt-ltb, le-ltb}
use Rattle.binary.specs.Bits.{bit}
use Rattle.binary.proofs.RotationLaws.{bit_shl, bit_shl_low, bit_shr, bit_mod, bit_past}

-- a word moved up by n places, at a width of w
pub bit_up : (w x n k : ℕ) → k < w → bit ((x * 2 ^ n) % 2 ^ w) k ≡ cond (ltb k n) false (bit x (k - n))
bit_up w x n k h =
    ⊎_elim
    (λ l. bit_mod (x * 2 ^ n) w k h ∙ bit_shl_low x n k l ∙ ap (λ b. cond b false (bit x (k - n))) (sym (lt-ltb k n l)))
    (λ l.
    let back : k ≡ n + (k - n) = omega arith in
    bit_mod (x * 2 ^ n) w k h ∙ ap (bit (x * 2 ^ n)) back ∙ bit_shl x n (k - n) ∙ ap (λ b. cond b false (bit x (k - n))) (sym (le-ltb k n l)))
    (cases_lt k n)

-- a word of w bits moved down by n places
pub bit_down : (w x n k : ℕ) → x < 2 ^ w → bit (x / 2 ^ n) k ≡ cond (ltb (n + k) w) (bit x (n + k)) false
bit_down w x n k small =
    bit_shr x n k
    ∙ ⊎_elim
    (λ l. ap (λ b. cond b (bit x (n + k)) false) (sym (lt-ltb (n + k) w l)))
    (λ l. bit_past x w (n + k) small l ∙ ap (λ b. cond b (bit x (n + k)) false) (sym (le-ltb (n + k) w l)))
    (cases_lt (n + k) w)

-- lane i of four
pub zip_lane : (f : ℕ → ℕ → ℕ) (v w : List ℕ) (i : ℕ) → length v ≡ 4 → length w ≡ 4 → get_or (zip2 f v w) (i % 4) 0 ≡ f (get_or v (i % 4) 0) (get_or w (i % 4) 0)
zip_lane f v w i hv hw = get_or-zip2 f v w (i % 4) 0 0 0 (omega arith) (omega arith)

pub map_lane : (f : ℕ → ℕ) (v : List ℕ) (i : ℕ) → length v ≡ 4 → get_or (map f v) (i % 4) 0 ≡ f (get_or v (i % 4) 0)
map_lane f v i hv = get_or-map f v (i % 4) 0 0 (omega arith)

pub same_lane : (n i : ℕ) → get_or (n ∷ n ∷ n ∷ n ∷ []) (i % 4) 0 ≡ n
same_lane n i = at (i % 4) (omega arith)
  where
    at : (k : ℕ) → k < 4 → get_or (n ∷ n ∷ n ∷ n ∷ []) k 0 ≡ n
    at zero h = refl
    at (suc zero) h = refl
    at (suc (suc zero)) h = refl
    at (suc (suc (suc zero))) h = refl
    at (suc (suc (suc (suc k)))) h = absurd (omega arith)
