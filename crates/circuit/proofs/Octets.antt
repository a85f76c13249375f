-- Bytes in words, and words in bytes.
use Rattle.std.proofs.Common.{◌≡◌, ℕ, zero, suc, ◌+◌, ◌-◌, ◌*◌, ◌/◌, ◌%◌, ◌^◌, ◌<◌, ◌≤◌, Bool, true, false, cond, ◌||◌, eqb, ltb, List, [], ◌∷◌, length, get_or, sym, refl, ap, ◌∙◌, ap₂, ⊎_elim, mod-eq_of_lt, suc-mul, one-mul, zero-add, add-one, arith, pow_pos, pow_mono, w64}
use lib.Bits.{bit_and, bit_or, and_mask}
use Rattle.std.specs.Int.{from_le_bytes, to_le_bytes}
use Rattle.std.proofs.lemmas.Nat.{le_bytes_8, div_below, mod_below, mod-pow-add, div-mul-add, mod-mul-add, div-add-mod'}
use Rattle.std.proofs.lemmas.List.FromFn.{get_or-map-range_with_len}
use Rattle.std.proofs.lemmas.Bool.{cases_lt, lt-ltb, le-ltb}
use Rattle.binary.specs.Bits.{bit, bit_number, word, bit_of, bits, block, byte_of, list_from_fn}
use Rattle.binary.proofs.BitLaws.{bit_of_or, bit_suc}
use Rattle.binary.proofs.RotationLaws.{bit_shr, bit_mod, bit_past}
use Rattle.binary.proofs.NumberLaws.{word_ext}
use Rattle.binary.proofs.MadeLaws.{made_ext}
use Rattle.circuit.specs.Planes.{Bits, one_at, word_bit, block_bit, Holds}
use Rattle.circuit.specs.Packed.{packed_bit}
use Rattle.circuit.proofs.Fours.{by_four}
use Rattle.circuit.proofs.Shifts.{bit_up}

-- the bits of a number of eight bytes, the first one lowest, the first six of them those of xs from place i on
pub six_bits : (xs bs : List ℕ) (i n k : ℕ) → k < 48 → length bs ≡ 8 → ((j : ℕ) → get_or bs j 0 < 256)
    → ((j : ℕ) → j < 6 → get_or bs j 0 ≡ get_or xs (i + j) 0) → n ≡ from_le_bytes w64 bs → bit n k ≡ bit_of xs (8 * i + k)
six_bits xs bs i n k h len small same e =
    let j = k / 8 in
    let r = k % 8 in
    let hj : j < 6 = omega arith in
    let hr : r < 8 = omega arith in
    let split : k ≡ 8 * j + r = omega arith in
    let row : i + j ≡ (8 * i + k) / 8 = omega arith in
    let col : r ≡ (8 * i + k) % 8 = omega arith in
    ap (bit n) split ∙ sym (bit_shr n (8 * j) r) ∙ sym (bit_mod (n / 2 ^ (8 * j)) 8 r hr)
    ∙ ap (λ b. bit b r) (sym (byte j hj) ∙ ap (λ l. get_or l j 0) (le_bytes_8 bs n len small e) ∙ same j hj)
    ∙ ap₂ (λ a b. bit (get_or xs a 0) b) row col
  where
    byte : (j : ℕ) → j < 6 → get_or (to_le_bytes w64 n) j 0 ≡ n / 2 ^ (8 * j) % 2 ^ 8
    byte zero h = omega arith
    byte (suc zero) h = refl
    byte (suc (suc zero)) h = refl
    byte (suc (suc (suc zero))) h = refl
    byte (suc (suc (suc (suc zero)))) h = refl
    byte (suc (suc (suc (suc (suc zero))))) h = refl
    byte (suc (suc (suc (suc (suc (suc j)))))) h = absurd (omega arith)

-- a number from its lowest bits
one_low : (x : ℕ) → bit_number (bit x 0) ≡ x % 2
one_low x = low (x / 1 % 2) (omega arith) ∙ omega arith
  where
    low : (u : ℕ) → u < 2 → bit_number (eqb u 1) ≡ u
    low zero h = refl
    low (suc zero) h = refl
    low (suc (suc u)) h = absurd (omega arith)

low_word : (w x : ℕ) → x % 2 ^ w ≡ word (bit x) 0 w
low_word zero x = omega arith
low_word (suc w) x =
    let e = rw (add-one w) at (mod-pow-add x w 1) in
    let f : x % 2 ^ suc w ≡ x % 2 + 2 * (x / 2 % 2 ^ w) = omega (arith, e) in
    f ∙ ap₂ (λ a b. a + 2 * b) (sym (one_low x)) (low_word w (x / 2) ∙ word_ext (bit (x / 2)) (bit x) 0 1 w (λ k h. sym (ap (bit x) (shift k) ∙ bit_suc x (0 + k))))
  where
    shift : (k : ℕ) → 1 + k ≡ suc (0 + k)
    shift k = omega arith

or_false : (b : Bool) → (b || false) ≡ b
or_false true = refl
or_false false = refl

-- bit s of a byte that lies in word t of m bits from place r on, and beyond the word's end in the next
pub joint_bits : (m t r s : ℕ) (ws : List ℕ) → 8 ≤ m → m ≤ 64 → r < m → s < 8
    → bit (bit_or (get_or ws t 0 % 2 ^ m / 2 ^ r) ((get_or ws (t + 1) 0 * 2 ^ (m - r)) % 2 ^ 64)) s ≡ packed_bit m ws (t * m + r + s)
joint_bits m t r s ws low small hr hs =
    bit_of_or (x % 2 ^ m / 2 ^ r) ((y * 2 ^ (m - r)) % 2 ^ 64) s
    ∙ ap₂ (λ a b. a || b) (bit_shr (x % 2 ^ m) r s) (bit_up 64 y (m - r) s (omega arith))
    ∙ ⊎_elim here beyond (cases_lt (r + s) m)
  where
    x : ℕ
    x = get_or ws t 0

    y : ℕ
    y = get_or ws (t + 1) 0

    here : r + s < m → (bit (x % 2 ^ m) (r + s) || cond (ltb s (m - r)) false (bit y (s - (m - r)))) ≡ packed_bit m ws (t * m + r + s)
    here h =
        let place : t * m + r + s ≡ t * m + (r + s) = omega arith in
        ap₂ (λ a b. a || cond b false (bit y (s - (m - r)))) (bit_mod x m (r + s) h) (lt-ltb s (m - r) (omega arith)) ∙ or_false (bit x (r + s))
        ∙ sym (ap (packed_bit m ws) place ∙ ap₂ (λ a b. bit (get_or ws a 0) b) (div-mul-add t m (r + s) h) (mod-mul-add t m (r + s) h))

    beyond : m ≤ r + s → (bit (x % 2 ^ m) (r + s) || cond (ltb s (m - r)) false (bit y (s - (m - r)))) ≡ packed_bit m ws (t * m + r + s)
    beyond h =
        let q = s - (m - r) in
        let lt : q < m = omega arith in
        let place : t * m + r + s ≡ (t + 1) * m + q = rw (add-one t, suc-mul t m) (omega arith) in
        ap₂ (λ a b. a || cond b false (bit y q)) (bit_past (x % 2 ^ m) m (r + s) (mod_below x (2 ^ m) (pow_pos m)) h) (le-ltb s (m - r) (omega arith))
        ∙ sym (ap (packed_bit m ws) place ∙ ap₂ (λ a b. bit (get_or ws a 0) b) (div-mul-add (t + 1) m q lt) (mod-mul-add (t + 1) m q lt))

-- the mask of m bits
mask_is : (m : ℕ) → m ≤ 63 → (1 * 2 ^ m) % 2 ^ 64 - 1 ≡ 2 ^ m - 1
mask_is m h =
    let up : 2 ^ m ≤ 2 ^ 63 = pow_mono h in
    let small : 1 * 2 ^ m < 2 ^ 64 = omega arith in
    ap (λ n. n - 1) (mod-eq_of_lt small ∙ one-mul (2 ^ m))

-- byte k of the words
pub byte_joint : (m k : ℕ) (ws : List ℕ) → 8 ≤ m → m ≤ 63
    → bit_and (bit_or (bit_and (get_or ws (8 * k / m) 0) ((1 * 2 ^ m) % 2 ^ 64 - 1) / 2 ^ (8 * k % m)) ((get_or ws (8 * k / m + 1) 0 * 2 ^ (m - 8 * k % m)) % 2 ^ 64)) 255
    ≡ word (packed_bit m ws) (8 * k) 8
byte_joint m k ws low small =
    let t = 8 * k / m in
    let r = 8 * k % m in
    let x = get_or ws t 0 in
    let z = bit_or (x % 2 ^ m / 2 ^ r) ((get_or ws (t + 1) 0 * 2 ^ (m - r)) % 2 ^ 64) in
    let hr : r < m = mod_below (8 * k) m (omega arith) in
    ap (λ n. bit_and (bit_or (n / 2 ^ r) ((get_or ws (t + 1) 0 * 2 ^ (m - r)) % 2 ^ 64)) 255) (ap (bit_and x) (mask_is m small) ∙ and_mask x m)
    ∙ and_mask z 8 ∙ low_word 8 z
    ∙ word_ext (bit z) (packed_bit m ws) 0 (8 * k) 8 (λ s hs.
    ap (bit z) (zero-add s) ∙ joint_bits m t r s ws low (omega arith) hr hs ∙ ap (λ j. packed_bit m ws (j + s)) (div-add-mod' (8 * k) m))

-- words that have the bits of a block hold it
pub loaded : (m : ℕ) (ws : List Bits) (xs : List ℕ) → 0 < m → length xs * 2 ≡ m → ((t : ℕ) → t < 4 → (k : ℕ) → k < m → word_bit ws t k ≡ bit_of xs (t * m + k)) → Holds m ws (bits xs)
unfolding bits
loaded m ws xs some len h j inside =
    h (j / m) (div_below j m 4 some (omega arith)) (j % m) (mod_below j m some) ∙ ap (bit_of xs) (div-add-mod' j m)
    ∙ sym (get_or-map-range_with_len (bit_of xs) 0 (8 * length xs) j j false (omega arith) (zero-add j))

-- the bytes of words that hold a block are the block
pub stored : (m n a b c d : ℕ) (bs : List Bool) → 0 < m → n * 2 ≡ m → Holds m (one_at a 0 ∷ one_at b 0 ∷ one_at c 0 ∷ one_at d 0 ∷ []) bs
    → list_from_fn n (λ k. word (packed_bit m (a ∷ b ∷ c ∷ d ∷ 0 ∷ [])) (8 * k) 8) ≡ block n bs
unfolding block
stored m n a b c d bs some len h =
    made_ext 0 (λ k. word (packed_bit m (a ∷ b ∷ c ∷ d ∷ 0 ∷ [])) (8 * k) 8) (byte_of bs) n (λ k hk.
    word_ext (packed_bit m (a ∷ b ∷ c ∷ d ∷ 0 ∷ [])) (λ j. get_or bs j false) (8 * k) (8 * k) 8 (λ s hs. same (8 * k + s) (omega arith) ∙ h (8 * k + s) (omega arith)))
  where
    same : (j : ℕ) → j < m * 4 → packed_bit m (a ∷ b ∷ c ∷ d ∷ 0 ∷ []) j ≡ block_bit m (one_at a 0 ∷ one_at b 0 ∷ one_at c 0 ∷ one_at d 0 ∷ []) j
    same j l =
        by_four (λ t. bit (get_or (a ∷ b ∷ c ∷ d ∷ 0 ∷ []) t 0) (j % m) ≡ word_bit (one_at a 0 ∷ one_at b 0 ∷ one_at c 0 ∷ one_at d 0 ∷ []) t (j % m))
        refl refl refl refl (j / m) (div_below j m 4 some (omega arith))
