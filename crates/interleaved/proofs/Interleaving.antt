-- Interleaved blocks end as the permutation of each.
use Rattle.std.proofs.Common.{◌≡◌, ℕ, zero, suc, ◌+◌, ◌*◌, ◌/◌, ◌%◌, ◌<◌, ◌≤◌, Bool, false, ◌&&◌, List, length, get_or, take, drop, sym, refl, ap, ◌∙◌, ap₂, ⊎_elim, zero-add, arith, lit<}
use lib.Bits.{bit_xor}
use Rattle.std.proofs.lemmas.List.FromFn.{get_or-map-range_with_len, length-map-range_with_len}
use Rattle.std.proofs.lemmas.List.{append-nil, get_or-set_same, get_or-set_other, get_or-take, get_or-drop, length-take, length-drop, take_all}
use Rattle.std.proofs.lemmas.Bool.{cases_eq, eq-eqb, ne_eqb}
use Rattle.binary.specs.Bits.{bit, differs, list_from_fn, bits, bit_of, byte_of, block}
use Rattle.engine.specs.Keccak.{lane_bit, by_coordinates, iota_at, theta, rho, pi, chi, iota, constants, round, state_after, keccak}
use Rattle.engine.specs.Calls.{place_by_length}
use Rattle.engine.specs.Permutation.{permutation, each}
use Rattle.engine.specs.declared.variants.Variant.TheVariants.{Delirium}
use Rattle.binary.proofs.BitLaws.{bit_word}
use Rattle.engine.proofs.CallLaws.{replaced_granted}
use Rattle.binary.proofs.NumberLaws.{word_lt, word_ext}
use Rattle.binary.proofs.MadeLaws.{made_ext}
use Rattle.binary.proofs.WordLaws.{Has, xor_has}
use Rattle.interleaved.specs.Words.{lane, words, woven_word, w_theta, w_rho, w_pi, w_chi, w_iota, w_round, w_after, word_at, words_of_blocks, byte_in, stored_byte, blocks_of_words}
use Rattle.interleaved.proofs.Lanes.{Lane, state_at, theta_lane, rho_lane, pi_lane, chi_lane}
use Rattle.interleaved.proofs.Made.{each_made}
use Rattle.interleaved.proofs.Exchanges.{keeps}

has_to : {w k m n : ℕ} {x y : Bool} → m ≡ n → x ≡ y → Has w k n x → Has w k m y
has_to {w} {k} e f p = record { small = rw e p.small; is = ap (λ t. bit t k) e ∙ p.is ∙ f }

-- bit z of byte i in the word of four bytes
woven_has : (f : ℕ → ℕ) (i z : ℕ) → i < 4 → z < 8 → Has 32 (4 * z + i) (woven_word f) (bit (f i) z)
woven_has f i z hi hz =
    let g : ℕ → Bool = λ k. bit (f (k % 4)) (k / 4) in
    let rem : (0 + (4 * z + i)) % 4 ≡ i = omega arith in
    let quo : (0 + (4 * z + i)) / 4 ≡ z = omega arith in
    record { small = word_lt g 0 32; is = bit_word g 0 32 (4 * z + i) (omega arith) ∙ ap₂ (λ r q. bit (f r) q) rem quo }

iota_lane : (i : ℕ) (c : ℕ) (ws : List ℕ) (s : List Bool) → i < 4 → 0 < length ws → Lane i ws s → Lane i (w_iota c ws) (iota c s)
unfolding iota
iota_lane i c ws s hi some h = record { long = length-map-range_with_len (by_coordinates (iota_at c s)) 0 (length s) ∙ h.long; at_lane = each_bit }
  where
    each_bit : (x y z : ℕ) → x < 5 → y < 5 → z < 8 → Has 32 (4 * z + i) (lane (w_iota c ws) x y) (lane_bit (list_from_fn (length s) (by_coordinates (iota_at c s))) x y z)
    each_bit x y z hx hy hz =
        let p = h.at_lane x y z hx hy hz in
        let st = state_at (length s) (iota_at c s) x y z h.long hx hy hz in
        let k = woven_word (λ _. c) in
        let new = bit_xor (get_or ws 0 0) k in
        let Goal : Type 0 = Has 32 (4 * z + i) (lane (w_iota c ws) x y) (lane_bit (list_from_fn (length s) (by_coordinates (iota_at c s))) x y z) in
        let first : 5 * y + x ≡ 0 → Goal = λ e.
        has_to (ap (λ l. get_or (w_iota c ws) l 0) e ∙ get_or-set_same ws 0 new 0 some ∙ ap (λ l. bit_xor (get_or ws l 0) k) (sym e))
        (sym (st ∙ ap (λ b. differs (lane_bit s x y z) (b && bit c z)) (eq-eqb (5 * y + x) 0 e))) (xor_has p (woven_has (λ _. c) i z hi hz)) in
        let rest : (5 * y + x ≡ 0 → ⊥) → Goal = λ n.
        has_to (get_or-set_other ws 0 (5 * y + x) new 0 n)
        (sym (st ∙ ap (λ b. differs (lane_bit s x y z) (b && bit c z)) (ne_eqb (5 * y + x) 0 n) ∙ keeps (lane_bit s x y z))) p in
        ⊎_elim first rest (cases_eq (5 * y + x) 0)

round_lane : (i : ℕ) (c : ℕ) (ws : List ℕ) (s : List Bool) → i < 4 → Lane i ws s → Lane i (w_round c ws) (round c s)
unfolding round w_round
round_lane i c ws s hi h =
    let t₁ = words (w_theta ws) in
    let t₂ = words (w_rho t₁) in
    let t₃ = words (w_pi t₂) in
    iota_lane i c (words (w_chi t₃)) (chi (pi (rho (theta s)))) hi (lit< tt)
    (chi_lane hi t₃ (pi (rho (theta s))) (pi_lane hi t₂ (rho (theta s)) (rho_lane hi t₁ (theta s) (theta_lane hi ws s h))))

after_lane : (i k : ℕ) (ws : List ℕ) (s : List Bool) → i < 4 → Lane i ws s → Lane i (w_after k ws) (state_after k s)
unfolding state_after w_after
after_lane i zero ws s hi h = h
after_lane i (suc k) ws s hi h = round_lane i (get_or constants k 0) (w_after k ws) (state_after k s) hi (after_lane i k ws s hi h)

-- block i of xs
abbrev part : List ℕ → ℕ → List ℕ
part xs i = take 25 (drop (25 * i) xs)

part_long : (i : ℕ) (xs : List ℕ) → 25 * i + 25 ≤ length xs → length (part xs i) ≡ 25
part_long i xs within = simp (length-take, length-drop) (omega arith)

load_lane : (i : ℕ) (xs : List ℕ) → i < 4 → 25 * i + 25 ≤ length xs → Lane i (words_of_blocks xs) (bits (part xs i))
unfolding words_of_blocks bits
load_lane i xs hi within = record { long = length-map-range_with_len (bit_of (part xs i)) 0 (8 * length (part xs i)) ∙ ap (λ (n : ℕ). 8 * n) wide; at_lane = each_bit }
  where
    wide : length (part xs i) ≡ 25
    wide = part_long i xs within

    each_bit : (x y z : ℕ) → x < 5 → y < 5 → z < 8 → Has 32 (4 * z + i) (lane (words_of_blocks xs) x y) (lane_bit (bits (part xs i)) x y z)
    each_bit x y z hx hy hz =
        let l = 5 * y + x in
        let hl : l < 25 = omega arith in
        let long = wide in
        let word_is : lane (words_of_blocks xs) x y ≡ word_at xs l = get_or-map-range_with_len (word_at xs) 0 25 l l 0 hl (zero-add l) in
        let rem : (8 * l + z) % 8 ≡ z = omega arith in
        let quo : (8 * l + z) / 8 ≡ l = omega arith in
        let theirs : lane_bit (bits (part xs i)) x y z ≡ bit (get_or xs (25 * i + l) 0) z =
        get_or-map-range_with_len (bit_of (part xs i)) 0 (8 * length (part xs i)) (8 * l + z) (8 * l + z) false (omega arith) (zero-add (8 * l + z))
        ∙ ap₂ (λ q r. bit (get_or (part xs i) q 0) r) quo rem
        ∙ ap (λ n. bit n z) (get_or-take 25 (drop (25 * i) xs) l 0 hl ∙ get_or-drop (25 * i) xs l 0) in
        has_to word_is (sym theirs) (woven_has (λ i. get_or xs (25 * i + l) 0) i z hi hz)

block_is : (i : ℕ) (xs : List ℕ) → i < 4 → 25 * i + 25 ≤ length xs
    → permutation Delirium (part xs i) ≡ list_from_fn 25 (λ l. stored_byte (w_after 18 (words_of_blocks xs)) (25 * i + l))
unfolding permutation keccak block
block_is i xs hi within =
    let ws = w_after 18 (words_of_blocks xs) in
    let s = state_after 18 (bits (part xs i)) in
    let h = after_lane i 18 (words_of_blocks xs) (bits (part xs i)) hi (load_lane i xs hi within) in
    ap (λ (n : ℕ). list_from_fn n (byte_of s)) (part_long i xs within)
    ∙ made_ext 0 (byte_of s) (λ l. stored_byte ws (25 * i + l)) 25 (λ l hl.
    let rem : (25 * i + l) % 25 ≡ l = omega arith in
    let quo : (25 * i + l) / 25 ≡ i = omega arith in
    let whole : 5 * (l / 5) + l % 5 ≡ l = omega arith in
    word_ext (λ j. get_or s j false) (λ z. bit (get_or ws l 0) (4 * z + i)) (8 * l) 0 8 (λ z hz.
    ap (λ m. get_or s (8 * m + z) false) (sym whole) ∙ sym (h.at_lane (l % 5) (l / 5) z (omega arith) (omega arith) hz).is
    ∙ ap₂ (λ m n. bit (get_or ws m 0) (4 * n + i)) whole (sym (zero-add z)))
    ∙ ap₂ (λ m n. byte_in (get_or ws m 0) n) (sym rem) (sym quo))

-- up to four blocks
pub blocks_are : (k : ℕ) (xs : List ℕ) → k ≤ 4 → length xs ≡ k * 25 → blocks_of_words (k * 25) (w_after 18 (words_of_blocks xs)) ≡ each (permutation Delirium) 25 k xs
unfolding blocks_of_words
blocks_are k xs few all =
    sym (each_made (permutation Delirium) 25 k xs (stored_byte (w_after 18 (words_of_blocks xs))) (λ i hi. block_is i xs (omega arith) (omega arith)))

-- one block
pub one_block : (f : List ℕ → List ℕ) (n : ℕ) (xs : List ℕ) → place_by_length n (each f n 1) xs ≡ place_by_length n f xs
unfolding each
one_block f n xs =
    ⊎_elim
    (λ h. replaced_granted n (each f n 1) xs h ∙ append-nil (f (take n xs)) ∙ ap f (take_all n xs (omega arith)) ∙ sym (replaced_granted n f xs h))
    (λ n. rw (ne_eqb (length xs) _ n) refl)
    (cases_eq (length xs) n)
