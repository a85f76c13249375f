-- The layers of a round on words are those on bits.
use Rattle.std.proofs.Common.{◌≡◌, ℕ, zero, suc, ◌+◌, ◌*◌, ◌/◌, ◌%◌, ◌<◌, ◌≤◌, Bool, false, List, length, get_or, sym, refl, ap, ◌∙◌, ap₂, zero-add, arith}
use Rattle.std.proofs.lemmas.List.FromFn.{get_or-map-range_with_len, length-map-range_with_len}
use Rattle.std.proofs.lemmas.Nat.{div_below, mod_below}
use Rattle.binary.specs.Bits.{bit, value, bits, bit_of}
use Rattle.engine.specs.Spongent.{table, bit_with_counter, with_counter, substituted_bit, substitute, moved_bit, move, round, bits_after, counter}
use Rattle.circuit.specs.Planes.{Bits, word_bit, entry, Substituted, Gathered, InRows, Unzipped, Holds}

pub count_length : (c : ℕ) (bs : List Bool) → length (with_counter c bs) ≡ length bs
unfolding with_counter
count_length c bs = length-map-range_with_len (bit_with_counter c bs) 0 (length bs)

pub round_length : (c : ℕ) (bs : List Bool) → length (round c bs) ≡ length bs
unfolding round move substitute
round_length c bs =
    length-map-range_with_len (moved_bit (substitute (with_counter c bs))) 0 (length (substitute (with_counter c bs)))
    ∙ length-map-range_with_len (substituted_bit (with_counter c bs)) 0 (length (with_counter c bs)) ∙ count_length c bs

pub after_length : (c n : ℕ) (bs : List Bool) → length (bits_after c n bs) ≡ length bs
unfolding bits_after
after_length c zero bs = refl
after_length c (suc n) bs = round_length (counter c n) (bits_after c n bs) ∙ after_length c n bs

pub bits_length : (xs : List ℕ) → length (bits xs) ≡ 8 * length xs
unfolding bits
bits_length xs = length-map-range_with_len (bit_of xs) 0 (8 * length xs)

pub gathered : (m : ℕ) (ws rs ps : List Bits) → m ≤ 64 → InRows m ws rs → Unzipped rs ps → Gathered m ws ps
gathered m ws rs ps small rows unzip k t hk ht = unzip k t (omega arith) ht ∙ rows (k * 4 + t) (omega arith)

-- the substitution of half byte k
sub_entry : (m : ℕ) (C : List Bool) (k t : ℕ) → length C ≡ m * 4 → k < m → t < 4
    → get_or (substitute C) (k * 4 + t) false ≡ entry (get_or C (k * 4 + 0) false) (get_or C (k * 4 + 1) false) (get_or C (k * 4 + 2) false) (get_or C (k * 4 + 3) false) t
unfolding substitute
sub_entry m C k t all hk ht =
    let p = k * 4 + t in
    let low : p / 4 * 4 ≡ k * 4 = omega arith in
    let rem : p % 4 ≡ t = omega arith in
    let E : ℕ → ℕ → ℕ → ℕ → Bool = λ p₀ p₁ p₂ p₃. entry (get_or C p₀ false) (get_or C p₁ false) (get_or C p₂ false) (get_or C p₃ false) t in
    get_or-map-range_with_len (substituted_bit C) 0 (length C) p p false (omega arith) (zero-add p)
    ∙ ap₂ (λ n r. bit (get_or table (value C n 4) 0) r) low rem
    ∙ ap₂ (λ x y. E x (k * 4 + 1) y (k * 4 + 1 + 1 + 1)) (omega arith) (omega arith) ∙ ap (λ x. E (k * 4 + 0) (k * 4 + 1) (k * 4 + 2) x) (omega arith)

-- the planes that the circuit gives are the words of the block after the substitution and the move
pub planes_hold : (m : ℕ) (ws gs rs : List Bits) (C : List Bool) → m ≤ 64 → length C ≡ m * 4 → Holds m ws C
    → Gathered m ws gs → Substituted gs rs → Holds m rs (move (substitute C))
unfolding move substitute
planes_hold m ws gs rs C small len_C h g gates j inside =
    let S = substitute C in
    let t = j / m in
    let k = j % m in
    let some : 0 < m = omega arith in
    let ht : t < 4 = div_below j m 4 some (omega arith) in
    let hk : k < m = mod_below j m some in
    let len_S : length S ≡ m * 4 = length-map-range_with_len (substituted_bit C) 0 (length C) ∙ len_C in
    let quarter : length S / 4 ≡ m = ap (λ n. n / 4) len_S ∙ omega arith in
    let bit_is : (x : ℕ) → x < 4 → word_bit gs x k ≡ get_or C (k * 4 + x) false = λ x hx. g k x hk hx ∙ h (k * 4 + x) (omega arith) in
    gates k t (omega arith) ht
    ∙ ap₂ (λ A B. entry A B (word_bit gs 2 k) (word_bit gs 3 k) t) (bit_is 0 (omega arith)) (bit_is 1 (omega arith))
    ∙ ap₂ (λ A B. entry (get_or C (k * 4 + 0) false) (get_or C (k * 4 + 1) false) A B t) (bit_is 2 (omega arith)) (bit_is 3 (omega arith))
    ∙ sym (get_or-map-range_with_len (moved_bit S) 0 (length S) j j false (omega arith) (zero-add j)
    ∙ ap (λ n. get_or S (j % n * 4 + j / n) false) quarter ∙ sub_entry m C k t len_C hk ht)
