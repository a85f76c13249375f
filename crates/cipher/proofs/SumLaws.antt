-- The loop over groups of parts that go into the tag sum.
use Rattle.std.proofs.Common.{◌≡◌, ℕ, zero, suc, ◌+◌, ◌-◌, ◌*◌, ◌/◌, ◌%◌, ◌<◌, ◌≤◌, min, List, [], ◌∷◌, ◌++◌, length, take, drop, replicate, sym, refl, ap, ◌∙◌, ap₂, add-zero, add-mul, suc-mul, zero-add, arith}
use native.Mathlib.Nat.{add-mul-div_right}
use Rattle.std.proofs.Math.Nat.{add-mod_left, mod-le}
use Rattle.std.proofs.lemmas.List.{length-append, length-drop, drop-drop, drop_at, drop-append-le, take-append-le, append-nil, append_assoc}
use Rattle.std.proofs.lemmas.Nat.{mul-le}
use Rattle.engine.specs.Permutation.{block_size}
use Rattle.engine.specs.declared.variants.Variant.{Variant}
use Rattle.cipher.specs.Blocks.{padded_part, part, sum_of_parts, xor_of, iterate, parts}
use Rattle.cipher.specs.Masks.{phi1}
use Rattle.cipher.specs.Mode.{with_01, enciphered_block, sum_with_parts}
use Rattle.cipher.proofs.StreamLaws.{summed_add}
use Rattle.cipher.proofs.PartLaws.{summed_ext}
use Rattle.cipher.proofs.MaskLaws.{wide, enciphered_on}

pub summed_shift : (f h : ℕ → List ℕ) (k i j : ℕ) (b : List ℕ) → ((q : ℕ) → f (q + i) ≡ h (q + j)) → sum_of_parts f k i b ≡ sum_of_parts h k j b
unfolding sum_of_parts
summed_shift f h zero i j b e = refl
summed_shift f h (suc k) i j b e =
    let z : f i ≡ h j = ap f (sym (zero-add i)) ∙ e 0 ∙ ap h (zero-add j) in
    ap (λ t. sum_of_parts f k (suc i) (xor_of b t)) z
    ∙ summed_shift f h k (suc i) (suc j) (xor_of b (h j)) (λ q. let a : q + suc i ≡ suc q + i = omega arith in let c : suc q + j ≡ q + suc j = omega arith in ap f a ∙ e (suc q) ∙ ap h c)

pub parts_more : (n k left len : ℕ) → 0 < n → len ≡ left + k * n → parts n len ≡ parts n left + k
parts_more n k left len h e =
    let a : len + (n - 1) ≡ left + (n - 1) + k * n = omega arith in
    ap (λ z. z / n) a ∙ add-mul-div_right (left + (n - 1)) k h

-- The parts from part k on, by the numbers of the string that begins there.
pub absorbed_on : (v : Variant) (m s b : List ℕ) (j k p : ℕ)
    → sum_with_parts v (iterate (phi1 v) k m) j p 0 (drop (k * block_size v) s) b ≡ sum_with_parts v m j p k s b
unfolding sum_with_parts part
absorbed_on v m s b j k p =
    let n = block_size v in
    sym (summed_shift (λ q. enciphered_block v m (padded_part n (drop (q * n) s)) q j) (λ q. enciphered_block v (iterate (phi1 v) k m) (padded_part n (drop (q * n) (drop (k * n) s))) q j) p k 0 b
    (λ q. let past : (q + k) * n ≡ k * n + q * n = omega (arith, add-mul q k n) in
    sym (enciphered_on v m (padded_part n (drop ((q + k) * n) s)) q k j)
    ∙ ap₂ (λ i y. enciphered_block v (iterate (phi1 v) k m) (padded_part n y) i j) (sym (add-zero q)) (ap (λ i. drop i s) past ∙ sym (drop-drop (q * n) (k * n) s) ∙ ap (λ i. drop (i * n) (drop (k * n) s)) (sym (add-zero q)))))

-- A part that is whole before the end of a string is that of every longer string.
part_front : (n q : ℕ) (xs ys : List ℕ) → q * n + n ≤ length xs → part n q (xs ++ ys) ≡ take n (drop (q * n) xs)
unfolding part padded_part
part_front n q xs ys h =
    let a : drop (q * n) (xs ++ ys) ≡ drop (q * n) xs ++ ys = drop-append-le (q * n) xs ys (omega arith) in
    let long : n ≤ length (drop (q * n) xs) = omega (arith, length-drop (q * n) xs) in
    let none : n - length (drop (q * n) (xs ++ ys)) ≡ 0 = omega (arith, ap length a, length-append (drop (q * n) xs) ys) in
    ap₂ (λ y z. y ++ replicate z 0) (ap (take n) a ∙ take-append-le n (drop (q * n) xs) ys long) none ∙ append-nil (take n (drop (q * n) xs))

-- A turn of the loop over chunks of four parts: they are summed, and what is left goes on from there.
pub absorb_turn : (v : Variant) (m b text chunk left running sum : List ℕ) (j : ℕ) → text ≡ chunk ++ left → length chunk ≡ 4 * block_size v
    → running ≡ iterate (phi1 v) 4 m
    → sum ≡ sum_with_parts v m j (min (parts (block_size v) (length chunk + 1)) 4) 0 (with_01 chunk) b
    → sum_with_parts v running j (parts (block_size v) (length (with_01 left))) 0 (with_01 left) sum ≡ sum_with_parts v m j (parts (block_size v) (length (with_01 text))) 0 (with_01 text) b
unfolding sum_with_parts
absorb_turn v m b text chunk left running sum j et ec em es =
    let n = block_size v in
    let s : List ℕ = with_01 text in
    let f : ℕ → List ℕ = λ q. enciphered_block v m (part n q s) q j in
    let h : ℕ → List ℕ = λ q. enciphered_block v m (part n q (with_01 chunk)) q j in
    let whole : s ≡ chunk ++ with_01 left = ap with_01 et ∙ append_assoc chunk left (1 ∷ []) in
    let onward : with_01 left ≡ drop (4 * n) s = sym (ap (drop (4 * n)) whole ∙ drop_at chunk (with_01 left) (4 * n) ec) in
    let p : ℕ = parts n (length (with_01 left)) in
    let fewer : length s ≡ length (with_01 left) + 4 * n = omega (arith, ap length whole, length-append chunk (with_01 left)) in
    let all : parts n (length s) ≡ p + 4 = parts_more n 4 (length (with_01 left)) (length s) (wide v) fewer in
    let more : parts n (length chunk + 1) ≡ parts n 1 + 4 = parts_more n 4 1 (length chunk + 1) (wide v) (omega arith) in
    let four : min (parts n (length chunk + 1)) 4 ≡ 4 = omega arith in
    let turned : p + 4 ≡ 4 + p = omega arith in
    let within : (q : ℕ) → q < 4 → (q + 0) * n + n ≤ length chunk = λ q l. let less : suc q * n ≤ 4 * n = mul-le (suc q) n 4 n (omega arith) (omega arith) in omega (arith, suc-mul q n, ap (λ k. k * n) (add-zero q)) in
    let same : sum_of_parts h 4 0 b ≡ sum_of_parts f 4 0 b =
    summed_ext h f 4 0 b (λ q l. ap (λ x. enciphered_block v m x (q + 0) j)
    (part_front n (q + 0) chunk (1 ∷ []) (within q l) ∙ sym (part_front n (q + 0) chunk (with_01 left) (within q l)) ∙ ap (part n (q + 0)) (sym whole))) in
    ap₂ (λ y z. sum_with_parts v y j p 0 z sum) em onward ∙ absorbed_on v m s sum j 4 p
    ∙ ap (sum_of_parts f p 4) (es ∙ ap (λ k. sum_of_parts h k 0 b) four ∙ same) ∙ sym (summed_add f 4 p 0 b) ∙ ap (λ k. sum_of_parts f k 0 b) (sym (all ∙ turned))

-- What comes after all chunks, as one more of them is taken off.
pub rest_turn : (text chunk left rest : List ℕ) (size after : ℕ) → text ≡ chunk ++ left → length chunk ≡ size → after ≡ size
    → rest ≡ drop (length text - length text % size) text → rest ≡ drop (length left - length left % after) left
rest_turn text chunk left rest size after et ec ea er =
    let all : length text ≡ size + length left = ap length et ∙ length-append chunk left ∙ ap (λ k. k + length left) ec in
    let same : length text % size ≡ length left % size = ap (λ k. k % size) all ∙ add-mod_left size (length left) in
    let fewer : length text - length text % size ≡ size + (length left - length left % size) = omega (arith, mod-le (length left) size) in
    er ∙ ap₂ drop fewer et ∙ sym (drop-drop (length left - length left % size) size (chunk ++ left))
    ∙ ap (drop (length left - length left % size)) (drop_at chunk left size ec) ∙ ap (λ z. drop (length left - length left % z) left) (sym ea)
