-- Loading bytes and 01, and sums of blocks side by side.
use Rattle.std.proofs.Common.{◌≡◌, ℕ, zero, suc, ◌+◌, ◌-◌, ◌*◌, ◌<◌, ◌≤◌, min, List, [], ◌∷◌, ◌++◌, length, take, drop, set, replicate, sym, refl, ap, ◌∙◌, ap₂, add-zero, zero-add, arith}
use Rattle.std.proofs.Math.Nat.{sub-zero}
use Rattle.std.proofs.lemmas.List.{length-take, length-replicate, length-append, drop-replicate, append_assoc, take_all, set_at, take-append-le}
use Rattle.cipher.specs.Blocks.{padded_part, sum_of_parts, xor_of, stream}
use Rattle.cipher.proofs.StreamLaws.{stream_at}

last : (n k : ℕ) (rest : List ℕ) → length rest ≡ k → k < n → set (rest ++ replicate (n - k) 0) k 1 ≡ padded_part n (rest ++ (1 ∷ []))
unfolding padded_part
last n k rest e h =
    let a : n - k ≡ suc (n - suc k) = omega arith in
    let l : length (rest ++ (1 ∷ [])) ≡ suc k = omega (arith, length-append rest (1 ∷ [])) in
    ap (λ z. set (rest ++ replicate z 0) k 1) a
    ∙ set_at rest 0 (replicate (n - suc k) 0) 1 k e
    ∙ sym (append_assoc rest (1 ∷ []) (replicate (n - suc k) 0))
    ∙ ap₂ (λ y z. y ++ replicate (n - z) 0) (sym (take_all n (rest ++ (1 ∷ [])) (rw l h))) (sym l)

pub load_last : (n k : ℕ) (bytes zs ys : List ℕ) → k ≡ min n (length bytes) → zs ≡ replicate n 0 → ys ≡ take (k - 0) bytes → k < n
    → set (ys ++ drop (k - 0) zs) k 1 ≡ padded_part n (bytes ++ (1 ∷ []))
load_last n k bytes zs ys ek ez ey lt =
    let y : ys ≡ bytes = ey ∙ take_all (k - 0) bytes (omega arith) in
    let z : drop (k - 0) zs ≡ replicate (n - k) 0 = ap₂ drop (sub-zero k) ez ∙ drop-replicate k n 0 in
    ap₂ (λ a b. set (a ++ b) k 1) y z ∙ last n k bytes (omega arith) lt

pub load_full : (n k : ℕ) (bytes zs ys : List ℕ) → k ≡ min n (length bytes) → zs ≡ replicate n 0 → ys ≡ take (k - 0) bytes → n ≤ k
    → ys ++ drop (k - 0) zs ≡ padded_part n (bytes ++ (1 ∷ []))
unfolding padded_part
load_full n k bytes zs ys ek ez ey le =
    let all : k - 0 ≡ n = omega arith in
    let much : n ≤ length bytes = omega arith in
    let none : n - length (bytes ++ (1 ∷ [])) ≡ n - n = omega (arith, length-append bytes (1 ∷ [])) in
    let front : ys ≡ take n (bytes ++ (1 ∷ [])) = ey ∙ ap (λ j. take j bytes) all ∙ sym (take-append-le n bytes (1 ∷ []) much) in
    let rest : drop (k - 0) zs ≡ replicate (n - length (bytes ++ (1 ∷ []))) 0 = ap₂ drop all ez ∙ drop-replicate n n 0 ∙ ap (λ j. replicate j 0) (sym none) in
    ap₂ ◌++◌ front rest

pub padded_length : (n : ℕ) (xs : List ℕ) → length (padded_part n xs) ≡ n
unfolding padded_part
padded_length n xs = omega (arith, length-append (take n xs) (replicate (n - length xs) 0), length-take n xs, length-replicate {A = ℕ} (n - length xs) 0)

-- part q from place `at` of the string s, from the blocks of E side by side
pub summed_ext : (f h : ℕ → List ℕ) (k i : ℕ) (b : List ℕ) → ((q : ℕ) → q < k → f (q + i) ≡ h (q + i)) → sum_of_parts f k i b ≡ sum_of_parts h k i b
unfolding sum_of_parts
summed_ext f h zero i b e = refl
summed_ext f h (suc k) i b e =
    let z : f i ≡ h i = ap f (sym (zero-add i)) ∙ e 0 (omega arith) ∙ ap h (zero-add i) in
    ap (λ t. sum_of_parts f k (suc i) (xor_of b t)) z
    ∙ summed_ext f h k (suc i) (xor_of b (h i)) (λ q l. let a : q + suc i ≡ suc q + i = omega arith in ap f a ∙ e (suc q) (omega arith) ∙ ap h (sym a))

-- the first g of k blocks side by side, summed
pub summed_stream : (f : ℕ → List ℕ) (n g k : ℕ) (b : List ℕ) → ((q : ℕ) → length (f q) ≡ n) → g ≤ k → sum_of_parts (λ q. take n (drop (q * n) (stream f k 0))) g 0 b ≡ sum_of_parts f g 0 b
summed_stream f n g k b h l = summed_ext (λ q. take n (drop (q * n) (stream f k 0))) f g 0 b
    (λ q s. ap (λ z. take n (drop (z * n) (stream f k 0))) (add-zero q) ∙ stream_at f n k q 0 h (omega arith))
