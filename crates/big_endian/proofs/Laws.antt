-- Bytes and the numbers that they write, there and back.
use Rattle.std.proofs.Common.{◌≡◌, ℕ, zero, suc, ◌+◌, ◌-◌, ◌*◌, ◌/◌, ◌%◌, ◌^◌, ◌<◌, ◌≤◌, min, List, [], ◌∷◌, ◌++◌, length, get_or, take, drop, set, sym, refl, ap, ◌∙◌, ap₂, add-one, arith}
use native.Mathlib.Numerals.{unary_clauses}
use native.Mathlib.Nat.{pow-le-pow_right}
use Rattle.std.specs.Int.Digits.{number_from_digits, AllBelowBase}
use Rattle.std.proofs.lemmas.Int.Digits.{number_more}
use Rattle.std.proofs.ByRecursion.{All-get_or, All-take}
use Rattle.std.proofs.lemmas.List.{get_or_default, take_min, take_all, take_more, nil_from_length, length-take, length-take-le, drop-set, append_assoc, length-append}
use Rattle.big_endian.specs.Numbers.{bytes_of}

-- The bytes of the number that bytes write are those bytes.
pub bytes_back : (k : ℕ) (bs : List ℕ) → length bs ≡ k → AllBelowBase 256 bs → bytes_of k (number_from_digits 256 bs) ≡ bs
unfolding bytes_of
bytes_back zero bs e u = sym (nil_from_length bs e)
bytes_back (suc k) bs e u =
    let lt : k < length bs = omega arith in
    let whole : take (k + 1) bs ≡ bs = take_all (k + 1) bs (omega arith) in
    let b : ℕ = get_or bs k 0 in
    let m : number_from_digits 256 bs ≡ number_from_digits 256 (take k bs) * 256 + b = ap (number_from_digits 256) (sym whole) ∙ number_more 256 bs k lt in
    let lb : b < 256 = All-get_or (λ d. d < 256) bs k 0 lt u in
    let q : number_from_digits 256 bs / 256 ≡ number_from_digits 256 (take k bs) = omega arith in
    let r : number_from_digits 256 bs % 256 ≡ b = omega arith in
    let ih : bytes_of k (number_from_digits 256 (take k bs)) ≡ take k bs = bytes_back k (take k bs) (length-take-le k bs (omega arith)) (All-take (λ d. d < 256) k bs u) in
    ap (λ z. bytes_of k z ++ (number_from_digits 256 bs % 256 ∷ [])) q ∙ ap (λ z. bytes_of k (number_from_digits 256 (take k bs)) ++ (z ∷ [])) r
    ∙ ap (λ z. z ++ (b ∷ [])) ih ∙ sym (take_more bs k 0 lt) ∙ whole

-- one byte more
pub one_more : (bs : List ℕ) (k n b : ℕ) → k < length bs → b ≡ get_or bs k b → n ≡ number_from_digits 256 (take k bs) → n * 256 + b ≡ number_from_digits 256 (take (k + 1) bs)
one_more bs k n b h is e = ap₂ (λ m d. m * 256 + d) e (is ∙ get_or_default bs k b 0 h) ∙ sym (number_more 256 bs k h)

pub grow : (n b i : ℕ) → n < 256 ^ i → b < 256 → n * 256 + b < 256 ^ (i + 1)
grow n b i h l = let e : 256 ^ (i + 1) ≡ 256 ^ i * 256 = rw add-one (simp unary_clauses) in omega arith

-- a number of fewer than sixteen bytes, with room for one more
pub bounded : (bytes : List ℕ) (n i : ℕ) → i < length (take 16 bytes) → n < 256 ^ i → n < 256 ^ 15
bounded bytes n i l h =
    let p : 256 ^ i ≤ 256 ^ 15 = (let a : i ≤ 15 = omega (arith, length-take 16 bytes) in let z : 0 < 256 = omega arith in pow-le-pow_right z a) in
    omega arith

put_suc : (j rest : ℕ) (out : List ℕ) → j < length out → bytes_of (suc j) rest ++ drop (j + 1) out ≡ bytes_of j (rest / 256) ++ drop j (set out j (rest % 256))
unfolding bytes_of
put_suc j rest out h =
    append_assoc (bytes_of j (rest / 256)) (rest % 256 ∷ []) (drop (j + 1) out) ∙ ap (λ z. bytes_of j (rest / 256) ++ z) (sym (drop-set out j (rest % 256) h))

pub put_more : (i rest : ℕ) (out whole : List ℕ) → 0 < i → i ≤ length out → bytes_of i rest ++ drop i out ≡ whole → bytes_of (i - 1) (rest / 256) ++ drop (i - 1) (set out (i - 1) (rest % 256)) ≡ whole
unfolding bytes_of
put_more i rest out whole h l e =
    let j : ℕ = i - 1 in
    let a : suc j ≡ i = omega arith in
    let b : j + 1 ≡ i = omega arith in
    sym (put_suc j rest out (omega arith)) ∙ ap (λ z. bytes_of z rest ++ drop (j + 1) out) a ∙ ap (λ z. bytes_of i rest ++ drop z out) b ∙ e

-- What is past the end does not count.
pub take_cut : (k n : ℕ) (xs : List ℕ) → k ≡ min (length xs) n → take k xs ≡ take n xs
take_cut k n xs e = let same : k ≡ min n (length xs) = omega arith in ap (λ m. take m xs) same ∙ take_min n xs

pub bytes_of_length : (k n : ℕ) → length (bytes_of k n) ≡ k
unfolding bytes_of
bytes_of_length zero n = refl
bytes_of_length (suc k) n = length-append (bytes_of k (n / 256)) (n % 256 ∷ []) ∙ omega (arith, bytes_of_length k (n / 256))
