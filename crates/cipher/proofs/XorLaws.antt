-- Exclusive or of lists of bytes, place by place and part by part.
use Rattle.std.proofs.Common.{◌≡◌, ℕ, zero, suc, ◌<◌, ◌≤◌, min, Bool, true, false, eqb, List, [], ◌∷◌, ◌++◌, length, get_or, take, set, Decides, fold, sym, refl, ap, ◌∙◌, ap₂, ⊎_elim, arith, eqb-true}
use Rattle.std.specs.List.{zip}
use lib.Bits.{bit_xor, bit_or, xor_zero_r, xor_zero_l, xor_assoc, xor_self, or_add_and, xor_add_and}
use Rattle.std.proofs.lemmas.List.{take_all}
use Rattle.std.proofs.lemmas.Bool.{cases_lt}
use Rattle.std.specs.Str.{bytes_eq}
use Rattle.std.proofs.lemmas.Slice.Eq.{bytes_eq-Decides}
use Rattle.cipher.specs.Blocks.{xor_of}

-- Two tests of one fact answer alike.
pub decided_alike : (a b : Bool) (P : Type 0) → Decides a P → Decides b P → a ≡ b
decided_alike true b P f g = sym (g.1 (f.0 refl))
decided_alike false true P f g = f.1 (g.0 refl)
decided_alike false false P f g = refl

pub xored_nil : (xs : List ℕ) → xor_of xs [] ≡ xs
unfolding xor_of
xored_nil [] = refl
xored_nil (x ∷ xs) = refl

pub length_xored : (xs ks : List ℕ) → length (xor_of xs ks) ≡ length xs
unfolding xor_of
length_xored [] ks = refl
length_xored (x ∷ xs) [] = refl
length_xored (x ∷ xs) (k ∷ ks) = ap suc (length_xored xs ks)

-- a loop's step: one more byte
pub xored_more : (k : ℕ) (d s : List ℕ) → k < length d → k < length s
    → set (xor_of d (take k s)) k (bit_xor (get_or (xor_of d (take k s)) k 0) (get_or s k 0)) ≡ xor_of d (take (suc k) s)
unfolding xor_of
xored_more k [] s h g = absurd (omega arith)
xored_more k (x ∷ d) [] h g = absurd (omega arith)
xored_more zero (x ∷ d) (y ∷ s) h g = ap (λ t. bit_xor x y ∷ t) (sym (xored_nil d))
xored_more (suc k) (x ∷ d) (y ∷ s) h g = ap (λ t. bit_xor x y ∷ t) (xored_more k d s (omega arith) (omega arith))

-- what is past the end does not count
pub xored_take : (k : ℕ) (d s : List ℕ) → length d ≤ k → xor_of d (take k s) ≡ xor_of d s
unfolding xor_of
xored_take k [] s h = refl
xored_take zero (x ∷ d) s h = absurd (omega arith)
xored_take (suc k) (x ∷ d) [] h = refl
xored_take (suc k) (x ∷ d) (y ∷ s) h = ap (λ t. bit_xor x y ∷ t) (xored_take k d s (omega arith))

pub xored_all : (k : ℕ) (d s : List ℕ) → min (length d) (length s) ≤ k → xor_of d (take k s) ≡ xor_of d s
xored_all k d s h = ⊎_elim (λ b. ap (xor_of d) (take_all k s (omega arith))) (λ a. xored_take k d s a) (cases_lt k (length d))

-- side by side
pub xored_append : (a c b d : List ℕ) → length a ≡ length c → xor_of (a ++ b) (c ++ d) ≡ xor_of a c ++ xor_of b d
unfolding xor_of
xored_append [] [] b d e = refl
xored_append [] (y ∷ c) b d e = absurd (omega arith)
xored_append (x ∷ a) [] b d e = absurd (omega arith)
xored_append (x ∷ a) (y ∷ c) b d e = ap (λ t. bit_xor x y ∷ t) (xored_append a c b d (omega arith))

pub xored_enough : (t s r : List ℕ) → length t ≤ length s → xor_of t (s ++ r) ≡ xor_of t s
unfolding xor_of
xored_enough [] s r h = refl
xored_enough (x ∷ t) [] r h = absurd (omega arith)
xored_enough (x ∷ t) (y ∷ s) r h = ap (λ z. bit_xor x y ∷ z) (xored_enough t s r (omega arith))

pub xor_same : (x y : ℕ) → bit_xor x y ≡ 0 → x ≡ y
xor_same x y h = sym (xor_zero_r x) ∙ ap (bit_xor x) (sym (xor_self y)) ∙ sym (xor_assoc x y y) ∙ ap (λ z. bit_xor z y) h ∙ xor_zero_l y

pub or_none : (a b : ℕ) → bit_or a b ≡ 0 → (a ≡ 0) × (b ≡ 0)
or_none a b h = (omega (arith, or_add_and a b, xor_add_and a b), omega (arith, or_add_and a b, xor_add_and a b))

-- all differences ored: one more pair of bytes
abbrev pub differing : ℕ → ℕ × ℕ → ℕ
differing d p = bit_or d (bit_xor p.0 p.1)

same_from_fold : (a b : List ℕ) (d : ℕ) → length a ≡ length b → fold differing d (zip a b) ≡ 0 → (d ≡ 0) × (a ≡ b)
same_from_fold [] [] d l e = (e, refl)
same_from_fold [] (y ∷ b) d l e = absurd (omega arith)
same_from_fold (x ∷ a) [] d l e = absurd (omega arith)
same_from_fold (x ∷ a) (y ∷ b) d l e =
    let r = same_from_fold a b (bit_or d (bit_xor x y)) (omega arith) e in
    let z = or_none d (bit_xor x y) r.0 in
    (z.0, ap₂ ◌∷◌ (xor_same x y z.1) r.1)

fold_of_same : (a : List ℕ) → fold differing 0 (zip a a) ≡ 0
fold_of_same [] = refl
fold_of_same (x ∷ a) = ap (λ d. fold differing (bit_or 0 d) (zip a a)) (xor_self x) ∙ fold_of_same a

-- The test of two strings by all their differences.
pub same_tested : (a b : List ℕ) → length a ≡ length b → eqb (fold differing 0 (zip a b)) 0 ≡ bytes_eq a b
same_tested a b l =
    let d = fold differing 0 (zip a b) in
    let tests : Decides (eqb d 0) (a ≡ b) =
    (λ t. (same_from_fold a b 0 l (eqb-true d 0 t)).1, λ p. ap (λ z. eqb z 0) (ap (λ z. fold differing 0 (zip a z)) (sym p) ∙ fold_of_same a)) in
    decided_alike (eqb d 0) (bytes_eq a b) (a ≡ b) tests (bytes_eq-Decides a b)
