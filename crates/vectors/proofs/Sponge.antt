-- The sponge, step by step.
use Rattle.std.proofs.Common.{◌≡◌, ℕ, suc, ◌+◌, ◌-◌, ◌*◌, ◌<◌, ◌≤◌, cond, eqb, List, [], ◌∷◌, ◌++◌, length, get_or, set, take, drop, Ok, Err, Result, refl, sym, ap, ap₂, ◌∙◌, arith, append_assoc, append-nil, length-take}
use borrow.Rule.Slice.PartMut.{put_mid}
use Rattle.std.specs.Result.{OnOk}
use Rattle.std.proofs.lemmas.List.{take_all, places}
use Rattle.std.proofs.lemmas.Slice.{take-put_mid}
use lib.Bits.{bit_xor}
use Rattle.engine.specs.declared.variants.Variant.{Variant}
use Rattle.engine.specs.declared.variants.Variant.TheVariants.{Dumbo, Jumbo, Delirium}
use Rattle.engine.specs.declared.faults.EngineFault.{EngineFault}
use Rattle.engine.specs.declared.faults.EngineFault.TheVariants.{BlockLength}
use Rattle.engine.specs.Permutation.{permutation}
use Rattle.engine.specs.Calls.{one_answer, one_after}
use Rattle.cipher.specs.Blocks.{xor_of}
use Rattle.cipher.proofs.XorLaws.{xored_nil, length_xored}
use Rattle.vectors.specs.Published.{sponge_state, sponge_output, at_22_bytes}

-- Two bytes xored into the first two.
pub xored_pair : (s : List ℕ) (a b : ℕ) → 2 ≤ length s
    → set (set s 0 (bit_xor (get_or s 0 0) a)) 1 (bit_xor (get_or (set s 0 (bit_xor (get_or s 0 0) a)) 1 0) b) ≡ xor_of s (a ∷ b ∷ [])
unfolding xor_of
xored_pair [] a b h = absurd (omega arith)
xored_pair (x ∷ []) a b h = absurd (omega arith)
xored_pair (x ∷ y ∷ s) a b h = ap (λ r. bit_xor x a ∷ bit_xor y b ∷ r) (sym (xored_nil s))

-- Where a call is granted, a block of 22 bytes is permuted.
pub one_after_22 : (v : Variant) (xs : List ℕ) → length xs ≡ 22 → (let r : Result (Unit {0}) EngineFault = Ok tt in at_22_bytes v tt ≡ r)
    → one_after v xs ≡ permutation v xs
one_after_22 Dumbo xs h e = cc
one_after_22 Jumbo xs h e = ap (λ n. cond (eqb n 22) (permutation Jumbo xs) xs) h
one_after_22 Delirium xs h e = cc

-- One answer decides all.
pub at_22_granted : {X : Type 0} (v : Variant) (x : X) → (let r : Result (Unit {0}) EngineFault = Ok tt in at_22_bytes v tt ≡ r) → at_22_bytes v x ≡ Ok x
at_22_granted Dumbo x e = cc
at_22_granted Jumbo x e = refl
at_22_granted Delirium x e = cc

pub at_22_refused : {X : Type 0} (v : Variant) (x : X) (f : EngineFault) → (let r : Result (Unit {0}) EngineFault = Err f in at_22_bytes v tt ≡ r) → at_22_bytes v x ≡ Err f
at_22_refused Dumbo x f e = cc
at_22_refused Jumbo x f e = cc
at_22_refused Delirium x f e = cc

-- A granted call for a block of 22 bytes leaves the permutation of what it was given.
pub permuted : (v : Variant) (s t : List ℕ) (a b : ℕ) → length s ≡ 22 → (let r : Result (Unit {0}) EngineFault = Ok tt in at_22_bytes v tt ≡ r)
    → t ≡ one_after v (xor_of s (a ∷ b ∷ [])) → t ≡ permutation v (xor_of s (a ∷ b ∷ []))
permuted v s t a b h e is = is ∙ one_after_22 v (xor_of s (a ∷ b ∷ [])) (length_xored s (a ∷ b ∷ []) ∙ h) e

-- Two bytes more, one byte left, and none.
pub sponge_state-two : (f : List ℕ → List ℕ) (s xs : List ℕ) → 2 ≤ length xs
    → sponge_state f (f (xor_of s (get_or xs 0 0 ∷ get_or xs 1 0 ∷ []))) (take (length xs - 2) (drop 2 xs)) ≡ sponge_state f s xs
unfolding sponge_state
sponge_state-two f s [] h = absurd (omega arith)
sponge_state-two f s (x ∷ []) h = absurd (omega arith)
sponge_state-two f s (x ∷ y ∷ xs) h =
    let e : take (suc (suc (length xs)) - 2) xs ≡ xs = take_all _ xs (omega arith) in
    ap (sponge_state f (f (xor_of s (x ∷ y ∷ [])))) e

pub sponge_state-one : (f : List ℕ → List ℕ) (s xs : List ℕ) → length xs ≡ 1 → f (xor_of s (get_or xs 0 0 ∷ 128 ∷ [])) ≡ sponge_state f s xs
unfolding sponge_state
sponge_state-one f s [] h = absurd (omega arith)
sponge_state-one f s (x ∷ []) h = refl
sponge_state-one f s (x ∷ y ∷ xs) h = absurd (omega arith)

pub sponge_state-none : (f : List ℕ → List ℕ) (s xs : List ℕ) → length xs ≡ 0 → f (xor_of s (128 ∷ 0 ∷ [])) ≡ sponge_state f s xs
unfolding sponge_state
sponge_state-none f s [] h = refl
sponge_state-none f s (x ∷ xs) h = absurd (omega arith)

-- A turn of the loop over a message.
pub sponge_turn : (v : Variant) (s t xs : List ℕ) → length s ≡ 22 → (let r : Result (Unit {0}) EngineFault = Ok tt in at_22_bytes v tt ≡ r)
    → t ≡ one_after v (xor_of s (get_or xs 0 0 ∷ get_or xs 1 0 ∷ [])) → 2 ≤ length xs
    → sponge_state (permutation v) t (take (length xs - 2) (drop 2 xs)) ≡ sponge_state (permutation v) s xs
sponge_turn v s t xs h e is two =
    ap (λ u. sponge_state (permutation v) u (take (length xs - 2) (drop 2 xs))) (permuted v s t _ _ h e is) ∙ sponge_state-two (permutation v) s xs two

-- Its end.
pub sponge_end : (v : Variant) (s t out : List ℕ) (a b : ℕ) (r : Result (Unit {0}) EngineFault) → length s ≡ 22 → r ≡ at_22_bytes v tt
    → t ≡ one_after v (xor_of s (a ∷ b ∷ [])) → permutation v (xor_of s (a ∷ b ∷ [])) ≡ out → OnOk r (t ≡ out)
sponge_end v s t out a b (Ok u) h e is end = permuted v s t a b h (sym e) is ∙ end
sponge_end v s t out a b (Err f) h e is end = tt

-- A write of a part keeps the length.
pub length-put : (xs ys : List ℕ) (a k : ℕ) → length ys ≡ k → a + k ≤ length xs → length (put_mid a k xs ys) ≡ length xs
length-put xs ys a k h fits = grind (arith, places)

-- A turn of the squeezing.
pub sponge_output-turn : (v : Variant) (k : ℕ) (s t xs ys : List ℕ) → k < 10 → length s ≡ 22 → 2 * k ≤ length xs
    → (let r : Result (Unit {0}) EngineFault = Ok tt in at_22_bytes v tt ≡ r) → t ≡ one_after v s → ys ≡ put_mid (2 * k) 2 xs (take 2 s)
    → take (2 * (k + 1)) ys ++ sponge_output (permutation v) (10 - (k + 1)) t ≡ take (2 * k) xs ++ sponge_output (permutation v) (10 - k) s
unfolding sponge_output
sponge_output-turn v k s t xs ys lt h fits e is put =
    let left : 10 - k ≡ suc (10 - (k + 1)) = omega arith in
    let two : length (take 2 s) ≡ 2 = omega (arith, length-take 2 s) in
    let head : take (2 * (k + 1)) ys ≡ take (2 * k) xs ++ take 2 s = ap (take (2 * (k + 1))) put ∙ take-put_mid (2 * k) 2 xs (take 2 s) (2 * (k + 1)) (omega arith) fits in
    let next : t ≡ permutation v s = is ∙ one_after_22 v s h e in
    ap₂ (λ front u. front ++ sponge_output (permutation v) (10 - (k + 1)) u) head next
    ∙ append_assoc (take (2 * k) xs) (take 2 s) (sponge_output (permutation v) (10 - (k + 1)) (permutation v s))
    ∙ ap (λ n. take (2 * k) xs ++ sponge_output (permutation v) n s) (sym left)

-- Its end.
pub sponge_output-end : (f : List ℕ → List ℕ) (s xs out : List ℕ) → length xs ≡ 20 → take 20 xs ++ sponge_output f 0 s ≡ out → xs ≡ out
unfolding sponge_output
sponge_output-end f s xs out h e = sym (append-nil (take 20 xs) ∙ take_all 20 xs (omega arith)) ∙ e

-- The answer of a call for a state of 22 bytes.
pub one_answer_22 : (v : Variant) (s : List ℕ) (r : Result (Unit {0}) EngineFault) → length s ≡ 22 → r ≡ one_answer v s → r ≡ at_22_bytes v tt
one_answer_22 Dumbo s r h e = e ∙ ap (λ n. cond (eqb n 20) (Ok tt) (Err BlockLength)) h
one_answer_22 Jumbo s r h e = e ∙ ap (λ n. cond (eqb n 22) (Ok tt) (Err BlockLength)) h
one_answer_22 Delirium s r h e = e ∙ ap (λ n. cond (eqb n 25) (Ok tt) (Err BlockLength)) h
