-- The bits of two words after some of them have changed places.
use Rattle.std.proofs.Common.{◌≡◌, ℕ, ◌+◌, ◌-◌, ◌<◌, ◌≤◌, Bool, true, false, cond, ◌&&◌, ltb, sym, refl, ap, ◌∙◌, ⊎_elim, arith}
use Rattle.std.proofs.lemmas.Bool.{cases_lt, lt-ltb, le-ltb}
use Rattle.binary.specs.Bits.{bit, differs}
use Rattle.circuit.specs.Planes.{Bits}

nothing : (b : Bool) → differs b false ≡ b
nothing true = refl
nothing false = refl

lo_bit : (n y x : Bool) → differs x (differs x y && n) ≡ cond n y x
lo_bit true true true = refl
lo_bit true true false = refl
lo_bit true false true = refl
lo_bit true false false = refl
lo_bit false true true = refl
lo_bit false true false = refl
lo_bit false false true = refl
lo_bit false false false = refl

hi_bit : (n x y : Bool) → differs y (differs x y && n) ≡ cond n x y
hi_bit true true true = refl
hi_bit true true false = refl
hi_bit true false true = refl
hi_bit true false false = refl
hi_bit false true true = refl
hi_bit false true false = refl
hi_bit false false true = refl
hi_bit false false false = refl

-- where lo and hi differ under the mask, hi being n places below
abbrev Apart : ℕ → ℕ → Bits → Bits → Bits → Type 0
Apart n m lo hi d = (k : ℕ) → k < 64 → d k ≡ (differs (cond (ltb (n + k) 64) (lo (n + k)) false) (hi k) && bit m k)

pub cross_hi : (n m : ℕ) (lo hi d : Bits) → Apart n m lo hi d → (k : ℕ) → k < 64
    → differs (hi k) (d k) ≡ cond (bit m k) (cond (ltb (n + k) 64) (lo (n + k)) false) (hi k)
cross_hi n m lo hi d e k h = ap (differs (hi k)) (e k h) ∙ hi_bit (bit m k) (cond (ltb (n + k) 64) (lo (n + k)) false) (hi k)

pub cross_lo : (n m : ℕ) (lo hi d : Bits) → Apart n m lo hi d → (k : ℕ) → k < 64
    → differs (lo k) (cond (ltb k n) false (d (k - n))) ≡ cond (ltb k n) (lo k) (cond (bit m (k - n)) (hi (k - n)) (lo k))
cross_lo n m lo hi d e k h = ⊎_elim below above (cases_lt k n)
  where
    below : k < n → differs (lo k) (cond (ltb k n) false (d (k - n))) ≡ cond (ltb k n) (lo k) (cond (bit m (k - n)) (hi (k - n)) (lo k))
    below l =
        ap (λ b. differs (lo k) (cond b false (d (k - n)))) (lt-ltb k n l) ∙ nothing (lo k)
        ∙ ap (λ b. cond b (lo k) (cond (bit m (k - n)) (hi (k - n)) (lo k))) (sym (lt-ltb k n l))

    above : n ≤ k → differs (lo k) (cond (ltb k n) false (d (k - n))) ≡ cond (ltb k n) (lo k) (cond (bit m (k - n)) (hi (k - n)) (lo k))
    above l =
        let back : n + (k - n) ≡ k = omega arith in
        let here : cond (ltb (n + (k - n)) 64) (lo (n + (k - n))) false ≡ lo k =
        ap (λ q. cond (ltb q 64) (lo q) false) back ∙ ap (λ b. cond b (lo k) false) (lt-ltb k 64 h) in
        ap (λ b. differs (lo k) (cond b false (d (k - n)))) (le-ltb k n l)
        ∙ ap (differs (lo k)) (e (k - n) (omega arith) ∙ ap (λ b. differs b (hi (k - n)) && bit m (k - n)) here)
        ∙ lo_bit (bit m (k - n)) (hi (k - n)) (lo k)
        ∙ ap (λ b. cond b (lo k) (cond (bit m (k - n)) (hi (k - n)) (lo k))) (sym (le-ltb k n l))
