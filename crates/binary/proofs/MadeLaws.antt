-- A loop that writes f j at each place j.
use Rattle.std.proofs.Common.{◌≡◌, ℕ, zero, suc, ◌+◌, ◌<◌, ◌≤◌, ◌≢◌, List, length, get_or, set, refl, subst, ◌∙◌, ⊎_elim, zero-add, arith, below_more}
use Rattle.std.proofs.lemmas.List.{get_or-set_same, get_or-set_other}
use Rattle.std.proofs.lemmas.List.FromFn.{fill_by_all, get_or-map-range_with_len, length-map-range_with_len}
use Rattle.std.proofs.lemmas.Bool.{cases_eq}
use Rattle.std.specs.Array.{IsFromFnResult, IsFromFnResultFrom}
use Rattle.std.specs.Fn.{Called}
use denote.Param.Members.{Mut}
use Rattle.binary.specs.Bits.{list_from_fn}

-- The first i elements of xs are f 0, f 1, ..
abbrev pub Filled : {X : Type 0} → (ℕ → X) → ℕ → List X → Type 0
Filled {X} f i xs = (k : ℕ) (d : X) → k < i → get_or xs k d ≡ f k

pub filled_more : {X : Type 0} (f : ℕ → X) (xs : List X) (i : ℕ) (v : X) → i < length xs → v ≡ f i → Filled f i xs → Filled f (i + 1) (set xs i v)
filled_more f xs i v h e inv k d =
    below_more (λ (k : ℕ). get_or (set xs i v) k d ≡ f k) i (λ k l. let ne : k ≢ i = omega arith in get_or-set_other xs i k v d ne ∙ inv k d l)
    (get_or-set_same xs i v d h ∙ e) k

pub filled_all : {X : Type 0} (d : X) (f : ℕ → X) (xs : List X) (n : ℕ) → length xs ≡ n → Filled f n xs → xs ≡ list_from_fn n f
filled_all d f xs n e inv = fill_by_all f xs n d e (λ k h. inv k d h)

-- at the loop's end
pub filled_end : {X : Type 0} (d : X) (f : ℕ → X) (xs : List X) (n i : ℕ) → length xs ≡ n → n ≤ i → Filled f i xs → xs ≡ list_from_fn n f
filled_end d f xs n i e left inv = filled_all d f xs n e (λ k d h. inv k d (omega arith))

pub made_ext : {X : Type 0} (d : X) (f g : ℕ → X) (n : ℕ) → ((k : ℕ) → k < n → f k ≡ g k) → list_from_fn n f ≡ list_from_fn n g
made_ext d f g n h =
    fill_by_all g (list_from_fn n f) n d (length-map-range_with_len f 0 n) (λ k l. get_or-map-range_with_len f 0 n k k d l (zero-add k) ∙ h k l)

-- what `array::from_fn` makes by a closure that answers h i at each i and stays as it was
pub made_from_fn : {F X : Type 0} (g : Mut F (ℕ × Unit {0}) X) (f : F) (h : ℕ → X) (n : ℕ) (d : X) (ys : List X)
    → ((i : ℕ) (y : X) (q : F) → i < n → Called g f (i, tt) y q → (q ≡ f) × (y ≡ h i))
    → IsFromFnResult g f ys n → ys ≡ list_from_fn n h
made_from_fn {F} {X} g f h n d ys acts made_by =
    fill_by_all h ys n d made_by.long (λ k l. from 0 n f refl made_by.each (zero-add n) k (omega arith) l)
  where
    from : (i m : ℕ) (p : F) → p ≡ f → IsFromFnResultFrom g p ys i m → i + m ≡ n → (k : ℕ) → i ≤ k → k < n → get_or ys k d ≡ h k
    from i zero p same r e k low high = absurd (omega arith)
    from i (suc m) p same r e k low high =
        let called : Called g f (i, tt) r.1 r.0 = subst (λ (q : F). Called g q (i, tt) r.1 r.0) same r.3 in
        let turn = acts i r.1 r.0 (omega arith) called in
        ⊎_elim
        (λ (here : k ≡ i). rw here (r.2.1 d ∙ turn.1))
        (λ (ne : k ≡ i → ⊥). from (i + 1) m r.0 turn.0 r.4 (omega arith) k (omega arith) high)
        (cases_eq k i)
