-- Lists made from a function of the index, in parts.
use Rattle.std.proofs.Common.{◌≡◌, ℕ, zero, suc, ◌+◌, ◌-◌, ◌*◌, ◌<◌, List, ◌++◌, take, drop, sym, ap, ◌∙◌, ap₂, ⊎_elim, length-append, mul_comm, suc-mul, zero-add, zero-mul, arith}
use Rattle.std.proofs.lemmas.Bool.{cases_lt}
use Rattle.std.proofs.lemmas.List.{get_or_append_left, get_or-append_right}
use Rattle.std.proofs.lemmas.List.FromFn.{fill_by_all, get_or-map-range_with_len, length-map-range_with_len}
use Rattle.binary.specs.Bits.{list_from_fn}
use Rattle.engine.specs.Permutation.{each}
use Rattle.engine.proofs.BlockLaws.{each_more}

made_append : (f : ℕ → ℕ) (n m : ℕ) → list_from_fn n f ++ list_from_fn m (λ p. f (n + p)) ≡ list_from_fn (n + m) f
made_append f n m =
    let g : ℕ → ℕ = λ p. f (n + p) in
    let ln = length-map-range_with_len f 0 n in
    let lm = length-map-range_with_len g 0 m in
    fill_by_all f (list_from_fn n f ++ list_from_fn m g) (n + m) 0 (omega (length-append (list_from_fn n f) (list_from_fn m g), ln, lm, arith)) (λ k h.
    ⊎_elim
    (λ l. get_or_append_left (list_from_fn n f) (list_from_fn m g) 0 k (omega (l, ln, arith)) ∙ get_or-map-range_with_len f 0 n k k 0 l (zero-add k))
    (λ l.
    let place : n + (k - n) ≡ k = omega arith in
    get_or-append_right (list_from_fn n f) (list_from_fn m g) n k 0 ln l ∙ get_or-map-range_with_len g 0 m (k - n) (k - n) 0 (omega arith) (zero-add (k - n)) ∙ ap f place)
    (cases_lt k n))

-- blocks that are each made by the index
pub each_made : (f : List ℕ → List ℕ) (n k : ℕ) (xs : List ℕ) (g : ℕ → ℕ)
    → ((i : ℕ) → i < k → f (take n (drop (n * i) xs)) ≡ list_from_fn n (λ l. g (n * i + l))) → each f n k xs ≡ list_from_fn (k * n) g
unfolding each
each_made f n zero xs g h = ap (λ m. list_from_fn m g) (sym (zero-mul n))
each_made f n (suc k) xs g h =
    let turned = mul_comm k n in
    let last : f (take n (drop (k * n) xs)) ≡ list_from_fn n (λ l. g (k * n + l)) =
    ap (λ m. f (take n (drop m xs))) turned ∙ h k (omega arith) ∙ ap (λ m. list_from_fn n (λ l. g (m + l))) (sym turned) in
    each_more f n k xs ∙ ap₂ (λ s t. s ++ t) (each_made f n k xs g (λ i l. h i (omega arith))) last ∙ made_append g (k * n) n ∙ ap (λ m. list_from_fn m g) (sym (suc-mul k n))
