-- Where a bit goes, and which one comes.
use Rattle.std.proofs.Common.{◌≡◌, ℕ, suc, ◌+◌, ◌-◌, ◌*◌, ◌/◌, ◌%◌, ◌<◌, ◌≤◌, Bool, false, List, length, get_or, sym, ap, ◌∙◌, ap₂, ⊎_elim, mul-le-mul_right, mod-eq_of_lt, mul_assoc, add-mul, mul-suc, arith}
use native.Mathlib.Nat.{mul-add-mod_self_right}
use Rattle.std.proofs.lemmas.Bool.{cases_eq, cases_lt, eq-eqb, ne_eqb}
use Rattle.std.proofs.lemmas.Nat.{mul-add-lt, mod-mul-add, div-mul-add}
use Rattle.std.proofs.lemmas.List.FromFn.{get_or-map-range_with_len}
use Rattle.engine.specs.Spongent.{place, move, moved_bit}

-- bit 4 k + i goes to place i (b / 4) + k
pub place_is : (m k i : ℕ) → k < m → i < 4 → place (m * 4) (k * 4 + i) ≡ i * m + k
place_is m k i hk hi = ⊎_elim last other (cases_eq (k * 4 + i) (m * 4 - 1))
  where
    quarter : m * 4 / 4 ≡ m
    quarter = omega arith

    last : k * 4 + i ≡ m * 4 - 1 → place (m * 4) (k * 4 + i) ≡ i * m + k
    last e = let three : i ≡ 3 = omega arith in rw (eq-eqb (k * 4 + i) (m * 4 - 1) e, three) (omega arith)

    other : (k * 4 + i ≡ m * 4 - 1 → ⊥) → place (m * 4) (k * 4 + i) ≡ i * m + k
    other n =
        let t = m * 4 - 1 in
        let next : 4 * m ≡ suc t = omega arith in
        let whole : (k * 4 + i) * m ≡ k * t + (i * m + k) =
        add-mul (k * 4) i m ∙ ap (λ x. x + i * m) (mul_assoc k 4 m ∙ ap (λ x. k * x) next ∙ mul-suc k t) ∙ omega arith in
        let below : i * m + k < t = ⊎_elim (λ h. omega (arith, mul-le-mul_right {m = i} {n = 2} m (omega arith))) (λ (h : 3 ≤ i). let three : i ≡ 3 = omega arith in rw three (omega arith)) (cases_lt i 3) in
        rw (ne_eqb (k * 4 + i) (m * 4 - 1) n, quarter, whole, mul-add-mod_self_right k t (i * m + k)) (mod-eq_of_lt below)

-- bit j of the block comes to the place that the rule gives it
pub moves : (bs : List Bool) (j : ℕ) → length bs % 4 ≡ 0 → j < length bs → get_or (move bs) (place (length bs) j) false ≡ get_or bs j false
unfolding move
moves bs j four h =
    let m = length bs / 4 in
    let k = j / 4 in
    let i = j % 4 in
    let all : length bs ≡ m * 4 = omega arith in
    let parts : k * 4 + i ≡ j = omega arith in
    let hk : k < m = omega arith in
    let hi : i < 4 = omega arith in
    let to : place (length bs) j ≡ i * m + k = ap₂ place all (sym parts) ∙ place_is m k i hk hi in
    let inside : i * m + k < length bs = omega (arith, mul-add-lt i m k 4 hi hk) in
    ap (λ p. get_or (move bs) p false) to
    ∙ get_or-map-range_with_len (moved_bit bs) 0 (length bs) (i * m + k) (i * m + k) false inside (omega arith)
    ∙ ap₂ (λ x y. get_or bs (x * 4 + y) false) (mod-mul-add i m k hk) (div-mul-add i m k hk) ∙ ap (λ x. get_or bs x false) parts
