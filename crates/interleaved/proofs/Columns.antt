-- A loop that writes one byte of each of up to four blocks of 25 at each turn.
use Rattle.std.proofs.Common.{◌≡◌, ℕ, ◌+◌, ◌*◌, ◌%◌, ◌<◌, ◌≤◌, ◌≢◌, List, length, get_or, set, sym, ap, ◌∙◌, ⊎_elim, arith}
use Rattle.std.proofs.lemmas.List.{length-set, get_or-set_same, get_or-set_other}
use Rattle.std.proofs.lemmas.Bool.{cases_eq}
use Rattle.interleaved.specs.Words.{byte_in, blocks_with_word}

-- The elements of xs at the places in P are those of f.
abbrev Known : (ℕ → ℕ) → (ℕ → Type 0) → List ℕ → Type 0
Known f P xs = (p d : ℕ) → p < length xs → P p → get_or xs p d ≡ f p

-- One write of an element of f adds its place to them. A write past the end changes nothing.
write : (f : ℕ → ℕ) (P : ℕ → Type 0) (xs : List ℕ) (q v : ℕ) → v ≡ f q → Known f P xs → Known f (λ p. (p ≢ q) → P p) (set xs q v)
write f P xs q v e known p d h in_P =
    let long = length-set xs q v in
    let h : p < length xs = omega (arith, h, long) in
    ⊎_elim
    (λ same. let hq : q < length xs = omega (arith, h, same) in ap (λ m. get_or (set xs q v) m d) same ∙ get_or-set_same xs q v d hq ∙ e ∙ ap f (sym same))
    (λ other. get_or-set_other xs q p v d other ∙ known p d h (in_P other))
    (cases_eq p q)

-- The first l bytes of each block are those of f.
abbrev pub Columns : (ℕ → ℕ) → ℕ → List ℕ → Type 0
Columns f l xs = Known f (λ p. p % 25 < l) xs

-- One more byte of each block.
pub columns_more : (f : ℕ → ℕ) (w l : ℕ) (xs : List ℕ) → length xs ≤ 100 → l < 25
    → ((i : ℕ) → i < 4 → byte_in w i ≡ f (25 * i + l)) → Columns f l xs → Columns f (l + 1) (blocks_with_word w l xs)
columns_more f w l xs all h e known p d inside column =
    let P : ℕ → Type 0 = λ p. p % 25 < l in
    let xs₁ = set xs l (byte_in w 0) in
    let xs₂ = set xs₁ (25 + l) (byte_in w 1) in
    let xs₃ = set xs₂ (50 + l) (byte_in w 2) in
    let l₁ = length-set xs l (byte_in w 0) in
    let l₂ = length-set xs₁ (25 + l) (byte_in w 1) in
    let l₃ = length-set xs₂ (50 + l) (byte_in w 2) in
    let l₄ = length-set xs₃ (75 + l) (byte_in w 3) in
    let k₁ = write f P xs l (byte_in w 0) (e 0 (omega arith) ∙ ap f (omega arith)) known in
    let k₂ = write f (λ p. (p ≢ l) → P p) xs₁ (25 + l) (byte_in w 1) (e 1 (omega arith)) k₁ in
    let k₃ = write f (λ p. (p ≢ 25 + l) → (p ≢ l) → P p) xs₂ (50 + l) (byte_in w 2) (e 2 (omega arith)) k₂ in
    let k₄ = write f (λ p. (p ≢ 50 + l) → (p ≢ 25 + l) → (p ≢ l) → P p) xs₃ (75 + l) (byte_in w 3) (e 3 (omega arith)) k₃ in
    k₄ p d inside (λ n₄ n₃ n₂ n₁. omega (arith, n₁, n₂, n₃, n₄, column, inside, all, l₁, l₂, l₃, l₄))
