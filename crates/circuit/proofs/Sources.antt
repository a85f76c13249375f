-- Words whose bits come from one source: f (s k) stands at place k.
use Rattle.std.proofs.Common.{◌≡◌, ℕ, ◌+◌, ◌-◌, ◌*◌, ◌/◌, ◌%◌, ◌<◌, ◌≤◌, Bool, true, false, cond, ◌&&◌, ◌||◌, eqb, ltb, List, [], ◌∷◌, get_or, sym, refl, ap, ◌∙◌, ap₂, ⊎_elim, arith, lit≤}
use Rattle.std.proofs.lemmas.Nat.{mod_below}
use Rattle.std.proofs.lemmas.Bool.{cases_lt, lt-ltb, le-ltb, eqb-true, false≢true}
use Rattle.binary.specs.Bits.{bit}
use Rattle.circuit.specs.Planes.{Bits, word_bit, InRows, Unzipped}
use Rattle.circuit.specs.Moves.{Masked, Crossed}
use Rattle.circuit.proofs.Decide.{all_of, each_of}
use Rattle.circuit.proofs.Fours.{by_four}

-- the place that no bit comes from
abbrev pub none : ℕ
none = 1000

pub record From (f : Bits) (s : ℕ → ℕ) (b : Bits) : Type 0 where
  pub void : f none ≡ false
  pub at : (k : ℕ) → k < 64 → b k ≡ f (s k)

-- four words as one source: bit k of word t is at 64 t + k
abbrev pub source : List Bits → Bits
source ws n = word_bit ws (n / 64) (n % 64)

pub source_at : (ws : List Bits) (t k : ℕ) → k < 64 → source ws (64 * t + k) ≡ word_bit ws t k
source_at ws t k h =
    let row : (64 * t + k) / 64 ≡ t = omega arith in
    let col : (64 * t + k) % 64 ≡ k = omega arith in
    ap₂ (λ r c. word_bit ws r c) row col

pub base : (ws : List Bits) (t : ℕ) → source ws none ≡ false → From (source ws) (λ k. 64 * t + k) (get_or ws t (λ _. false))
base ws t e = record { void = e; at = λ k h. sym (source_at ws t k h) }

push : (b : Bool) (f : Bits) (i j : ℕ) → cond b (f i) (f j) ≡ f (cond b i j)
push true f i j = refl
push false f i j = refl

kept : (b : Bool) (f : Bits) (i : ℕ) → f none ≡ false → (f i && b) ≡ f (cond b i none)
kept true f i e = right (f i)
  where
    right : (b : Bool) → (b && true) ≡ b
    right true = refl
    right false = refl
kept false f i e = none_of (f i) ∙ sym e
  where
    none_of : (b : Bool) → (b && false) ≡ false
    none_of true = refl
    none_of false = refl

-- where the bits come from in a word moved down or up
abbrev pub lower : ℕ → (ℕ → ℕ) → ℕ → ℕ
lower n s k = cond (ltb (n + k) 64) (s (n + k)) none

abbrev pub higher : ℕ → (ℕ → ℕ) → ℕ → ℕ
higher n s k = cond (ltb k n) none (s (k - n))

moved_down : (f : Bits) (s : ℕ → ℕ) (b : Bits) (n k : ℕ) → From f s b → cond (ltb (n + k) 64) (b (n + k)) false ≡ f (lower n s k)
moved_down f s b n k a =
    ⊎_elim
    (λ l. ap (λ t. cond t (b (n + k)) false) (lt-ltb (n + k) 64 l) ∙ a.at (n + k) l ∙ ap (λ t. f (cond t (s (n + k)) none)) (sym (lt-ltb (n + k) 64 l)))
    (λ l. ap (λ t. cond t (b (n + k)) false) (le-ltb (n + k) 64 l) ∙ sym a.void ∙ ap (λ t. f (cond t (s (n + k)) none)) (sym (le-ltb (n + k) 64 l)))
    (cases_lt (n + k) 64)

moved_up : (f : Bits) (s : ℕ → ℕ) (b : Bits) (n k : ℕ) → k < 64 → From f s b → cond (ltb k n) false (b (k - n)) ≡ f (higher n s k)
moved_up f s b n k h a =
    ⊎_elim
    (λ l. ap (λ t. cond t false (b (k - n))) (lt-ltb k n l) ∙ sym a.void ∙ ap (λ t. f (cond t none (s (k - n)))) (sym (lt-ltb k n l)))
    (λ l. ap (λ t. cond t false (b (k - n))) (le-ltb k n l) ∙ a.at (k - n) (omega arith) ∙ ap (λ t. f (cond t none (s (k - n)))) (sym (le-ltb k n l)))
    (cases_lt k n)

pub down_from : {f : Bits} {s : ℕ → ℕ} {b r : Bits} (n : ℕ) → From f s b → ((k : ℕ) → k < 64 → r k ≡ cond (ltb (n + k) 64) (b (n + k)) false)
    → From f (lower n s) r
down_from {f} {s} {b} {r} n a e = record { void = a.void; at = λ k h. e k h ∙ moved_down f s b n k a }

pub up_from : {f : Bits} {s : ℕ → ℕ} {b r : Bits} (n : ℕ) → From f s b → ((k : ℕ) → k < 64 → r k ≡ cond (ltb k n) false (b (k - n)))
    → From f (higher n s) r
up_from {f} {s} {b} {r} n a e = record { void = a.void; at = λ k h. e k h ∙ moved_up f s b n k h a }

pub masked_from : {f : Bits} {s : ℕ → ℕ} {b r : Bits} {m : ℕ} → From f s b → Masked m b r → From f (λ k. cond (bit m k) (s k) none) r
masked_from {f} {s} {b} {r} {m} a e =
    record { void = a.void; at = λ k h. e.at k h ∙ ap (λ x. x && bit m k) (a.at k h) ∙ kept (bit m k) f (s k) a.void }

-- at most one of two places gives a bit
joined : (f : Bits) (i j : ℕ) (x y : Bool) → f none ≡ false → eqb i none ≡ x → eqb j none ≡ y → (x || y) ≡ true → (f i || f j) ≡ f (cond x j i)
joined f i j true y e p q t = ap (λ n. f n || f j) (eqb-true i none p) ∙ ap (λ b. b || f j) e
joined f i j false true e p q t = ap (λ n. f i || f n) (eqb-true j none q) ∙ ap (λ b. f i || b) e ∙ off (f i)
  where
    off : (b : Bool) → (b || false) ≡ b
    off true = refl
    off false = refl
joined f i j false false e p q t = absurd (false≢true t)

abbrev pub apart : (ℕ → ℕ) → (ℕ → ℕ) → ℕ → Bool
apart s t k = eqb (s k) none || eqb (t k) none

pub or_from : {f : Bits} {s t : ℕ → ℕ} {a b r : Bits} → From f s a → From f t b → ((k : ℕ) → k < 64 → r k ≡ (a k || b k)) → all_of 64 (apart s t) ≡ true
    → From f (λ k. cond (eqb (s k) none) (t k) (s k)) r
or_from {f} {s} {t} a b e one =
    record {
      void = a.void;
      at = λ k h. e k h ∙ ap₂ (λ x y. x || y) (a.at k h) (b.at k h)
          ∙ joined f (s k) (t k) (eqb (s k) none) (eqb (t k) none) a.void refl refl (each_of 64 (apart s t) one k h);
    }

-- the two results of a crossing
pub lo_from : {f : Bits} {s t : ℕ → ℕ} {x y r u : Bits} {n m : ℕ} → From f s x → From f t y → Crossed n m x y r u
    → From f (λ k. cond (ltb k n) (s k) (cond (bit m (k - n)) (t (k - n)) (s k))) r
lo_from {f} {s} {t} {x} {y} {r} {u} {n} {m} a b e =
    record {
      void = a.void;
      at = λ k h. e.below k h
          ∙ ap₂ (λ v w. cond (ltb k n) v (cond (bit m (k - n)) w v)) (a.at k h) (b.at (k - n) (omega arith))
          ∙ ap (cond (ltb k n) (f (s k))) (push (bit m (k - n)) f (t (k - n)) (s k)) ∙ push (ltb k n) f (s k) (cond (bit m (k - n)) (t (k - n)) (s k));
    }

pub hi_from : {f : Bits} {s t : ℕ → ℕ} {x y r u : Bits} {n m : ℕ} → From f s x → From f t y → Crossed n m x y r u
    → From f (λ k. cond (bit m k) (lower n s k) (t k)) u
hi_from {f} {s} {t} {x} {y} {r} {u} {n} {m} a b e =
    record {
      void = a.void;
      at = λ k h. e.above k h ∙ ap₂ (cond (bit m k)) (moved_down f s x n k a) (b.at k h) ∙ push (bit m k) f (lower n s k) (t k);
    }

-- the whole map at n places, by computing
pub places : {f : Bits} {s : ℕ → ℕ} {b : Bits} (n : ℕ) (t : ℕ → ℕ) → n ≤ 64 → From f s b → all_of n (λ k. eqb (s k) (t k)) ≡ true → (k : ℕ) → k < n → b k ≡ f (t k)
places {f} {s} n t le a e k h = a.at k (omega arith) ∙ ap f (eqb-true (s k) (t k) (each_of n (λ k. eqb (s k) (t k)) e k h))

-- where bit j stands in rows
abbrev row_place : ℕ → ℕ
row_place j = 64 * (j / 16 % 4) + (j / 64 * 16 + j % 16)

abbrev unzips : ℕ → (ℕ → ℕ) → Bool
unzips t s = all_of 64 (λ k. eqb (s k) (row_place (k * 4 + t)))

pub unzipped : {s₀ s₁ s₂ s₃ : ℕ → ℕ} (rs ps : List Bits) → From (source rs) s₀ (get_or ps 0 (λ _. false)) → From (source rs) s₁ (get_or ps 1 (λ _. false))
    → From (source rs) s₂ (get_or ps 2 (λ _. false)) → From (source rs) s₃ (get_or ps 3 (λ _. false))
    → unzips 0 s₀ ≡ true → unzips 1 s₁ ≡ true → unzips 2 s₂ ≡ true → unzips 3 s₃ ≡ true → Unzipped rs ps
unzipped rs ps a b c d ea eb ec ed k t hk ht =
    by_four (λ t. word_bit ps t k ≡ source rs (row_place (k * 4 + t)))
    (places 64 (λ k. row_place (k * 4 + 0)) (lit≤ tt) a ea k hk) (places 64 (λ k. row_place (k * 4 + 1)) (lit≤ tt) b eb k hk)
    (places 64 (λ k. row_place (k * 4 + 2)) (lit≤ tt) c ec k hk) (places 64 (λ k. row_place (k * 4 + 3)) (lit≤ tt) d ed k hk) t ht
    ∙ (let j = k * 4 + t in source_at rs (j / 16 % 4) (j / 64 * 16 + j % 16) (omega arith))

-- rows of a block in words of m bits, by computing
abbrev of_four : (ℕ → ℕ) → (ℕ → ℕ) → (ℕ → ℕ) → (ℕ → ℕ) → ℕ → ℕ → ℕ
of_four s₀ s₁ s₂ s₃ t k = get_or (s₀ ∷ s₁ ∷ s₂ ∷ s₃ ∷ []) t (λ _. none) k

abbrev rows_hold : ℕ → (ℕ → ℕ) → (ℕ → ℕ) → (ℕ → ℕ) → (ℕ → ℕ) → ℕ → Bool
rows_hold m s₀ s₁ s₂ s₃ j = eqb (of_four s₀ s₁ s₂ s₃ (j / 16 % 4) (j / 64 * 16 + j % 16)) (64 * (j / m) + j % m)

pub in_rows : {s₀ s₁ s₂ s₃ : ℕ → ℕ} (m : ℕ) (ws rs : List Bits) → 0 < m → m ≤ 64
    → From (source ws) s₀ (get_or rs 0 (λ _. false)) → From (source ws) s₁ (get_or rs 1 (λ _. false))
    → From (source ws) s₂ (get_or rs 2 (λ _. false)) → From (source ws) s₃ (get_or rs 3 (λ _. false))
    → all_of (m * 4) (rows_hold m s₀ s₁ s₂ s₃) ≡ true → InRows m ws rs
in_rows {s₀} {s₁} {s₂} {s₃} m ws rs some small a b c d e j h =
    let t = j / 16 % 4 in
    let k = j / 64 * 16 + j % 16 in
    let hk : k < 64 = omega arith in
    let col : j % m < m = mod_below j m some in
    by_four (λ t. word_bit rs t k ≡ source ws (of_four s₀ s₁ s₂ s₃ t k)) (a.at k hk) (b.at k hk) (c.at k hk) (d.at k hk) t (omega arith)
    ∙ ap (source ws) (eqb-true (of_four s₀ s₁ s₂ s₃ t k) (64 * (j / m) + j % m) (each_of (m * 4) (rows_hold m s₀ s₁ s₂ s₃) e j h))
    ∙ source_at ws (j / m) (j % m) (omega arith)
