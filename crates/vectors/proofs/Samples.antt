-- The sampling of a list, and what the trials of a sample come to, step by step.
use Rattle.std.proofs.Common.{◌≡◌, ℕ, zero, suc, ◌+◌, ◌-◌, ◌<◌, ◌≤◌, Bool, true, false, not, List, [], ◌∷◌, ◌++◌, length, get_or, drop, map, filter, refl, sym, ap, ap₂, ◌∙◌, arith, append_assoc, append-nil}
use Rattle.std.proofs.lemmas.List.{drop-map, drop_more, drop_all}
use Rattle.vectors.specs.KnownAnswers.{sample}

sample-nil : {X : Type 0} (step few : ℕ) → sample {X = X} step few [] ≡ []
unfolding sample
sample-nil step zero = refl
sample-nil step (suc few) = refl

sample-pass : {X : Type 0} (step few : ℕ) (x : X) (xs : List X) → 0 < few → sample step few (x ∷ xs) ≡ sample step (few - 1) xs
unfolding sample
sample-pass step zero x xs h = absurd (omega arith)
sample-pass step (suc few) x xs h = let e : suc few - 1 ≡ few = omega arith in rw e

sample-try : {X : Type 0} (step few : ℕ) (x : X) (xs : List X) → few ≤ 0 → sample step few (x ∷ xs) ≡ x ∷ sample step (step - 1) xs
unfolding sample
sample-try step zero x xs h = refl
sample-try step (suc few) x xs h = absurd (omega arith)

drop-map_more : {X Y : Type 0} (f : X → Y) (xs : List X) (i : ℕ) (x : X) → i < length xs → x ≡ get_or xs i x
    → drop i (map f xs) ≡ f x ∷ drop (i + 1) (map f xs)
drop-map_more f xs i x lt is =
    drop-map f i xs ∙ ap (map f) (drop_more xs i x lt)
    ∙ ap₂ (λ y ys. f y ∷ ys) (sym is) (sym (drop-map f (i + 1) xs))

-- An element is passed over, or tried, and at the end none is left.
pub rest-pass : {X Y : Type 0} (f : X → Y) (xs : List X) (i step few next : ℕ) (x : X) → i < length xs → x ≡ get_or xs i x → 0 < few → next ≡ few - 1
    → sample step few (drop i (map f xs)) ≡ sample step next (drop (i + 1) (map f xs))
rest-pass f xs i step few next x lt is some down =
    ap (sample step few) (drop-map_more f xs i x lt is)
    ∙ sample-pass step few (f x) (drop (i + 1) (map f xs)) some
    ∙ ap (λ n. sample step n (drop (i + 1) (map f xs))) (sym down)

pub rest-try : {X Y : Type 0} (f : X → Y) (xs : List X) (i step few next : ℕ) (x : X) → i < length xs → x ≡ get_or xs i x → few ≤ 0 → next ≡ step - 1
    → sample step few (drop i (map f xs)) ≡ f x ∷ sample step next (drop (i + 1) (map f xs))
rest-try f xs i step few next x lt is none again =
    ap (sample step few) (drop-map_more f xs i x lt is)
    ∙ sample-try step few (f x) (drop (i + 1) (map f xs)) none
    ∙ ap (λ n. f x ∷ sample step n (drop (i + 1) (map f xs))) (sym again)

pub rest-end : {X Y : Type 0} (f : X → Y) (xs : List X) (i step few : ℕ) → length xs ≤ i → sample step few (drop i (map f xs)) ≡ []
rest-end f xs i step few end =
    ap (sample step few) (drop-map f i xs ∙ ap (map f) (drop_all i xs end)) ∙ sample-nil step few

module _ {K : Type 0} (agrees : K → Bool) (number : K → ℕ) where
  -- The outcomes so far and those of the rest are all, and so with the numbers of those that disagree.
  pub outcomes-kept : (old new : List Bool) (rest left : List K) (all : List Bool) → rest ≡ left → new ≡ old
      → old ++ map agrees rest ≡ all → new ++ map agrees left ≡ all
  outcomes-kept old new rest left all same kept sofar = ap₂ (λ o r. o ++ map agrees r) kept (sym same) ∙ sofar

  pub outcomes-pushed : (old new : List Bool) (rest left : List K) (all : List Bool) (a : K) (b : Bool) → rest ≡ a ∷ left → b ≡ agrees a → new ≡ old ++ b ∷ []
      → old ++ map agrees rest ≡ all → new ++ map agrees left ≡ all
  outcomes-pushed old new rest left all a b more is pushed sofar =
      ap (λ o. o ++ map agrees left) (pushed ∙ ap (λ t. old ++ t ∷ []) is)
      ∙ append_assoc old (agrees a ∷ []) (map agrees left)
      ∙ ap (λ r. old ++ map agrees r) (sym more) ∙ sofar

  pub outcomes-end : (old : List Bool) (rest : List K) (all : List Bool) → rest ≡ [] → old ++ map agrees rest ≡ all → old ≡ all
  outcomes-end old rest all none sofar = sym (append-nil old) ∙ ap (λ r. old ++ map agrees r) (sym none) ∙ sofar

  abbrev numbers : List K → List ℕ
  numbers ks = map number (filter (λ a. not (agrees a)) ks)

  pub numbers-kept : (old new : List ℕ) (rest left : List K) (all : List ℕ) → rest ≡ left → new ≡ old
      → old ++ map number (filter (λ a. not (agrees a)) rest) ≡ all → new ++ map number (filter (λ a. not (agrees a)) left) ≡ all
  numbers-kept old new rest left all same kept sofar = ap₂ (λ o r. o ++ numbers r) kept (sym same) ∙ sofar

  numbers-agreed : (a : K) (ks : List K) → agrees a ≡ true → numbers (a ∷ ks) ≡ numbers ks
  numbers-agreed a ks h = rw h

  numbers-disagreed : (a : K) (ks : List K) → agrees a ≡ false → numbers (a ∷ ks) ≡ number a ∷ numbers ks
  numbers-disagreed a ks h = rw h

  pub numbers-passed : (old new : List ℕ) (rest left : List K) (all : List ℕ) (a : K) → rest ≡ a ∷ left → agrees a ≡ true → new ≡ old
      → old ++ map number (filter (λ a. not (agrees a)) rest) ≡ all → new ++ map number (filter (λ a. not (agrees a)) left) ≡ all
  numbers-passed old new rest left all a more agreed kept sofar =
      ap₂ (λ o r. o ++ r) kept (sym (ap numbers more ∙ numbers-agreed a left agreed)) ∙ sofar

  pub numbers-pushed : (old new : List ℕ) (rest left : List K) (all : List ℕ) (a : K) (n : ℕ) → rest ≡ a ∷ left → agrees a ≡ false → n ≡ number a → new ≡ old ++ n ∷ []
      → old ++ map number (filter (λ a. not (agrees a)) rest) ≡ all → new ++ map number (filter (λ a. not (agrees a)) left) ≡ all
  numbers-pushed old new rest left all a n more apart is pushed sofar =
      ap (λ o. o ++ numbers left) (pushed ∙ ap (λ t. old ++ t ∷ []) is)
      ∙ append_assoc old (number a ∷ []) (numbers left)
      ∙ ap (λ r. old ++ r) (sym (ap numbers more ∙ numbers-disagreed a left apart)) ∙ sofar

  pub numbers-end : (old : List ℕ) (rest : List K) (all : List ℕ) → rest ≡ [] → old ++ map number (filter (λ a. not (agrees a)) rest) ≡ all → old ≡ all
  numbers-end old rest all none sofar = sym (append-nil old) ∙ ap (λ r. old ++ numbers r) (sym none) ∙ sofar
