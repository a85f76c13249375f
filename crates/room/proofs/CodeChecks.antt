-- Facts about answers and about checks in order.
use Rattle.std.proofs.Common.{◌≡◌, ℕ, Bool, true, false, cond, List, [], ◌∷◌, ◌++◌, Ok, Err, Result, sym, ap, arith}
use Rattle.fault.specs.Checks.{Check, decision}

-- What a grant answers, and what a refusal tells.
abbrev pub value : {X F : Type 0} → X → Result X F → X
value d (Ok x) = x
value d (Err f) = d

abbrev pub reason : {X F : Type 0} → F → Result X F → F
reason d (Ok x) = d
reason d (Err f) = f

abbrev grants : {X F : Type 0} → Result X F → ℕ
grants (Ok x) = 1
grants (Err f) = 0

pub not_both : {X F : Type 0} (x : X) (f : F) → ◌≡◌ {A = Result X F} (Ok x) (Err f) → ⊥
not_both x f h = let z : ◌≡◌ {A = ℕ} 1 0 = ap grants h in absurd (omega arith)

pub same_value : {X F : Type 0} (x y : X) → ◌≡◌ {A = Result X F} (Ok x) (Ok y) → x ≡ y
same_value x y h = ap (value x) h

pub same_reason : {X F : Type 0} (f g : F) → ◌≡◌ {A = Result X F} (Err f) (Err g) → f ≡ g
same_reason f g h = ap (reason f) h

-- Where the first checks refuse, all of them do.
pub decided_front : {X Y F : Type 0} (cs ds : List (Check F)) (x : X) (y : Y) (f : F) → ◌≡◌ {A = Result X F} (Err f) (decision cs x) → ◌≡◌ {A = Result Y F} (decision (cs ++ ds) y) (Err f)
decided_front [] ds x y f h = absurd (not_both x f (sym h))
decided_front {X} {Y} {F} (c ∷ cs) ds x y f h = go c.0 (decided_front cs ds x y f) h
  where
    go : (t : Bool) → (◌≡◌ {A = Result X F} (Err f) (decision cs x) → ◌≡◌ {A = Result Y F} (decision (cs ++ ds) y) (Err f)) → ◌≡◌ {A = Result X F} (Err f) (cond t (decision cs x) (Err c.1)) → ◌≡◌ {A = Result Y F} (cond t (decision (cs ++ ds) y) (Err c.1)) (Err f)
    go true ih h = ih h
    go false ih h = ap (λ g. Err g) (sym (same_reason f c.1 h))
