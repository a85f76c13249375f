-- Checks: an answer is granted exactly where each of them is passed, and is else the fault of the first that fails.
use Rattle.std.proofs.Common.{◌≡◌, Bool, true, false, cond, ◌↔◌, List, [], ◌∷◌, Err, Result, refl, ap, ◌∙◌}
use Rattle.std.specs.List.{AllByRecursion}
use Rattle.std.proofs.lemmas.Bool.{false≢true}
use Rattle.fault.specs.Checks.{Check, decision, is_granted}

-- Each check is passed.
abbrev pub AllPassed : {F : Type 0} → List (Check F) → Type 0
AllPassed cs = AllByRecursion (λ c. c.0 ≡ true) cs

one_passed : {X F : Type 0} (b : Bool) (r : Result X F) (f : F) → is_granted (cond b r (Err f)) ≡ true → (b ≡ true) × (is_granted r ≡ true)
one_passed true r f e = (refl, e)
one_passed false r f e = absurd (false≢true e)

all_passed : {X F : Type 0} (cs : List (Check F)) (x : X) → is_granted (decision cs x) ≡ true → AllPassed cs
all_passed [] x e = tt
all_passed (c ∷ cs) x e = let p = one_passed c.0 (decision cs x) c.1 e in (p.0, all_passed cs x p.1)

all_pass : {X F : Type 0} (cs : List (Check F)) (x : X) → AllPassed cs → is_granted (decision cs x) ≡ true
all_pass [] x p = refl
all_pass (c ∷ cs) x p = ap (λ b. is_granted (cond b (decision cs x) (Err c.1))) p.0 ∙ all_pass cs x p.1

pub granted_exactly_where_passed : {X F : Type 0} (cs : List (Check F)) (x : X) → (is_granted (decision cs x) ≡ true) ↔ AllPassed cs
granted_exactly_where_passed cs x = (all_passed cs x, all_pass cs x)
