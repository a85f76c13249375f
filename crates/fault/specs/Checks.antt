-- How an operation refuses: its checks are made in order, and the first that fails decides.
use Rattle.std.specs.Prelude.{Bool, true, false, if◌then◌else◌, List, [], ◌∷◌, Ok, Err, Result}

-- A check: whether it is passed, and the fault that it refuses with where it is not.
abbrev pub Check : Type 0 → Type 0
Check F = Bool × F

-- The answer after all checks: the fault of the first that fails, or x where none does.
abbrev pub decision : {X F : Type 0} → List (Check F) → X → Result X F
decision [] x = Ok x
decision (c ∷ cs) x = if c.0 then decision cs x else Err c.1

-- Whether an answer is granted.
abbrev pub is_granted : {X F : Type 0} → Result X F → Bool
is_granted (Ok _) = true
is_granted (Err _) = false

-- What a place holds after an operation: the new contents where it was granted, and the old ones where it was refused.
abbrev pub by_answer : {X F Y : Type 0} → Result X F → Y → Y → Y
by_answer (Ok _) new old = new
by_answer (Err _) new old = old
