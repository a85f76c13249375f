-- There is one, and no other.
use Rattle.std.specs.Prelude.{◌≡◌}

-- Exactly one x is such that P x.
abbrev pub ExactlyOne : {X : Type 0} → (X → Type 0) → Type 0
ExactlyOne {X} P = (x : X) × P x × ((y : X) → P y → y ≡ x)
