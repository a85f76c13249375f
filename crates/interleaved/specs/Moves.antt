-- Which bit of a word of 32 bits comes to each place.
-- These definitions serve the contracts inside this crate only.
use Rattle.std.specs.Prelude.{◌≡◌, ℕ, ◌+◌, ◌-◌, ◌*◌, ◌/◌, ◌%◌, ◌<◌, Bool, if◌then◌else◌, not, ◌||◌, nat_lt}
use Rattle.binary.specs.Bits.{bit}

-- The place whose bit comes to p where the bits under m change places with those k above.
abbrev pub exchange_source : ℕ → ℕ → ℕ → ℕ
exchange_source k m p = if bit m p then k + p else if nat_lt p k then p else if bit m (p - k) then p - k else p

-- Not both p and the place k below it are under m.
abbrev pub are_apart : ℕ → ℕ → ℕ → Bool
are_apart k m p = not (bit m p) || (nat_lt p k || not (bit m (p - k)))

-- At each place p, y has the bit of x at s p.
abbrev pub Moved : (ℕ → ℕ) → ℕ → ℕ → Type 0
Moved s x y = (p : ℕ) → p < 32 → bit y p ≡ bit x (s p)

-- Place 4 z + i takes bit z of byte i.
abbrev pub weave_source : ℕ → ℕ
weave_source p = 8 * (p % 4) + p / 4

-- Bit z of byte i takes place 4 z + i.
abbrev pub unweave_source : ℕ → ℕ
unweave_source p = 4 * (p % 8) + p / 8
