-- What the moves of bits in words do: the terms of the contracts between the functions of this crate.
use Rattle.std.specs.Prelude.{◌≡◌, ℕ, ◌+◌, ◌-◌, ◌<◌, false, if◌then◌else◌, ◌&&◌, nat_lt}
use Rattle.binary.specs.Bits.{bit}
use Rattle.circuit.specs.Planes.{Bits}

-- r has the bits of x where the mask has ones, and zeros elsewhere.
pub record Masked (mask : ℕ) (x r : Bits) : Type 0 where
  pub at : (k : ℕ) → k < 64 → r k ≡ (x k && bit mask k)

-- r and s are lo and hi after the bits of hi where the mask has ones have changed places with those of lo n places above.
pub record Crossed (n mask : ℕ) (lo hi r s : Bits) : Type 0 where
  pub below : (k : ℕ) → k < 64 → r k ≡ (if nat_lt k n then lo k else if bit mask (k - n) then hi (k - n) else lo k)
  pub above : (k : ℕ) → k < 64 → s k ≡ (if bit mask k then if nat_lt (n + k) 64 then lo (n + k) else false else hi k)
