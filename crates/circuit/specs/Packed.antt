-- A block in words that are numbers, one after another.
use Rattle.std.specs.Prelude.{ℕ, ◌/◌, ◌%◌, Bool, List, slice_index}
use Rattle.binary.specs.Bits.{bit}

-- Bit j of a block in words of m bits.
abbrev pub packed_bit : ℕ → List ℕ → ℕ → Bool
packed_bit m ws j = bit (slice_index ws (j / m)) (j % m)
