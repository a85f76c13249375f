-- Bytes with one bit changed.
use Rattle.std.specs.Prelude.{ℕ, ◌/◌, ◌%◌, ◌^◌, List, length, bit_xor, slice_index, slice_set}

-- The byte in which bit n is changed, counted through the bytes again and again.
abbrev pub place_of : ℕ → List ℕ → ℕ
place_of n bytes = n % length bytes

-- Bytes with bit n changed; n counts through the bytes, and then through the bits of each.
abbrev pub changed : ℕ → List ℕ → List ℕ
changed n bytes =
    slice_set bytes (place_of n bytes) (bit_xor (slice_index bytes (place_of n bytes)) (2 ^ (n / length bytes % 8)))
