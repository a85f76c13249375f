-- The bits of numbers and of blocks. Bit j of a block is bit j mod 8 of byte j div 8, the least bit being 0.
use Rattle.std.specs.Prelude.{ℕ, zero, suc, ◌+◌, ◌*◌, ◌/◌, ◌%◌, ◌^◌, Bool, false, not, if◌then◌else◌, List, map, length, ◌==◌, slice_index, slice_index_or}
use Rattle.std.specs.Bool.{beq}
use Rattle.std.specs.List.{range_with_len}

-- Bit k of the number x.
abbrev pub bit : ℕ → ℕ → Bool
bit x k = x / 2 ^ k % 2 == 1

-- A bit as a number, 1 or 0.
abbrev pub bit_number : Bool → ℕ
bit_number b = if b then 1 else 0

-- Exclusive or: whether two bits differ.
abbrev pub differs : Bool → Bool → Bool
differs a b = not (beq a b)

-- The list f 0, f 1, .. of length n.
abbrev pub list_from_fn : {X : Type 0} → ℕ → (ℕ → X) → List X
list_from_fn n f = map f (range_with_len 0 n)

-- Bit j of a block.
abbrev pub bit_of : List ℕ → ℕ → Bool
bit_of xs j = bit (slice_index xs (j / 8)) (j % 8)

-- All bits of a block, in order.
unfoldable pub bits : List ℕ → List Bool
bits xs = list_from_fn (8 * length xs) (bit_of xs)

-- The number whose bits are f p, f (p + 1), .., w of them, the lowest first.
abbrev pub word : (ℕ → Bool) → ℕ → ℕ → ℕ
word f p zero = 0
word f p (suc w) = bit_number (f p) + 2 * word f (p + 1) w

-- The number whose bits are those of bs from place p on, w of them.
abbrev pub value : List Bool → ℕ → ℕ → ℕ
value bs p w = word (λ j. slice_index_or bs j false) p w

-- Byte k of the block that has the bits bs.
abbrev pub byte_of : List Bool → ℕ → ℕ
byte_of bs k = value bs (8 * k) 8

-- The block of n bytes that has the bits bs.
unfoldable pub block : ℕ → List Bool → List ℕ
block n bs = list_from_fn n (byte_of bs)
