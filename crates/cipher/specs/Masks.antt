-- The masks of the cipher: phi1 and phi2 of a block, and mask (i, j).
use Rattle.std.specs.Prelude.{ℕ, ◌-◌, ◌*◌, ◌/◌, ◌%◌, ◌^◌, List, [], ◌∷◌, ◌++◌, drop, bit_or, bit_xor, slice_index}
use Rattle.engine.specs.Permutation.{permutation, block_size}
use Rattle.engine.specs.declared.variants.Variant.{Variant}
use Rattle.engine.specs.declared.variants.Variant.TheVariants.{Dumbo, Jumbo, Delirium}
use Rattle.cipher.specs.Blocks.{padded_part, xor_of, iterate}

-- Eight bits rotated left by r places (<<<), and moved left (<<) or right (>>) by r places with the loss of the bits that leave.
abbrev pub rotated_byte : ℕ → ℕ → ℕ
rotated_byte r x = bit_or ((x * 2 ^ r) % 2 ^ 8) (x / 2 ^ (8 - r))

abbrev pub shifted_up : ℕ → ℕ → ℕ
shifted_up r x = (x * 2 ^ r) % 2 ^ 8

abbrev pub shifted_down : ℕ → ℕ → ℕ
shifted_down r x = x / 2 ^ r

-- Byte i of a block.
abbrev pub byte : List ℕ → ℕ → ℕ
byte b i = slice_index b i

-- The byte that phi1 appends.
abbrev pub appended_byte : Variant → List ℕ → ℕ
appended_byte Dumbo b = bit_xor (bit_xor (rotated_byte 3 (byte b 0)) (shifted_up 7 (byte b 3))) (shifted_down 7 (byte b 13))
appended_byte Jumbo b = bit_xor (bit_xor (rotated_byte 1 (byte b 0)) (shifted_up 7 (byte b 3))) (shifted_down 7 (byte b 19))
appended_byte Delirium b = bit_xor (bit_xor (rotated_byte 1 (byte b 0)) (rotated_byte 1 (byte b 2))) (shifted_up 1 (byte b 13))

-- phi1 drops byte 0 of a block and appends one byte.
unfoldable pub phi1 : Variant → List ℕ → List ℕ
phi1 v b = drop 1 b ++ (appended_byte v b ∷ [])

-- phi2 of a block is phi1 of it, xored with the block.
unfoldable pub phi2 : Variant → List ℕ → List ℕ
phi2 v b = xor_of (phi1 v b) b

-- The first mask: the permutation of the key followed by zeros.
unfoldable pub first_mask : Variant → List ℕ → List ℕ
first_mask v key = permutation v (padded_part (block_size v) key)

-- mask (i, j): phi1 applied i times and then phi2 applied j times to the first mask.
unfoldable pub mask : Variant → List ℕ → ℕ → ℕ → List ℕ
mask v first i j = iterate (phi2 v) j (iterate (phi1 v) i first)
