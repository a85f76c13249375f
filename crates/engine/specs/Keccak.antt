-- Keccak-f[200], the permutation of Delirium, on the bits of a block of 25 bytes: byte 5 y + x is lane (x, y), and z counts its bits.
use Rattle.std.specs.Prelude.{ℕ, zero, suc, ◌+◌, ◌-◌, ◌*◌, ◌/◌, ◌%◌, Bool, false, not, ◌&&◌, List, [], ◌∷◌, length, ◌==◌, slice_index, slice_index_or}
use Rattle.binary.specs.Bits.{bit, differs, list_from_fn, bits, block}

-- Bit (x, y, z) of a state.
abbrev pub lane_bit : List Bool → ℕ → ℕ → ℕ → Bool
lane_bit s x y z = slice_index_or s (8 * (5 * y + x) + z) false

-- Bit j of the state whose bit (x, y, z) is F x y z.
abbrev pub by_coordinates : (ℕ → ℕ → ℕ → Bool) → ℕ → Bool
by_coordinates F j = F (j / 8 % 5) (j / 8 / 5) (j % 8)

-- The sum of the five bits of a column.
abbrev pub column : List Bool → ℕ → ℕ → Bool
column s x z = differs (differs (differs (differs (lane_bit s x 0 z) (lane_bit s x 1 z)) (lane_bit s x 2 z)) (lane_bit s x 3 z)) (lane_bit s x 4 z)

-- Theta adds to each bit two neighbouring columns.
abbrev pub theta_at : List Bool → ℕ → ℕ → ℕ → Bool
theta_at s x y z = differs (lane_bit s x y z) (differs (column s ((x + 4) % 5) z) (column s ((x + 1) % 5) ((z + 7) % 8)))

-- The offsets of rho, at 5 y + x.
abbrev pub offsets : List ℕ
offsets = 0 ∷ 1 ∷ 190 ∷ 28 ∷ 91 ∷ 36 ∷ 300 ∷ 6 ∷ 55 ∷ 276 ∷ 3 ∷ 10 ∷ 171 ∷ 153 ∷ 231 ∷ 105 ∷ 45 ∷ 15 ∷ 21 ∷ 136 ∷ 210 ∷ 66 ∷ 253 ∷ 120 ∷ 78 ∷ []

-- Rho rotates each lane towards the higher bits by its offset modulo 8.
abbrev pub rho_at : List Bool → ℕ → ℕ → ℕ → Bool
rho_at s x y z = lane_bit s x y ((z + (8 - slice_index offsets (5 * y + x) % 8)) % 8)

-- Pi moves the lanes.
abbrev pub pi_at : List Bool → ℕ → ℕ → ℕ → Bool
pi_at s x y z = lane_bit s ((x + 3 * y) % 5) x z

-- Chi adds to each bit the product of the next one's complement and the one after that.
abbrev pub chi_at : List Bool → ℕ → ℕ → ℕ → Bool
chi_at s x y z = differs (lane_bit s x y z) (not (lane_bit s ((x + 1) % 5) y z) && lane_bit s ((x + 2) % 5) y z)

-- Iota adds a constant to lane (0, 0).
abbrev pub iota_at : ℕ → List Bool → ℕ → ℕ → ℕ → Bool
iota_at c s x y z = differs (lane_bit s x y z) (5 * y + x == 0 && bit c z)

-- The five layers, each over the whole state.
unfoldable pub theta : List Bool → List Bool
theta s = list_from_fn (length s) (by_coordinates (theta_at s))

unfoldable pub rho : List Bool → List Bool
rho s = list_from_fn (length s) (by_coordinates (rho_at s))

unfoldable pub pi : List Bool → List Bool
pi s = list_from_fn (length s) (by_coordinates (pi_at s))

unfoldable pub chi : List Bool → List Bool
chi s = list_from_fn (length s) (by_coordinates (chi_at s))

unfoldable pub iota : ℕ → List Bool → List Bool
iota c s = list_from_fn (length s) (by_coordinates (iota_at c s))

-- The constants of the rounds (01 82 8A 00 8B 01 81 09 8A 88 09 0A 8B 8B 89 03 02 80 in hexadecimal).
abbrev pub constants : List ℕ
constants = 1 ∷ 130 ∷ 138 ∷ 0 ∷ 139 ∷ 1 ∷ 129 ∷ 9 ∷ 138 ∷ 136 ∷ 9 ∷ 10 ∷ 139 ∷ 139 ∷ 137 ∷ 3 ∷ 2 ∷ 128 ∷ []

-- One round with constant c.
unfoldable pub round : ℕ → List Bool → List Bool
round c s = iota c (chi (pi (rho (theta s))))

-- The state after k rounds.
unfoldable pub state_after : ℕ → List Bool → List Bool
state_after zero s = s
state_after (suc k) s = round (slice_index constants k) (state_after k s)

-- Keccak-f[200] of a block, by the number of rounds.
unfoldable pub keccak : ℕ → List ℕ → List ℕ
keccak rounds xs = block (length xs) (state_after rounds (bits xs))
