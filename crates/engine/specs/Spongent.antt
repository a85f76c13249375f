-- Spongent, the permutation of Dumbo and Jumbo, on the bits of a block of any width b.
use Rattle.std.specs.Prelude.{ℕ, zero, suc, ◌+◌, ◌-◌, ◌*◌, ◌/◌, ◌%◌, Bool, false, if◌then◌else◌, List, [], ◌∷◌, length, ◌==◌, nat_lt, slice_index, slice_index_or}
use Rattle.binary.specs.Bits.{bit, bit_number, differs, list_from_fn, bits, value, block}

-- The seven-bit counter moves left one place, and its new lowest bit is the exclusive or of its two highest old bits.
unfoldable pub next_counter : ℕ → ℕ
next_counter c = c * 2 % 128 + bit_number (differs (bit c 6) (bit c 5))

-- The counter of round k, counted from 0, where it starts at c.
unfoldable pub counter : ℕ → ℕ → ℕ
counter c zero = c
counter c (suc k) = next_counter (counter c k)

-- The bit that the counter c adds at place j of b: c itself into the first byte, and c with its eight bits reversed into the last.
abbrev pub counter_bit : ℕ → ℕ → ℕ → Bool
counter_bit b c j = differs (if nat_lt j 8 then bit c j else false) (if nat_lt j (b - 8) then false else bit c (b - 1 - j))

-- Bit j after the counter is added.
abbrev pub bit_with_counter : ℕ → List Bool → ℕ → Bool
bit_with_counter c bs j = differs (slice_index_or bs j false) (counter_bit (length bs) c j)

-- The counter layer.
unfoldable pub with_counter : ℕ → List Bool → List Bool
with_counter c bs = list_from_fn (length bs) (bit_with_counter c bs)

-- The substitution of half bytes: v becomes entry v (E D B 0 2 1 4 F 7 A 8 5 9 C 3 6 in hexadecimal).
abbrev pub table : List ℕ
table = 14 ∷ 13 ∷ 11 ∷ 0 ∷ 2 ∷ 1 ∷ 4 ∷ 15 ∷ 7 ∷ 10 ∷ 8 ∷ 5 ∷ 9 ∷ 12 ∷ 3 ∷ 6 ∷ []

-- Bit j after each half byte is substituted.
abbrev pub substituted_bit : List Bool → ℕ → Bool
substituted_bit bs j = bit (slice_index table (value bs (j / 4 * 4) 4)) (j % 4)

-- The substitution layer.
unfoldable pub substitute : List Bool → List Bool
substitute bs = list_from_fn (length bs) (substituted_bit bs)

-- The place to which bit j of b moves: j (b / 4) modulo b - 1, and the last bit stays.
abbrev pub place : ℕ → ℕ → ℕ
place b j = if j == b - 1 then j else j * (b / 4) % (b - 1)

-- The bit that comes to place p of b: each quarter of the result has the bits of one remainder modulo 4.
abbrev pub source : ℕ → ℕ → ℕ
source b p = p % (b / 4) * 4 + p / (b / 4)

-- Bit p after all bits have moved.
abbrev pub moved_bit : List Bool → ℕ → Bool
moved_bit bs p = slice_index_or bs (source (length bs) p) false

-- The bit layer. That bit j comes to `place b j` is a theorem on a contract: BitsMoveToTheirPlaces.
unfoldable pub move : List Bool → List Bool
move bs = list_from_fn (length bs) (moved_bit bs)

-- One round at counter c.
unfoldable pub round : ℕ → List Bool → List Bool
round c bs = move (substitute (with_counter c bs))

-- The bits after k rounds, where the counter starts at c.
unfoldable pub bits_after : ℕ → ℕ → List Bool → List Bool
bits_after c zero bs = bs
bits_after c (suc k) bs = round (counter c k) (bits_after c k bs)

-- Spongent of a block, by the counter's start and the number of rounds.
unfoldable pub spongent : ℕ → ℕ → List ℕ → List ℕ
spongent c rounds xs = block (length xs) (bits_after c rounds (bits xs))
