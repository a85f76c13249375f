-- Blocks in words, and what the steps of a round do to them: the terms of the contracts between the functions of this crate.
use Rattle.std.specs.Prelude.{◌≡◌, ℕ, ◌+◌, ◌*◌, ◌/◌, ◌%◌, ◌<◌, ◌≤◌, Bool, false, List, [], ◌∷◌, take, drop, slice_index, slice_index_or}
use Rattle.binary.specs.Bits.{bit, value}
use Rattle.engine.specs.Spongent.{table}
use Rattle.circuit.specs.declared.planes.Planes.{Planes}

-- A width of 40 or 44 bits: a quarter of a block of Dumbo or of Jumbo.
abbrev pub Wide : ℕ → Type 0
Wide m = (40 ≤ m) × (m ≤ 44) × (m % 4 ≡ 0)

-- A word by its bits.
abbrev pub Bits : Type 0
Bits = ℕ → Bool

-- The bits of a word of one block, and of the words of four blocks in lanes. Lanes are counted modulo 4, so that what is said of gates needs no
-- bound on the block's number.
abbrev pub one_at : ℕ → ℕ → Bits
one_at x i k = bit x k

abbrev pub four_at : List ℕ → ℕ → Bits
four_at x i k = bit (slice_index x (i % 4)) k

-- The four words of block i, where `at` gives the bits of a word.
abbrev pub of_block : {W : Type 0} → (W → ℕ → Bits) → Planes W → ℕ → List Bits
of_block at p i = at p.a i ∷ at p.b i ∷ at p.c i ∷ at p.d i ∷ []

-- Bit k of word t.
abbrev pub word_bit : List Bits → ℕ → ℕ → Bool
word_bit ws t k = slice_index_or ws t (λ _. false) k

-- Bit t of the table's entry at the half byte of the bits a, b, c and d, lowest first.
abbrev pub entry : Bool → Bool → Bool → Bool → ℕ → Bool
entry a b c d t = bit (slice_index table (value (a ∷ b ∷ c ∷ d ∷ []) 0 4)) t

-- At each place the half byte of the four words' bits is substituted.
abbrev pub Substituted : List Bits → List Bits → Type 0
Substituted p r = (k t : ℕ) → k < 64 → t < 4 → word_bit r t k ≡ entry (word_bit p 0 k) (word_bit p 1 k) (word_bit p 2 k) (word_bit p 3 k) t

-- Bit j of a block that lies in words of m bits.
abbrev pub block_bit : ℕ → List Bits → ℕ → Bool
block_bit m ws j = word_bit ws (j / m) (j % m)

-- Bit j of a block that lies in rows by sequences of 16 bits: row r has the sequences r, r + 4, r + 8 and on.
abbrev pub row_bit : List Bits → ℕ → Bool
row_bit rs j = word_bit rs (j / 16 % 4) (j / 64 * 16 + j % 16)

-- The rows hold the block that lies in words of m bits.
abbrev pub InRows : ℕ → List Bits → List Bits → Type 0
InRows m ws rs = (j : ℕ) → j < m * 4 → row_bit rs j ≡ block_bit m ws j

-- Word t has the bits t, t + 4, t + 8 and on of the rows.
abbrev pub Unzipped : List Bits → List Bits → Type 0
Unzipped rs ps = (k t : ℕ) → k < 64 → t < 4 → word_bit ps t k ≡ row_bit rs (k * 4 + t)

-- Word t has the bits t, t + 4, t + 8 and on of the block that lies in words of m bits.
abbrev pub Gathered : ℕ → List Bits → List Bits → Type 0
Gathered m ws ps = (k t : ℕ) → k < m → t < 4 → word_bit ps t k ≡ block_bit m ws (k * 4 + t)

-- The words, of m bits each, hold the bits bs.
abbrev pub Holds : ℕ → List Bits → List Bool → Type 0
Holds m ws bs = (j : ℕ) → j < m * 4 → block_bit m ws j ≡ slice_index_or bs j false

-- Block i of blocks of n bytes side by side.
abbrev pub block_at : ℕ → ℕ → List ℕ → List ℕ
block_at n i xs = take n (drop (i * n) xs)
