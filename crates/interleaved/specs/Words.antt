-- The layers of Keccak on 25 words of 32 bits: bit 4 z + i of word 5 y + x is bit z of lane (x, y) of block i of four.
-- These definitions serve the contracts inside this crate only: what the engine promises is said in the engine layer's words.
use Rattle.std.specs.Prelude.{ℕ, zero, suc, ◌+◌, ◌-◌, ◌*◌, ◌/◌, ◌%◌, ◌^◌, List, bit_and, bit_or, bit_xor, slice_index, slice_set}
use Rattle.binary.specs.Bits.{bit, list_from_fn, word}
use Rattle.engine.specs.Keccak.{offsets, constants}

-- Word (x, y).
abbrev pub lane : List ℕ → ℕ → ℕ → ℕ
lane ws x y = slice_index ws (5 * y + x)

-- Word l where word (x, y) is G x y.
abbrev pub by_lane : (ℕ → ℕ → ℕ) → ℕ → ℕ
by_lane G l = G (l % 5) (l / 5)

-- The 25 words of which word (x, y) is G x y.
abbrev pub words : (ℕ → ℕ → ℕ) → List ℕ
words G = list_from_fn 25 (by_lane G)

-- A word turned by r places towards the higher bits.
abbrev pub turn : ℕ → ℕ → ℕ
turn r n = bit_or ((n * 2 ^ (r % 32)) % 2 ^ 32) (n / 2 ^ ((32 - r % 32) % 32))

-- The sum of the five words of a column.
abbrev pub w_column : List ℕ → ℕ → ℕ
w_column ws x = bit_xor (bit_xor (bit_xor (bit_xor (lane ws x 0) (lane ws x 1)) (lane ws x 2)) (lane ws x 3)) (lane ws x 4)

-- The five layers, each by its word (x, y). A turn by one bit of each block is a turn of the word by four places.
abbrev pub w_theta : List ℕ → ℕ → ℕ → ℕ
w_theta ws x y = bit_xor (lane ws x y) (bit_xor (w_column ws ((x + 4) % 5)) (turn 4 (w_column ws ((x + 1) % 5))))

abbrev pub w_rho : List ℕ → ℕ → ℕ → ℕ
w_rho ws x y = turn (4 * (slice_index offsets (5 * y + x) % 8)) (lane ws x y)

abbrev pub w_pi : List ℕ → ℕ → ℕ → ℕ
w_pi ws x y = lane ws ((x + 3 * y) % 5) x

abbrev pub w_chi : List ℕ → ℕ → ℕ → ℕ
w_chi ws x y = bit_xor (lane ws x y) (bit_and (4294967295 - lane ws ((x + 1) % 5) y) (lane ws ((x + 2) % 5) y))

-- The word of four bytes, byte i of them being f i: bit z of byte i comes to place 4 z + i.
abbrev pub woven_word : (ℕ → ℕ) → ℕ
woven_word f = word (λ k. bit (f (k % 4)) (k / 4)) 0 32

-- The first word has k added.
abbrev pub w_add : ℕ → List ℕ → List ℕ
w_add k ws = slice_set ws 0 (bit_xor (slice_index ws 0) k)

-- A constant goes to each of the four blocks.
abbrev pub w_iota : ℕ → List ℕ → List ℕ
w_iota c ws = w_add (woven_word (λ _. c)) ws

-- The layers of a round before iota.
abbrev pub w_layers : List ℕ → List ℕ
w_layers ws = words (w_chi (words (w_pi (words (w_rho (words (w_theta ws)))))))

-- One round with constant c.
unfoldable pub w_round : ℕ → List ℕ → List ℕ
w_round c ws = w_iota c (w_layers ws)

-- The words after k rounds.
unfoldable pub w_after : ℕ → List ℕ → List ℕ
w_after zero ws = ws
w_after (suc k) ws = w_round (slice_index constants k) (w_after k ws)

-- Byte l of each of four neighbouring blocks in one word. Where there are fewer blocks, the others' bits are 0.
abbrev pub word_at : List ℕ → ℕ → ℕ
word_at xs l = woven_word (λ i. slice_index xs (25 * i + l))

-- The words of up to four neighbouring blocks.
unfoldable pub words_of_blocks : List ℕ → List ℕ
words_of_blocks xs = list_from_fn 25 (word_at xs)

-- The byte of block i in a word.
abbrev pub byte_in : ℕ → ℕ → ℕ
byte_in w i = word (λ z. bit w (4 * z + i)) 0 8

-- The blocks xs where byte l of each is that of a word.
abbrev pub blocks_with_word : ℕ → ℕ → List ℕ → List ℕ
blocks_with_word w l xs = slice_set (slice_set (slice_set (slice_set xs l (byte_in w 0)) (25 + l) (byte_in w 1)) (50 + l) (byte_in w 2)) (75 + l) (byte_in w 3)

-- Byte p of the neighbouring blocks that the words hold.
abbrev pub stored_byte : List ℕ → ℕ → ℕ
stored_byte ws p = byte_in (slice_index ws (p % 25)) (p / 25)

-- The first n bytes of the blocks.
unfoldable pub blocks_of_words : ℕ → List ℕ → List ℕ
blocks_of_words n ws = list_from_fn n (stored_byte ws)
