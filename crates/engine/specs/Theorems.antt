-- Laws of the definitions that the public documents state in other words.
use Rattle.std.specs.Prelude.{◌≡◌, ℕ, zero, suc, ◌+◌, ◌*◌, ◌%◌, ◌<◌, Bool, true, false, ◌↔◌, if◌then◌else◌, List, length, bit_xor, nat_lt, slice_index, slice_index_or}
use Rattle.fault.specs.Checks.{is_granted}
use Rattle.binary.specs.Bits.{list_from_fn}
use Rattle.engine.specs.Spongent.{place, move}
use Rattle.engine.specs.Keccak.{constants}
use Rattle.engine.specs.Permutation.{block_size, permutation, each}
use Rattle.engine.specs.Calls.{one_answer, one_after, four_answer, four_after}
use Rattle.engine.specs.declared.variants.Variant.{Variant}

-- At every width that is a multiple of four, the bit layer takes bit j to the place that the document's rule gives it.
abbrev pub BitsMoveToTheirPlaces : Type 0
BitsMoveToTheirPlaces = (bs : List Bool) (j : ℕ) → length bs % 4 ≡ 0 → j < length bs → slice_index_or (move bs) (place (length bs) j) false ≡ slice_index_or bs j false

-- The shift register that gives the bits of Keccak's round constants, after t steps.
abbrev pub register : ℕ → ℕ
register zero = 1
register (suc t) = if nat_lt (2 * register t) 256 then 2 * register t else bit_xor (2 * register t) 0x171

-- Its output bit after t steps.
abbrev pub rc : ℕ → ℕ
rc t = register t % 2

-- Bit 2^j - 1 of the constant of round i is output bit j + 7 i.
abbrev pub constant : ℕ → ℕ
constant i = rc (7 * i) + 2 * rc (1 + 7 * i) + 8 * rc (2 + 7 * i) + 128 * rc (3 + 7 * i)

-- The eighteen constants are those of the shift register.
abbrev pub ConstantsComeFromTheRegister : Type 0
ConstantsComeFromTheRegister = constants ≡ list_from_fn 18 constant

-- A permuted block is as long as the block, and its elements are bytes.
pub record PermutationKeepsBlocks : Type 0 where
  pub keeps_length : (v : Variant) (xs : List ℕ) → length (permutation v xs) ≡ length xs
  pub gives_bytes : (v : Variant) (xs : List ℕ) (k : ℕ) → slice_index (permutation v xs) k < 256

-- A call is granted exactly where the place holds one block, or four, and then permutes each; a refused one leaves the place as it was.
pub record CallsAreGrantedByLength : Type 0 where
  pub one_is_granted_exactly_where_there_is_one_block :
      (v : Variant) (xs : List ℕ) → (is_granted (one_answer v xs) ≡ true) ↔ (length xs ≡ block_size v)
  pub four_is_granted_exactly_where_there_are_four :
      (v : Variant) (xs : List ℕ) → (is_granted (four_answer v xs) ≡ true) ↔ (length xs ≡ 4 * block_size v)
  pub one_permutes_the_block : (v : Variant) (xs : List ℕ) → is_granted (one_answer v xs) ≡ true → one_after v xs ≡ permutation v xs
  pub four_permutes_each :
      (v : Variant) (xs : List ℕ) → is_granted (four_answer v xs) ≡ true → four_after v xs ≡ each (permutation v) (block_size v) 4 xs
  pub a_refused_call_leaves_the_place :
      (v : Variant) (xs : List ℕ)
      → (is_granted (one_answer v xs) ≡ false → one_after v xs ≡ xs) × (is_granted (four_answer v xs) ≡ false → four_after v xs ≡ xs)

-- The laws together.
pub record PermutationLaws : Type 0 where
  pub bits_move : BitsMoveToTheirPlaces
  pub constants_from_register : ConstantsComeFromTheRegister
  pub permutation_keeps_blocks : PermutationKeepsBlocks
  pub calls_are_granted_by_length : CallsAreGrantedByLength
