-- What the layers above need of the permutation: a permuted block is as long as the block, and its elements are bytes.
use Rattle.std.proofs.Common.{◌≡◌, ℕ, ◌*◌, ◌<◌, Bool, false, List, length, get_or, refl, ⊎_elim, zero-add, lit<}
use Rattle.std.proofs.lemmas.List.FromFn.{length-map-range_with_len, get_or-map-range_with_len}
use Rattle.std.proofs.lemmas.List.{get_or_past}
use Rattle.std.proofs.lemmas.Bool.{cases_lt}
use Rattle.binary.specs.Bits.{bits, block, byte_of, list_from_fn}
use Rattle.engine.specs.Spongent.{bits_after, spongent}
use Rattle.engine.specs.Keccak.{state_after as keccak_after, keccak, constants}
use Rattle.engine.specs.Permutation.{permutation}
use Rattle.engine.specs.Theorems.{PermutationLaws, constant}
use Rattle.engine.specs.declared.variants.Variant.{Variant}
use Rattle.engine.specs.declared.variants.Variant.TheVariants.{Dumbo, Jumbo, Delirium}
use Rattle.binary.proofs.NumberLaws.{word_lt}
use Rattle.engine.proofs.BitMoves.{moves}
use Rattle.engine.proofs.CallLaws.{granted_by_lengths}

pub block_length : (n : ℕ) (bs : List Bool) → length (block n bs) ≡ n
unfolding block
block_length n bs = length-map-range_with_len (byte_of bs) 0 n

block_byte : (n : ℕ) (bs : List Bool) (k : ℕ) → get_or (block n bs) k 0 < 256
unfolding block
block_byte n bs k =
    ⊎_elim
    (λ h. rw (get_or-map-range_with_len (byte_of bs) 0 n k k 0 h (zero-add k)) (word_lt (λ j. get_or bs j false) (8 * k) 8))
    (λ h. rw (get_or_past (block n bs) k 0 (rw (block_length n bs) h)) (lit< tt))
    (cases_lt k n)

pub permutation_length : (v : Variant) (xs : List ℕ) → length (permutation v xs) ≡ length xs
unfolding permutation spongent keccak
permutation_length Dumbo xs = block_length (length xs) (bits_after 0x75 80 (bits xs))
permutation_length Jumbo xs = block_length (length xs) (bits_after 0x45 90 (bits xs))
permutation_length Delirium xs = block_length (length xs) (keccak_after 18 (bits xs))

pub permutation_byte : (v : Variant) (xs : List ℕ) (k : ℕ) → get_or (permutation v xs) k 0 < 256
unfolding permutation spongent keccak
permutation_byte Dumbo xs k = block_byte (length xs) (bits_after 0x75 80 (bits xs)) k
permutation_byte Jumbo xs k = block_byte (length xs) (bits_after 0x45 90 (bits xs)) k
permutation_byte Delirium xs k = block_byte (length xs) (keccak_after 18 (bits xs)) k

pub constants_from_register : constants ≡ list_from_fn 18 constant
constants_from_register = refl

pub laws : PermutationLaws
laws =
    record {
      bits_move = moves;
      constants_from_register = constants_from_register;
      permutation_keeps_blocks = record { keeps_length = permutation_length; gives_bytes = permutation_byte };
      calls_are_granted_by_length = granted_by_lengths;
    }
