-- The published values of the permutations: Keccak-f[200] of zeros and of that again, and a hash by SPONGENT-160/160/16, whose
-- permutation is Jumbo's.
use Rattle.std.specs.Prelude.{ℕ, zero, suc, Bool, false, ◌&&◌, if◌then◌else◌, ◌==◌, List, [], ◌∷◌, ◌++◌, length, take, replicate, Ok, Err, Result}
use Rattle.std.specs.Str.{bytes_eq}
use Rattle.fault.specs.Checks.{is_granted}
use Rattle.hex.specs.Hex.{decode_sized}
use Rattle.hex.specs.declared.error.FromHexError.{FromHexError}
use Rattle.engine.specs.declared.variants.Variant.{Variant}
use Rattle.engine.specs.declared.faults.EngineFault.{EngineFault}
use Rattle.engine.specs.declared.faults.EngineFault.TheVariants.{BlockLength}
use Rattle.engine.specs.Permutation.{block_size, permutation}
use Rattle.engine.specs.Calls.{one_answer, one_after}
use Rattle.cipher.specs.Blocks.{xor_of}

-- Whether decoded digits are these bytes.
abbrev pub is_decoding : Result (List ℕ) FromHexError → List ℕ → Bool
is_decoding (Ok decoding) bytes = bytes_eq decoding bytes
is_decoding (Err e) bytes = false

-- Whether these are the bytes that hexadecimal digits write.
abbrev pub is_writing : List ℕ → List ℕ → Bool
is_writing digits bytes = is_decoding (decode_sized digits (length bytes)) bytes

-- Whether the permutation of a block is granted and is what the digits write.
abbrev pub is_permutation : Variant → List ℕ → List ℕ → Bool
is_permutation v block digits = is_granted (one_answer v block) && is_writing digits (one_after v block)

-- The trials of Keccak's values: zeros are permuted, and what comes of them once more.
abbrev pub keccak_trials : Variant → List ℕ → List ℕ → List Bool
keccak_trials v once twice =
    let zeros = replicate 25 0 in
    is_permutation v zeros once ∷ is_permutation v (one_after v zeros) twice ∷ []

-- The state of a sponge after a message: two bytes at a time are absorbed into its first two bytes, and f permutes it after each
-- pair. The byte 80 (hexadecimal) follows the message, and a zero where there is room.
unfoldable pub sponge_state : (List ℕ → List ℕ) → List ℕ → List ℕ → List ℕ
sponge_state f s [] = f (xor_of s (0x80 ∷ 0 ∷ []))
sponge_state f s (a ∷ []) = f (xor_of s (a ∷ 0x80 ∷ []))
sponge_state f s (a ∷ b ∷ message) = sponge_state f (f (xor_of s (a ∷ b ∷ []))) message

-- The output of a sponge, k pairs of bytes: the first two bytes of the state, which f permutes after each pair.
unfoldable pub sponge_output : (List ℕ → List ℕ) → ℕ → List ℕ → List ℕ
sponge_output f zero s = []
sponge_output f (suc k) s = take 2 s ++ sponge_output f k (f s)

-- What an engine gives for a call that needs blocks of 22 bytes.
abbrev pub at_22_bytes : {X : Type 0} → Variant → X → Result X EngineFault
at_22_bytes v x = if block_size v == 22 then Ok x else Err BlockLength

-- The hash of a message, 20 bytes, by a sponge over the permutation of a variant with blocks of 22 bytes.
abbrev pub hash_answer : Variant → List ℕ → Result (List ℕ) EngineFault
hash_answer v message = at_22_bytes v (sponge_output (permutation v) 10 (sponge_state (permutation v) (replicate 22 0) message))

-- Whether a hash is granted and is what the digits write.
abbrev pub is_hash : Result (List ℕ) EngineFault → List ℕ → Bool
is_hash (Ok hash) digits = is_writing digits hash
is_hash (Err e) digits = false

-- The trial of the hash.
abbrev pub spongent_trials : Variant → List ℕ → List ℕ → List Bool
spongent_trials v message digest = is_hash (hash_answer v message) digest ∷ []
