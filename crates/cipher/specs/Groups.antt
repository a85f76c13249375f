-- How the program holds blocks, and how it groups parts: four at a time, or one where that is enough.
use Rattle.std.specs.Prelude.{ℕ, if◌then◌else◌, List, length, take, nat_lt}
use Rattle.engine.specs.Permutation.{block_size}
use Rattle.engine.specs.declared.variants.Variant.{Variant}

-- The block of a variant in room for the longest one: its first bytes.
abbrev pub block_in : Variant → List ℕ → List ℕ
block_in v room = take (block_size v) room

-- The blocks of the key stream that a group takes for a part of a text.
abbrev pub group : Variant → List ℕ → ℕ
group v xs = if nat_lt (block_size v) (length xs) then 4 else 1
