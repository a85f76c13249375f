-- What the calls of an engine answer, and what they leave in the place lent to them.
use Rattle.std.specs.Prelude.{ℕ, ◌*◌, if◌then◌else◌, List, length, Ok, Err, Result, ◌==◌}
use Rattle.engine.specs.declared.variants.Variant.{Variant}
use Rattle.engine.specs.declared.faults.EngineFault.{EngineFault}
use Rattle.engine.specs.declared.faults.EngineFault.TheVariants.{BlockLength}
use Rattle.engine.specs.Permutation.{block_size, permutation, each}

-- The answer of a call for m bytes: granted exactly where the place has that length.
abbrev pub answer_by_length : ℕ → List ℕ → Result (Unit {0}) EngineFault
answer_by_length m xs = if length xs == m then Ok tt else Err BlockLength

-- What the place holds afterwards: f of it where the call is granted, and what it held where it is refused.
abbrev pub place_by_length : ℕ → (List ℕ → List ℕ) → List ℕ → List ℕ
place_by_length m f xs = if length xs == m then f xs else xs

-- One block.
abbrev pub one_answer : Variant → List ℕ → Result (Unit {0}) EngineFault
one_answer v xs = answer_by_length (block_size v) xs

abbrev pub one_after : Variant → List ℕ → List ℕ
one_after v xs = place_by_length (block_size v) (permutation v) xs

-- Four neighbouring blocks, each for itself.
abbrev pub four_answer : Variant → List ℕ → Result (Unit {0}) EngineFault
four_answer v xs = answer_by_length (4 * block_size v) xs

abbrev pub four_after : Variant → List ℕ → List ℕ
four_after v xs = place_by_length (4 * block_size v) (each (permutation v) (block_size v) 4) xs
