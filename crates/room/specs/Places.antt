-- What a place holds after a part of it is written.
use Rattle.std.specs.Prelude.{ℕ, ◌+◌, List, ◌++◌, length, take, drop}

-- The bytes of a place with others written over them from `at` on.
abbrev pub place_with_at : List ℕ → ℕ → List ℕ → List ℕ
place_with_at old at new = take at old ++ (new ++ drop (at + length new) old)
