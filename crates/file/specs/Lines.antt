-- A file as lines, each ended by byte 10, and how many bytes it may have.
use Rattle.std.specs.Prelude.{ℕ, if◌then◌else◌, [], ◌∷◌, ◌==◌}
use Rattle.room.specs.Sales.{Bytes}

-- The most bytes that a sale file may have.
abbrev pub most_bytes : ℕ
most_bytes = 32768

-- The lines of a file: there are no more, or what is left is not ended by byte 10, or a line (without its byte 10) and those behind it.
pub data Lines : Type 0 where
  finished : Lines
  torn : Lines
  line : Bytes → Lines → Lines

-- The lines with one more byte in front of the first of them.
abbrev pub lines_with_byte : ℕ → Lines → Lines
lines_with_byte b finished = torn
lines_with_byte b torn = torn
lines_with_byte b (line l ls) = line (b ∷ l) ls

-- The lines that bytes make.
unfoldable pub lines_in : Bytes → Lines
lines_in [] = finished
lines_in (b ∷ bs) = if b == 10 then line [] (lines_in bs) else lines_with_byte b (lines_in bs)
