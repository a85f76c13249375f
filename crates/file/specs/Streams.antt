-- What reading into a buffer and writing a text do to the bytes that a reader has left and a writer holds, where these are known.
use Rattle.std.specs.Prelude.{◌≡◌, ℕ, ◌<◌, ◌≤◌, ⊤, length, take, Some, None, Ok, Err, Option, Result}
use Rattle.std.specs.Io.KnownBytes.{Appends, Consumes, IsAtEnd}
use Rattle.room.specs.Sales.{Bytes}

-- A file is all that a reader has left, where it says which bytes these are; else it may be any.
abbrev pub IsAllLeft : Option Bytes → Bytes → Type 0
IsAllLeft None file = ⊤
IsAllLeft (Some bytes) file = file ≡ bytes

-- The first n places of a buffer have the next bytes of a reader; and the buffer is full, or the reader at its end.
pub record Fills (before after : Option Bytes) (buffer : Bytes) (n : ℕ) : Type 0 where
  pub within : n ≤ length buffer
  pub reads : Consumes before after (take n buffer)
  pub ends : n < length buffer → IsAtEnd after

-- A beginning of a text was written, and nothing else.
pub record WritesSome (before after : Option Bytes) (text : Bytes) : Type 0 where
  pub count : ℕ
  pub writes : Appends before after (take count text)

-- A text was written; or, where writing failed, a beginning of it.
abbrev pub Writes : {E : Type 0} → Option Bytes → Option Bytes → Bytes → Result (Unit {0}) E → Type 0
Writes before after text (Ok done) = Appends before after text
Writes before after text (Err e) = WritesSome before after text
