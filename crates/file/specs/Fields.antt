-- The fields of a line, with commas between them.
use Rattle.std.specs.Prelude.{◌≡◌, ℕ, ◌+◌, Bool, true, false, not, length, take, drop, Some, None, Option, ◌==◌, nat_lt}
use Rattle.std.specs.List.{prefix_len}
use Rattle.std.specs.Borrow.{Bor}
use Rattle.room.specs.Sales.{Bytes}

-- How many bytes stand before the first b: all of them where there is none.
unfoldable pub place_of : ℕ → Bytes → ℕ
place_of b bs = prefix_len (λ x. not (x == b)) bs

-- Whether there is a b.
abbrev pub holds : ℕ → Bytes → Bool
holds b bs = nat_lt (place_of b bs) (length bs)

-- Bytes were split at the first b into those before it and those behind it; or there is none.
abbrev pub IsSplit : ℕ → Bytes → Option (Bor Bytes × Bor Bytes) → Type 0
IsSplit b bs None = holds b bs ≡ false
IsSplit b bs (Some parts) = (holds b bs ≡ true) × (parts.0.now ≡ take (place_of b bs) bs) × (parts.1.now ≡ drop (place_of b bs + 1) bs)

-- Whether a line has a comma, what stands before the first one, and what behind it.
abbrev pub holds_comma : Bytes → Bool
holds_comma l = holds 44 l

abbrev pub field : Bytes → Bytes
field l = take (place_of 44 l) l

abbrev pub behind : Bytes → Bytes
behind l = drop (place_of 44 l + 1) l
