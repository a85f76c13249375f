-- Numbers as a file writes them: decimal digits without leading zeros, up to 4,294,967,295.
use Rattle.std.specs.Prelude.{ℕ, ◌+◌, ◌-◌, ◌*◌, Bool, true, if◌then◌else◌, not, ◌&&◌, ◌||◌, [], ◌∷◌, length, Some, None, Option, ◌==◌, nat_le, nat_lt, slice_index}
use Rattle.room.specs.Sales.{Bytes}

-- Whether a byte is one of the digits 0 to 9, and whether all bytes are.
abbrev pub is_digit : ℕ → Bool
is_digit c = nat_le 48 c && nat_le c 57

unfoldable pub all_digits : Bytes → Bool
all_digits [] = true
all_digits (c ∷ cs) = is_digit c && all_digits cs

-- The number that digits write behind those of n.
unfoldable pub value_after : ℕ → Bytes → ℕ
value_after n [] = n
value_after n (c ∷ cs) = value_after (n * 10 + (c - 48)) cs

-- The number that digits write, with or without leading zeros, where all bytes are digits and it is at most 4,294,967,295.
unfoldable pub value_of : Bytes → Option ℕ
value_of ds =
    if all_digits ds && nat_le (value_after 0 ds) 4294967295 then Some (value_after 0 ds) else None

-- Whether there is a digit, and a leading 0 only where it is all.
abbrev pub is_well_led : Bytes → Bool
is_well_led ds = nat_lt 0 (length ds) && (not (slice_index ds 0 == 48) || length ds == 1)

-- The number that bytes write in the form of a file.
unfoldable pub number_of : Bytes → Option ℕ
number_of ds = if is_well_led ds then value_of ds else None
