-- Bytes as a file writes them: each as two lower-case hexadecimal digits, the higher one first.
use Rattle.std.specs.Prelude.{ℕ, ◌+◌, ◌-◌, ◌*◌, Bool, true, if◌then◌else◌, ◌&&◌, ◌||◌, [], ◌∷◌, nat_le, nat_lt}
use Rattle.room.specs.Sales.{Bytes}

-- Whether a byte is one of the digits 0 to 9 and a to f, and whether all bytes are.
abbrev pub is_hex_digit : ℕ → Bool
is_hex_digit c = (nat_le 48 c && nat_le c 57) || (nat_le 97 c && nat_le c 102)

unfoldable pub all_hex_digits : Bytes → Bool
all_hex_digits [] = true
all_hex_digits (c ∷ cs) = is_hex_digit c && all_hex_digits cs

-- What a digit is worth: 0 to 9, and a to f for 10 to 15.
abbrev pub digit_value : ℕ → ℕ
digit_value c = if nat_lt c 97 then c - 48 else c - 87

-- The bytes that digits write, two by two.
unfoldable pub written_bytes : Bytes → Bytes
written_bytes [] = []
written_bytes (c ∷ []) = []
written_bytes (c ∷ d ∷ ds) = (digit_value c * 16 + digit_value d) ∷ written_bytes ds
