-- Letters: what a bidder writes, in 64 bytes whatever it says.
use Rattle.std.specs.Prelude.{ℕ, ◌+◌, ◌-◌, Bool, true, if◌then◌else◌, ◌&&◌, List, [], ◌∷◌, ◌++◌, length, take, drop, replicate, ◌==◌, nat_le, slice_index}
use Rattle.std.specs.Int.Digits.{number_from_digits}
use Rattle.big_endian.specs.Numbers.{bytes_of}

-- The bytes of a letter, the most that an amount may be (in cents), and the most bytes of a note.
abbrev pub letter_bytes : ℕ
letter_bytes = 64

abbrev pub most_cents : ℕ
most_cents = 999999999999

abbrev pub most_note_bytes : ℕ
most_note_bytes = 55

-- The letter of an amount and a note: the amount in eight bytes, the note's length in one, the note, and zeros.
unfoldable pub letter : ℕ → List ℕ → List ℕ
letter amount note = bytes_of 8 amount ++ (length note ∷ (note ++ replicate (most_note_bytes - length note) 0))

-- The amount, the note's length, the note, and what is after the note, as they stand in any letter.
abbrev pub amount_field : List ℕ → ℕ
amount_field xs = number_from_digits 256 (take 8 xs)

abbrev pub note_length : List ℕ → ℕ
note_length xs = slice_index xs 8

abbrev pub note_field : List ℕ → List ℕ
note_field xs = take (note_length xs) (drop 9 xs)

abbrev pub after_note : List ℕ → List ℕ
after_note xs = drop (9 + note_length xs) xs

-- Whether all bytes are zero.
abbrev pub all_zero : List ℕ → Bool
all_zero [] = true
all_zero (x ∷ xs) = x == 0 && all_zero xs

-- A letter is lawful exactly when it has 64 bytes, its amount is at most the limit, its note's length is at most 55, and all bytes after
-- the note are zero.
unfoldable pub is_lawful : List ℕ → Bool
is_lawful xs =
    (length xs == letter_bytes) && (nat_le (amount_field xs) most_cents && (nat_le (note_length xs) most_note_bytes && all_zero (after_note xs)))

-- The amount that a letter offers: 0 where it is unlawful. Amount 0 withdraws a bid.
unfoldable pub amount_offered : List ℕ → ℕ
amount_offered xs = if is_lawful xs then amount_field xs else 0
