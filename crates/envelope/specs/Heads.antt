-- Heads: the twelve bytes that open an envelope. They name lot, bidder and sequence, four bytes each, and serve as the nonce.
use Rattle.std.specs.Prelude.{ℕ, List, ◌++◌, take, drop}
use Rattle.std.specs.Int.Digits.{number_from_digits}
use Rattle.big_endian.specs.Numbers.{bytes_of}

abbrev pub head_bytes : ℕ
head_bytes = 12

-- The head of a lot, a bidder and a sequence.
unfoldable pub head : ℕ → ℕ → ℕ → List ℕ
head lot bidder sequence = bytes_of 4 lot ++ (bytes_of 4 bidder ++ bytes_of 4 sequence)

-- The lot, the bidder and the sequence that an envelope's head names.
abbrev pub lot_of : List ℕ → ℕ
lot_of e = number_from_digits 256 (take 4 e)

abbrev pub bidder_of : List ℕ → ℕ
bidder_of e = number_from_digits 256 (take 4 (drop 4 e))

abbrev pub sequence_of : List ℕ → ℕ
sequence_of e = number_from_digits 256 (take 4 (drop 8 e))
