-- The limits of rooms. Those of terms and letters stand with envelopes.
use Rattle.std.specs.Prelude.{ℕ, ◌+◌, ◌*◌}

-- The most bidders of a register.
abbrev pub most_bidders : ℕ
most_bidders = 64

-- The longest page, in bytes: the line of names has 18, and the line of each bidder at most 35.
abbrev pub most_page_bytes : ℕ
most_page_bytes = 18 + most_bidders * 35

-- The bytes of a key, and the most bytes of a tag.
abbrev pub key_bytes : ℕ
key_bytes = 16

abbrev pub most_tag_bytes : ℕ
most_tag_bytes = 16
