-- Envelopes: a head, a sealed letter and its tag. The head is the nonce, and the terms of the lot are the associated data.
use Rattle.std.specs.Prelude.{ℕ, ◌+◌, List, ◌++◌, take, drop}
use Rattle.engine.specs.declared.variants.Variant.{Variant}
use Rattle.cipher.specs.Mode.{tag_size, tag, sealed_text, opened_text}
use Rattle.envelope.specs.Letters.{letter, letter_bytes}
use Rattle.envelope.specs.Heads.{head, head_bytes}

-- The bytes of an envelope: they depend on the variant alone.
abbrev pub envelope_size : Variant → ℕ
envelope_size v = head_bytes + letter_bytes + tag_size v

-- The head, the sealed letter and the tag of an envelope.
abbrev pub head_part : List ℕ → List ℕ
head_part e = take 12 e

abbrev pub sealed_part : List ℕ → List ℕ
sealed_part e = take 64 (drop 12 e)

abbrev pub tag_part : List ℕ → List ℕ
tag_part e = drop 76 e

-- The envelope of a head and a letter under a key and terms.
unfoldable pub envelope_of : Variant → List ℕ → List ℕ → List ℕ → List ℕ → List ℕ
envelope_of v key terms h l = h ++ (sealed_text v key h l ++ tag v key h terms (sealed_text v key h l))

-- The envelope of a bid.
unfoldable pub bid : Variant → List ℕ → List ℕ → ℕ → ℕ → ℕ → ℕ → List ℕ → List ℕ
bid v key terms lot bidder sequence amount note = envelope_of v key terms (head lot bidder sequence) (letter amount note)

-- The tag that an envelope should have under a key and terms.
abbrev pub right_tag : Variant → List ℕ → List ℕ → List ℕ → List ℕ
right_tag v key terms e = tag v key (head_part e) terms (sealed_part e)

-- The letter that an envelope opens to under a key.
abbrev pub letter_sealed_in : Variant → List ℕ → List ℕ → List ℕ
letter_sealed_in v key e = opened_text v key (head_part e) (sealed_part e)
