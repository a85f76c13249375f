-- Terms: what a lot is sold under, up to 64 bytes, as pens and heads hold them.
use Rattle.std.specs.Prelude.{ℕ, List, ◌++◌, take}
use Rattle.big_endian.specs.Numbers.{bytes_of}
use Rattle.envelope.specs.declared.terms.Terms.{Terms}

abbrev pub most_terms_bytes : ℕ
most_terms_bytes = 64

-- The bytes of four numbers, sixteen of each.
unfoldable pub held_bytes : Terms → List ℕ
held_bytes t = bytes_of 16 t.a ++ (bytes_of 16 t.b ++ (bytes_of 16 t.c ++ bytes_of 16 t.d))

-- The terms that four numbers and a length stand for: the first of these bytes.
unfoldable pub bytes_of_terms : Terms → List ℕ
bytes_of_terms t = take t.len (held_bytes t)
