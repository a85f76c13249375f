-- What sealing, checking and opening answer, and what they leave in the places lent to them.
use Rattle.std.specs.Prelude.{ℕ, List, [], ◌∷◌, length, Result, ◌==◌, nat_le}
use Rattle.std.specs.Str.{bytes_eq}
use Rattle.std.specs.Int.Digits.{number_from_digits}
use Rattle.fault.specs.Checks.{Check, decision}
use Rattle.big_endian.specs.Numbers.{bytes_of}
use Rattle.engine.specs.declared.variants.Variant.{Variant}
use Rattle.cipher.specs.Mode.{tag_size, tag, opened_text}
use Rattle.cipher.specs.declared.faults.CipherFault.{CipherFault}
use Rattle.cipher.specs.declared.faults.CipherFault.TheVariants.{KeyLength, NonceLength, AssociatedDataLength, TextLength, TagLength, OutputLength, WrongTag}

-- A key has 16 bytes.
abbrev pub key_check : List ℕ → Check CipherFault
key_check key = ((length key == 16), KeyLength)

-- The checks of sizes that sealing and checking share, in their order, and then others.
abbrev pub size_checks : Variant → List ℕ → List ℕ → List ℕ → List ℕ → List ℕ → List (Check CipherFault) → List (Check CipherFault)
size_checks v key nonce associated text tag_place others =
    key_check key ∷ (((length nonce == 12), NonceLength) ∷ ((nat_le (length associated) 65536, AssociatedDataLength)
    ∷ ((nat_le (length text) 65536, TextLength) ∷ (((length tag_place == tag_size v), TagLength) ∷ others))))

-- A key alone.
abbrev pub key_answer : List ℕ → Result (Unit {0}) CipherFault
key_answer key = decision (key_check key ∷ []) tt

-- Sealing: the sizes, and then an output of the text's length.
abbrev pub seal_answer : Variant → List ℕ → List ℕ → List ℕ → List ℕ → List ℕ → List ℕ → Result (Unit {0}) CipherFault
seal_answer v key nonce associated text out tag_place =
    decision (size_checks v key nonce associated text tag_place (((length out == length text), OutputLength) ∷ [])) tt

-- A checked text: the variant, key and nonce of its check, the last two as numbers, and the sealed text.
pub record CheckedText : Type 0 where
  pub variant : Variant
  pub key : ℕ
  pub nonce : ℕ
  pub sealed : List ℕ

-- Checking: the sizes, and then the tag.
abbrev pub check_answer : Variant → List ℕ → List ℕ → List ℕ → List ℕ → List ℕ → Result CheckedText CipherFault
check_answer v key nonce associated text tag_place =
    decision (size_checks v key nonce associated text tag_place ((bytes_eq tag_place (tag v key nonce associated text), WrongTag) ∷ []))
    (record { variant = v; key = number_from_digits 256 key; nonce = number_from_digits 256 nonce; sealed = text })

-- Opening a checked text: an output of its length.
abbrev pub open_answer : CheckedText → List ℕ → Result (Unit {0}) CipherFault
open_answer t out = decision (((length out == length t.sealed), OutputLength) ∷ []) tt

-- What a checked text opens to.
abbrev pub text_of_checked : CheckedText → List ℕ
text_of_checked t = opened_text t.variant (bytes_of 16 t.key) (bytes_of 12 t.nonce) t.sealed
