-- How a file of known answers is laid out, and what it says.
use Rattle.std.specs.Prelude.{ℕ, ◌-◌, ◌^◌, ◌&&◌, if◌then◌else◌, nat_eq, nat_lt, ◌==◌, List, [], ◌∷◌, length, take, drop, map, filter, codes, Ok, Err, Result}
use Rattle.std.specs.List.{filter_map, slice_split, starts_with}
use Rattle.std.specs.Result.{result_ok, result_err}
use Rattle.std.specs.Str.{all_ascii_digits}
use Rattle.std.specs.Str.Lines.{lines}
use Rattle.std.specs.Str.Parse.{digits_value, without_leading_plus}
use Rattle.hex.specs.Hex.{decode_of}
use Rattle.hex.specs.declared.error.FromHexError.{FromHexError}
use Rattle.engine.specs.declared.variants.Variant.{Variant}
use Rattle.cipher.specs.Mode.{tag_size}
use Rattle.vectors.specs.KnownAnswers.{KnownAnswer}
use Rattle.vectors.specs.declared.records.RecordFault.{RecordFault}
use Rattle.vectors.specs.declared.records.RecordFault.TheVariants.{Line, Number, Value, Short}

-- A part of a text is read, and then what follows from it, or the first fault.
infixl 10 ◌>>=◌
abbrev pub ◌>>=◌ : {A B : Type 0} → Result A RecordFault → (A → Result B RecordFault) → Result B RecordFault
Ok x >>= f = f x
Err e >>= f = Err e

-- The value of a line that begins with the name of its field.
abbrev pub field_value : List ℕ → List ℕ → Result (List ℕ) RecordFault
field_value name line = if starts_with nat_eq line name then Ok (drop (length name) line) else Err Line

-- A number in decimal digits, which a plus may precede and which fits 64 bits.
abbrev pub number_in : List ℕ → Result ℕ RecordFault
number_in text =
    let digits = without_leading_plus text in
    if nat_lt 0 (length digits) && (all_ascii_digits digits && nat_lt (digits_value 10 digits) (2 ^ 64))
    then Ok (digits_value 10 digits)
    else Err Number

-- The bytes that hexadecimal digits write.
abbrev pub decoding_result : Result (List ℕ) FromHexError → Result (List ℕ) RecordFault
decoding_result (Ok bytes) = Ok bytes
decoding_result (Err e) = Err Value

abbrev pub bytes_in : List ℕ → Result (List ℕ) RecordFault
bytes_in text = decoding_result (decode_of text)

-- The number, and the bytes, that a line says.
abbrev pub number_value : List ℕ → List ℕ → Result ℕ RecordFault
number_value name line = field_value name line >>= number_in

abbrev pub bytes_value : List ℕ → List ℕ → Result (List ℕ) RecordFault
bytes_value name line = field_value name line >>= bytes_in

-- The sealed text and the tag that follows it.
abbrev pub sealed_and_tag : Variant → List ℕ → Result (List ℕ × List ℕ) RecordFault
sealed_and_tag v both =
    if nat_lt (length both) (tag_size v) then Err Short
    else Ok (take (length both - tag_size v) both, drop (length both - tag_size v) both)

-- The known answer that six lines say.
abbrev pub answer_of_six : Variant → List ℕ → List ℕ → List ℕ → List ℕ → List ℕ → List ℕ → Result KnownAnswer RecordFault
answer_of_six v count key nonce text associated both = do
  n ← number_value (codes "Count = ") count
  k ← bytes_value (codes "Key = ") key
  m ← bytes_value (codes "Nonce = ") nonce
  t ← bytes_value (codes "PT = ") text
  a ← bytes_value (codes "AD = ") associated
  whole ← bytes_value (codes "CT = ") both
  parts ← sealed_and_tag v whole
  Ok (record { number = n; key = k; nonce = m; text = t; associated = a; sealed = parts.0; tag = parts.1 })

-- The known answer that a group of lines says: there are six.
abbrev pub answer_of_lines : Variant → List (List ℕ) → Result KnownAnswer RecordFault
answer_of_lines v (count ∷ key ∷ nonce ∷ text ∷ associated ∷ both ∷ []) = answer_of_six v count key nonce text associated both
answer_of_lines v ls = Err Line

-- The groups of lines that stand between empty lines.
abbrev pub line_groups : List (List ℕ) → List (List (List ℕ))
line_groups ls = filter (λ group. nat_lt 0 (length group)) (slice_split (λ line. length line == 0) ls)

-- What a file says: its known answers, in order, and why each group of lines that is none is none.
pub record Readings : Type 0 where
  pub answers : List KnownAnswer
  pub faults : List RecordFault

abbrev pub readings : Variant → List ℕ → Readings
readings v text =
    let said = map (answer_of_lines v) (line_groups (lines text)) in
    record { answers = filter_map result_ok said; faults = filter_map result_err said }
