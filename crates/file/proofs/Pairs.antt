-- Hexadecimal digits, one after the other and two by two.
use Rattle.std.proofs.Common.{◌≡◌, ℕ, ◌+◌, ◌*◌, ◌%◌, true, ◌&&◌, List, [], ◌∷◌, length, Some, Ok, refl, ap, ◌∙◌, arith}
use Rattle.std.specs.List.{list_all}
use Rattle.std.proofs.lemmas.Bool.{and_parts}
use Rattle.hex.specs.Hex.{hex_digit_value, pair_value, decode_pairs, decode_sized}
use Rattle.hex.proofs.HexLemmas.{decode_of-even, decode_sized-twice}
use Rattle.hex.proofs.Pairs.{cons_byte, decode_pairs-ok_pair}
use Rattle.file.specs.Hexadecimal.{is_hex_digit, all_hex_digits, digit_value, written_bytes}

-- the digits are all that the definition's recursion asks of each
pub hex_all : (ds : List ℕ) → list_all (λ c. is_hex_digit c) ds ≡ all_hex_digits ds
unfolding all_hex_digits
hex_all [] = refl
hex_all (c ∷ cs) = ap (λ b. is_hex_digit c && b) (hex_all cs)

-- a lower-case digit is worth the same to the kit
same_worth : (c : ℕ) → is_hex_digit c ≡ true → hex_digit_value c ≡ Some (digit_value c)
same_worth c h = grind (arith)

same_pairs : (i : ℕ) (ds : List ℕ) → length ds % 2 ≡ 0 → all_hex_digits ds ≡ true → decode_pairs i ds ≡ Ok (written_bytes ds)
unfolding all_hex_digits written_bytes decode_pairs
same_pairs i [] even h = refl
same_pairs i (c ∷ []) even h = absurd (omega arith)
same_pairs i (c ∷ d ∷ ds) even h =
    let first = and_parts (is_hex_digit c) (is_hex_digit d && all_hex_digits ds) h in
    let second = and_parts (is_hex_digit d) (all_hex_digits ds) first.1 in
    let pair : pair_value c d i ≡ Ok (digit_value c * 16 + digit_value d) = rw (same_worth c first.0, same_worth d second.0) refl in
    decode_pairs-ok_pair i c d _ ds pair ∙ ap (cons_byte (digit_value c * 16 + digit_value d)) (same_pairs (i + 2) ds (omega arith) second.1)

-- lower-case digits, two for each place, write what the kit decodes from them
pub decode_gives_written : (ds : List ℕ) (n : ℕ) → length ds ≡ 2 * n → all_hex_digits ds ≡ true → decode_sized ds n ≡ Ok (written_bytes ds)
decode_gives_written ds n len h = decode_sized-twice ds n len ∙ decode_of-even ds (omega arith) ∙ same_pairs 0 ds (omega arith) h
