-- The worked examples: the definitions compute.
use Rattle.std.proofs.Common.{◌≡◌, ℕ, ◌+◌, ◌/◌, ◌<◌, List, [], ◌∷◌, length, sym, refl, ap, ◌∙◌, ap₂, arith, length-append}
use Rattle.std.specs.Fmt.{digits}
use Rattle.std.proofs.lemmas.List.{take_at}
use Rattle.std.specs.Int.Digits.{number_from_digits}
use Rattle.binary.specs.Bits.{bits, block}
use Rattle.engine.specs.Spongent.{substitute, counter, next_counter}
use Rattle.cipher.specs.Blocks.{parts}
use Rattle.cipher.specs.Masks.{phi1}
use Rattle.cipher.specs.Mode.{with_01}
use Rattle.big_endian.specs.Numbers.{bytes_of}
use Rattle.big_endian.proofs.Laws.{bytes_of_length}
use Rattle.envelope.specs.Letters.{letter, amount_field, most_cents}
use Rattle.envelope.proofs.LetterLaws.{unlawful_amount}
use Rattle.envelope.proofs.HeadLaws.{number_back}
use Rattle.envelope.proofs.Laws.{letter_lawful}
use Rattle.room.specs.Page.{names, line, page}
use Rattle.room.specs.Lot17.{page_17}
use Rattle.worked.specs.Examples.{substituted_byte, dumbo_parts, WorkedExamples}

substitutes : (substituted_byte 0x1F ≡ 0xD6 ∷ []) × (substituted_byte 0x00 ≡ 0xEE ∷ [])
unfolding bits block substitute
substitutes = (refl, refl)

counts : (counter 0x75 1 ≡ 0x6A) × (counter 0x75 2 ≡ 0x54) × (counter 0x75 3 ≡ 0x29) × (counter 0x45 1 ≡ 0x0B) × (counter 0x45 2 ≡ 0x16)
unfolding counter next_counter
counts = (refl, refl, refl, refl, refl)

dumbo_part_count : (nonce associated : List ℕ) (n : ℕ) → length nonce ≡ 12 → length associated ≡ n → dumbo_parts nonce associated ≡ (12 + (n + 1) + 19) / 20
dumbo_part_count nonce associated n a b =
    ap (parts 20) (length-append nonce (with_01 associated) ∙ ap₂ ◌+◌ a (length-append associated (1 ∷ []) ∙ ap (λ m. m + 1) b))

too_much : (note : List ℕ) → most_cents < amount_field (letter 1000000000000 note)
unfolding letter
too_much note =
    let is : amount_field (letter 1000000000000 note) ≡ 1000000000000 =
    ap (number_from_digits 256) (take_at (bytes_of 8 1000000000000) _ 8 (bytes_of_length 8 1000000000000)) ∙ number_back 8 1000000000000 (omega arith) in
    omega arith

page_text : page 17 (record { bidder = 3; amount = 250000 } ∷ record { bidder = 5; amount = 250000 } ∷ record { bidder = 8; amount = 310000 } ∷ [])
    ≡ page_17
unfolding page names line digits
page_text = refl

pub worked : WorkedExamples
unfolding phi1
worked = record {
  byte_1F_substitutes_to_D6 = substitutes.0;
  byte_00_substitutes_to_EE = substitutes.1;
  counters_after_75 = (counts.0, counts.1, counts.2);
  counters_after_45 = (counts.3, counts.4);
  bits_of_160_move = (refl, refl, refl, refl);
  phi1_of_a_dumbo_block_with_only_x0_01_ends_in_08 = refl;
  phi1_of_a_jumbo_block_with_only_x0_80_ends_in_01 = refl;
  phi1_of_a_delirium_block_with_only_x13_80_has_80_at_12_and_ends_in_00 = (refl, refl);
  seven_bytes_of_associated_data_have_one_part = λ nonce associated a b. dumbo_part_count nonce associated 7 a b;
  eight_bytes_of_associated_data_have_two_parts = λ nonce associated a b. dumbo_part_count nonce associated 8 a b;
  the_limit_is_lawful = λ note h. letter_lawful 999999999999 note (omega arith) h;
  one_cent_more_is_not = λ note. sym (unlawful_amount (letter 1000000000000 note) (too_much note));
  the_page_of_a_sheet_of_lot_17 = page_text;
}
