-- The worked examples of the definitions, all in one table. Numbers that begin with 0x are hexadecimal.
use Rattle.std.specs.Prelude.{◌≡◌, ℕ, ◌≤◌, true, false, List, [], ◌∷◌, ◌++◌, length, replicate, slice_index}
use Rattle.binary.specs.Bits.{bits, block}
use Rattle.engine.specs.Spongent.{substitute, counter, place}
use Rattle.engine.specs.Permutation.{block_size}
use Rattle.engine.specs.declared.variants.Variant.TheVariants.{Dumbo, Jumbo, Delirium}
use Rattle.cipher.specs.Blocks.{parts}
use Rattle.cipher.specs.Masks.{phi1}
use Rattle.cipher.specs.Mode.{with_01 as with_01}
use Rattle.envelope.specs.Letters.{letter, is_lawful, most_note_bytes}
use Rattle.room.specs.Page.{page}
use Rattle.room.specs.Lot17.{page_17}

-- A byte with its two half bytes substituted.
abbrev pub substituted_byte : ℕ → List ℕ
substituted_byte x = block 1 (substitute (bits (x ∷ [])))

-- The parts that the nonce, associated data and a byte 01 have in Dumbo.
abbrev pub dumbo_parts : List ℕ → List ℕ → ℕ
dumbo_parts nonce associated = parts (block_size Dumbo) (length (nonce ++ with_01 associated))

-- A Dumbo block of which only byte 0 is not zero, and a Jumbo block; and a Delirium block of which only byte 13 is not.
abbrev pub dumbo_block : ℕ → List ℕ
dumbo_block x0 = x0 ∷ replicate 19 0

abbrev pub jumbo_block : ℕ → List ℕ
jumbo_block x0 = x0 ∷ replicate 21 0

abbrev pub delirium_block : ℕ → List ℕ
delirium_block x13 = replicate 13 0 ++ (x13 ∷ replicate 11 0)

pub record WorkedExamples : Type 0 where
  pub byte_1F_substitutes_to_D6 : substituted_byte 0x1F ≡ 0xD6 ∷ []
  pub byte_00_substitutes_to_EE : substituted_byte 0x00 ≡ 0xEE ∷ []
  pub counters_after_75 : (counter 0x75 1 ≡ 0x6A) × (counter 0x75 2 ≡ 0x54) × (counter 0x75 3 ≡ 0x29)
  pub counters_after_45 : (counter 0x45 1 ≡ 0x0B) × (counter 0x45 2 ≡ 0x16)
  pub bits_of_160_move :
      (place 160 1 ≡ 40) × (place 160 4 ≡ 1) × (place 160 158 ≡ 119) × (place 160 159 ≡ 159)
  pub phi1_of_a_dumbo_block_with_only_x0_01_ends_in_08 :
      slice_index (phi1 Dumbo (dumbo_block 0x01)) 19 ≡ 0x08
  pub phi1_of_a_jumbo_block_with_only_x0_80_ends_in_01 :
      slice_index (phi1 Jumbo (jumbo_block 0x80)) 21 ≡ 0x01
  pub phi1_of_a_delirium_block_with_only_x13_80_has_80_at_12_and_ends_in_00 :
      (slice_index (phi1 Delirium (delirium_block 0x80)) 12 ≡ 0x80)
      × (slice_index (phi1 Delirium (delirium_block 0x80)) 24 ≡ 0x00)
  pub seven_bytes_of_associated_data_have_one_part :
      (nonce associated : List ℕ) → length nonce ≡ 12 → length associated ≡ 7
      → dumbo_parts nonce associated ≡ 1
  pub eight_bytes_of_associated_data_have_two_parts :
      (nonce associated : List ℕ) → length nonce ≡ 12 → length associated ≡ 8
      → dumbo_parts nonce associated ≡ 2
  pub the_limit_is_lawful :
      (note : List ℕ) → length note ≤ most_note_bytes → is_lawful (letter 999999999999 note) ≡ true
  pub one_cent_more_is_not : (note : List ℕ) → is_lawful (letter 1000000000000 note) ≡ false
  -- The page of lot 17 with 250000 for bidders 3 and 5 and 310000 for bidder 8 on the sheet.
  pub the_page_of_a_sheet_of_lot_17 :
      page 17 (record { bidder = 3; amount = 250000 } ∷ record { bidder = 5; amount = 250000 }
      ∷ record { bidder = 8; amount = 310000 } ∷ [])
      ≡ page_17
