-- What sealing, checking and opening mean together.
use Rattle.std.specs.Prelude.{◌≡◌, ◌≢◌, ℕ, ◌<◌, ◌≤◌, true, ◌↔◌, List, length, Err, Result}
use Rattle.std.specs.Int.Digits.{number_from_digits, AllBelowBase}
use Rattle.fault.specs.Checks.{is_granted}
use Rattle.engine.specs.declared.variants.Variant.{Variant}
use Rattle.engine.specs.declared.variants.Variant.TheVariants.{Dumbo, Jumbo, Delirium}
use Rattle.cipher.specs.Mode.{tag_size, tag, sealed_text, opened_text}
use Rattle.cipher.specs.Calls.{CheckedText, key_answer, seal_answer, check_answer, open_answer, text_of_checked}
use Rattle.cipher.specs.declared.faults.CipherFault.{CipherFault}
use Rattle.cipher.specs.declared.faults.CipherFault.TheVariants.{KeyLength, NonceLength, AssociatedDataLength, TextLength, TagLength, OutputLength, WrongTag}

-- All sizes of a text and its tag are lawful.
pub record LawfulSizes (v : Variant) (key nonce associated text tag_place : List ℕ) : Type 0 where
  pub key_length : length key ≡ 16
  pub nonce_length : length nonce ≡ 12
  pub associated_length : length associated ≤ 65536
  pub text_length : length text ≤ 65536
  pub tag_length : length tag_place ≡ tag_size v

-- The first unlawful size decides the refusal, whatever is wrong after it.
pub record FirstSizeDecides {X : Type 0} (answer : Result X CipherFault) (v : Variant) (key nonce associated text tag_place : List ℕ) : Type 0 where
  pub the_key : length key ≢ 16 → answer ≡ Err KeyLength
  pub then_the_nonce : length key ≡ 16 → length nonce ≢ 12 → answer ≡ Err NonceLength
  pub then_the_associated_data : length key ≡ 16 → length nonce ≡ 12 → 65536 < length associated → answer ≡ Err AssociatedDataLength
  pub then_the_text : length key ≡ 16 → length nonce ≡ 12 → length associated ≤ 65536 → 65536 < length text → answer ≡ Err TextLength
  pub then_the_tag :
      length key ≡ 16 → length nonce ≡ 12 → length associated ≤ 65536 → length text ≤ 65536 → length tag_place ≢ tag_size v → answer ≡ Err TagLength

-- When the calls are granted, and which refusal comes first.
pub record LawsOfAnswers : Type 0 where
  -- Tags have 8, 8 and 16 bytes.
  pub tags_have_8_8_and_16_bytes : (tag_size Dumbo ≡ 8) × (tag_size Jumbo ≡ 8) × (tag_size Delirium ≡ 16)
  -- A key is granted exactly where it has 16 bytes.
  pub a_key_is_granted_exactly_where_it_has_16_bytes : (key : List ℕ) → (is_granted (key_answer key) ≡ true) ↔ (length key ≡ 16)
  -- Sealing is granted exactly where all sizes are lawful and the output is as long as the text.
  pub sealing_is_granted_exactly_where_all_sizes_are_lawful :
      (v : Variant) (key nonce associated text out tag_place : List ℕ)
      → (is_granted (seal_answer v key nonce associated text out tag_place) ≡ true)
      ↔ (LawfulSizes v key nonce associated text tag_place × (length out ≡ length text))
  -- Sealing is refused for the first unlawful size, the output's length being the last.
  pub sealing_is_refused_for_the_first_fault :
      (v : Variant) (key nonce associated text out tag_place : List ℕ)
      → FirstSizeDecides (seal_answer v key nonce associated text out tag_place) v key nonce associated text tag_place
      × (LawfulSizes v key nonce associated text tag_place → length out ≢ length text
      → seal_answer v key nonce associated text out tag_place ≡ Err OutputLength)
  -- Checking is granted exactly where all sizes are lawful and the tag is right.
  pub checking_is_granted_exactly_where_sizes_and_tag_are_right :
      (v : Variant) (key nonce associated text tag_place : List ℕ)
      → (is_granted (check_answer v key nonce associated text tag_place) ≡ true)
      ↔ (LawfulSizes v key nonce associated text tag_place × (tag_place ≡ tag v key nonce associated text))
  -- Checking is refused for the first unlawful size, and a wrong tag comes last.
  pub checking_is_refused_for_the_first_fault :
      (v : Variant) (key nonce associated text tag_place : List ℕ)
      → FirstSizeDecides (check_answer v key nonce associated text tag_place) v key nonce associated text tag_place
      × (LawfulSizes v key nonce associated text tag_place → tag_place ≢ tag v key nonce associated text
      → check_answer v key nonce associated text tag_place ≡ Err WrongTag)
  -- Opening is granted exactly where the output is as long as the sealed text.
  pub opening_is_granted_exactly_where_the_output_fits :
      (t : CheckedText) (out : List ℕ) → (is_granted (open_answer t out) ≡ true) ↔ (length out ≡ length t.sealed)

-- The laws of the cipher.
pub record CipherLaws : Type 0 where
  -- When the calls are granted, and which refusal comes first.
  pub answers : LawsOfAnswers
  -- Where all sizes are lawful, a text passes exactly when its tag is the defined one.
  pub passes_exactly_when_the_tag_is_right :
      (v : Variant) (key nonce associated text tag_place : List ℕ) → LawfulSizes v key nonce associated text tag_place
      → (is_granted (check_answer v key nonce associated text tag_place) ≡ true) ↔ (tag_place ≡ tag v key nonce associated text)
  -- Opening a sealed text gives that text.
  pub opening_a_sealed_text_gives_it_back :
      (v : Variant) (key nonce text : List ℕ) → opened_text v key nonce (sealed_text v key nonce text) ≡ text
  -- A checked text opens under the variant, key and nonce of its check, though it holds them as numbers.
  pub opens_under_the_key_of_its_check :
      (v : Variant) (key nonce sealed : List ℕ) → length key ≡ 16 → length nonce ≡ 12 → AllBelowBase 256 key → AllBelowBase 256 nonce
      → text_of_checked (record { variant = v; key = number_from_digits 256 key; nonce = number_from_digits 256 nonce; sealed = sealed }) ≡ opened_text v key nonce sealed
  -- A sealed text is as long as the text.
  pub sealing_keeps_the_length : (v : Variant) (key nonce text : List ℕ) → length (sealed_text v key nonce text) ≡ length text
  -- A tag has its variant's length.
  pub tags_have_one_length : (v : Variant) (key nonce associated sealed : List ℕ) → length (tag v key nonce associated sealed) ≡ tag_size v
  -- Under one variant, key and nonce two sealed texts are equal exactly when the texts are.
  pub sealed_texts_are_equal_exactly_when_the_texts_are :
      (v : Variant) (key nonce a b : List ℕ) → (sealed_text v key nonce a ≡ sealed_text v key nonce b) ↔ (a ≡ b)
