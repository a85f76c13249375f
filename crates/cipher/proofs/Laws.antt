-- The laws of the cipher, for the layers above.
use Rattle.std.proofs.Common.{◌≡◌, ℕ, zero, suc, ◌≤◌, Bool, true, false, cond, ◌↔◌, List, [], ◌∷◌, length, take, Ok, Err, Result, sym, refl, ap, ◌∙◌, ap₂, arith, lit≤, eq-eqb}
use lib.Bits.{bit_xor, xor_assoc, xor_self, xor_zero_r}
use Rattle.std.specs.Int.Digits.{number_from_digits, AllBelowBase}
use Rattle.std.specs.Str.{bytes_eq}
use Rattle.std.proofs.lemmas.Slice.Eq.{bytes_eq-Decides}
use Rattle.std.proofs.lemmas.Bool.{le-leb}
use Rattle.std.proofs.lemmas.List.{length-take-le, take-take}
use Rattle.fault.specs.Checks.{is_granted}
use Rattle.big_endian.proofs.Laws.{bytes_back}
use Rattle.engine.specs.Permutation.{block_size}
use Rattle.engine.specs.declared.variants.Variant.{Variant}
use Rattle.engine.specs.declared.variants.Variant.TheVariants.{Dumbo, Jumbo, Delirium}
use Rattle.cipher.specs.Blocks.{padded_part, part, parts, xor_of, stream, sum_of_parts}
use Rattle.cipher.specs.Masks.{first_mask}
use Rattle.cipher.specs.Groups.{block_in}
use Rattle.cipher.specs.Mode.{tag_size, streamed_text, sealed_text, opened_text, enciphered_block, key_block, sum_with_parts, associated_sum, tag_sum, tag_from, tag}
use Rattle.cipher.specs.Calls.{CheckedText, check_answer, text_of_checked}
use Rattle.cipher.specs.Theorems.{LawfulSizes, CipherLaws}
use Rattle.cipher.specs.declared.faults.CipherFault.{CipherFault}
use Rattle.cipher.specs.declared.faults.CipherFault.TheVariants.{WrongTag}
use Rattle.cipher.proofs.XorLaws.{length_xored}
use Rattle.cipher.proofs.MaskLaws.{enciphered_length}
use Rattle.cipher.proofs.PartLaws.{padded_length}
use Rattle.cipher.proofs.AnswerLaws.{answer_laws}

xor_twice : (x k : ℕ) → bit_xor (bit_xor x k) k ≡ x
xor_twice x k = xor_assoc x k k ∙ ap (bit_xor x) (xor_self k) ∙ xor_zero_r x

pub xored_twice : (xs ks : List ℕ) → xor_of (xor_of xs ks) ks ≡ xs
unfolding xor_of
xored_twice [] ks = refl
xored_twice (x ∷ xs) [] = refl
xored_twice (x ∷ xs) (k ∷ ks) = ap₂ ◌∷◌ (xor_twice x k) (xored_twice xs ks)

pub streamed_length : (v : Variant) (first x text : List ℕ) → length (streamed_text v first x text) ≡ length text
unfolding streamed_text
streamed_length v first x text = length_xored text _

streamed_twice : (v : Variant) (first x text : List ℕ) → streamed_text v first x (streamed_text v first x text) ≡ text
unfolding streamed_text
streamed_twice v first x text =
    let n : length (xor_of text (stream (key_block v first x) (parts (block_size v) (length text)) 0)) ≡ length text = length_xored text _ in
    ap (λ m. xor_of (xor_of text (stream (key_block v first x) (parts (block_size v) (length text)) 0)) (stream (key_block v first x) (parts (block_size v) m) 0)) n
    ∙ xored_twice text (stream (key_block v first x) (parts (block_size v) (length text)) 0)

pub sealed_length : (v : Variant) (key nonce text : List ℕ) → length (sealed_text v key nonce text) ≡ length text
unfolding sealed_text
sealed_length v key nonce text = streamed_length v (first_mask v key) (padded_part (block_size v) nonce) text

pub opened_length : (v : Variant) (key nonce sealed : List ℕ) → length (opened_text v key nonce sealed) ≡ length sealed
unfolding opened_text
opened_length v key nonce sealed = streamed_length v (first_mask v key) (padded_part (block_size v) nonce) sealed

pub opened_sealed : (v : Variant) (key nonce text : List ℕ) → opened_text v key nonce (sealed_text v key nonce text) ≡ text
unfolding sealed_text opened_text
opened_sealed v key nonce text = streamed_twice v (first_mask v key) (padded_part (block_size v) nonce) text

summed_length : (f : ℕ → List ℕ) (k i : ℕ) (b : List ℕ) → length (sum_of_parts f k i b) ≡ length b
unfolding sum_of_parts
summed_length f zero i b = refl
summed_length f (suc k) i b = summed_length f k (suc i) (xor_of b (f i)) ∙ length_xored b (f i)

pub tag_sum_length : (v : Variant) (first nonce associated sealed : List ℕ) → length (tag_sum v first nonce associated sealed) ≡ block_size v
unfolding tag_sum associated_sum sum_with_parts part
tag_sum_length v first nonce associated sealed = summed_length _ _ _ _ ∙ summed_length _ _ _ _ ∙ padded_length (block_size v) _

tag_fits : (v : Variant) → tag_size v ≤ block_size v
tag_fits Dumbo = lit≤ tt
tag_fits Jumbo = lit≤ tt
tag_fits Delirium = lit≤ tt

-- A tag cut out of its block's room.
pub tag_held : (v : Variant) (room block : List ℕ) (m : ℕ) → m ≡ tag_size v → block_in v room ≡ block → take m room ≡ take (tag_size v) block
tag_held v room block m size e =
    ap (λ k. take k room) size ∙ sym (take-take (tag_size v) (block_size v) room (tag_fits v)) ∙ ap (take (tag_size v)) e

pub tag_length : (v : Variant) (key nonce associated sealed : List ℕ) → length (tag v key nonce associated sealed) ≡ tag_size v
unfolding tag tag_from
tag_length v key nonce associated sealed =
    let first = first_mask v key in
    let long : length (enciphered_block v first (tag_sum v first nonce associated sealed) 0 0) ≡ block_size v = enciphered_length v first (tag_sum v first nonce associated sealed) 0 0 (tag_sum_length v first nonce associated sealed) in
    length-take-le (tag_size v) (enciphered_block v first (tag_sum v first nonce associated sealed) 0 0) (omega (arith, tag_fits v))

-- Where the sizes are lawful, the tag alone decides.
pub sized_check : (v : Variant) (key nonce associated text tag_place : List ℕ) → LawfulSizes v key nonce associated text tag_place
    → check_answer v key nonce associated text tag_place
    ≡ cond (bytes_eq tag_place (tag v key nonce associated text)) (Ok (record { variant = v; key = number_from_digits 256 key; nonce = number_from_digits 256 nonce; sealed = text })) (Err WrongTag)
sized_check v key nonce associated text tag_place l =
    rw (
      eq-eqb (length key) 16 l.key_length,
      eq-eqb (length nonce) 12 l.nonce_length,
      le-leb (length associated) 65536 l.associated_length,
      le-leb (length text) 65536 l.text_length,
      eq-eqb (length tag_place) (tag_size v) l.tag_length,
    )

granted_cond : (b : Bool) (t : CheckedText) (f : CipherFault) → (let r : Result CheckedText CipherFault = cond b (Ok t) (Err f) in is_granted r ≡ b)
granted_cond true t f = refl
granted_cond false t f = refl

pub right_tag_passes : (v : Variant) (key nonce associated text tag_place : List ℕ) → LawfulSizes v key nonce associated text tag_place
    → (is_granted (check_answer v key nonce associated text tag_place) ≡ true) ↔ (tag_place ≡ tag v key nonce associated text)
right_tag_passes v key nonce associated text tag_place l =
    let same : is_granted (check_answer v key nonce associated text tag_place) ≡ bytes_eq tag_place (tag v key nonce associated text) =
    ap is_granted (sized_check v key nonce associated text tag_place l) ∙ granted_cond (bytes_eq tag_place (tag v key nonce associated text)) _ WrongTag in
    let decides = bytes_eq-Decides tag_place (tag v key nonce associated text) in
    ((λ e. decides.0 (sym same ∙ e)), (λ e. same ∙ decides.1 e))

pub opens_as_checked : (v : Variant) (key nonce sealed : List ℕ) → length key ≡ 16 → length nonce ≡ 12 → AllBelowBase 256 key → AllBelowBase 256 nonce
    → text_of_checked (record { variant = v; key = number_from_digits 256 key; nonce = number_from_digits 256 nonce; sealed = sealed }) ≡ opened_text v key nonce sealed
opens_as_checked v key nonce sealed lk ln uk un = ap₂ (λ k m. opened_text v k m sealed) (bytes_back 16 key lk uk) (bytes_back 12 nonce ln un)

pub laws : CipherLaws
laws =
    record {
      answers = answer_laws;
      passes_exactly_when_the_tag_is_right = right_tag_passes;
      opening_a_sealed_text_gives_it_back = opened_sealed;
      opens_under_the_key_of_its_check = opens_as_checked;
      sealing_keeps_the_length = sealed_length;
      tags_have_one_length = tag_length;
      sealed_texts_are_equal_exactly_when_the_texts_are = λ v key nonce a b.
          ((λ e. sym (opened_sealed v key nonce a) ∙ ap (opened_text v key nonce) e ∙ opened_sealed v key nonce b), (λ e. ap (sealed_text v key nonce) e));
    }
