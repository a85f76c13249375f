-- Known answers, when a variant agrees with one, and which are tried.
use Rattle.std.specs.Prelude.{ℕ, zero, suc, ◌-◌, Bool, true, false, not, ◌&&◌, List, [], ◌∷◌, map, filter, Ok, Err, Result}
use Rattle.std.specs.Str.{bytes_eq}
use Rattle.fault.specs.Checks.{is_granted}
use Rattle.engine.specs.declared.variants.Variant.{Variant}
use Rattle.cipher.specs.Mode.{sealed_text, tag}
use Rattle.cipher.specs.Calls.{CheckedText, seal_answer, check_answer, open_answer, text_of_checked}
use Rattle.cipher.specs.declared.faults.CipherFault.{CipherFault}
use Rattle.cipher.specs.declared.faults.CipherFault.TheVariants.{KeyLength, NonceLength, AssociatedDataLength, TextLength, TagLength, OutputLength, WrongTag, Engine}
use Rattle.vectors.specs.Bytes.{changed}

-- A known answer: a text, what it is sealed under, and the sealed text and tag that come of it.
pub record KnownAnswer : Type 0 where
  pub number : ℕ
  pub key : List ℕ
  pub nonce : List ℕ
  pub text : List ℕ
  pub associated : List ℕ
  pub sealed : List ℕ
  pub tag : List ℕ

-- Whether sealing the text, into places as long as the answer's sealed text and tag, is granted and gives these.
abbrev pub sealing_agreement : Variant → KnownAnswer → Bool
sealing_agreement v a =
    let sealed = sealed_text v a.key a.nonce a.text in
    is_granted (seal_answer v a.key a.nonce a.associated a.text a.sealed a.tag)
    && (bytes_eq sealed a.sealed && bytes_eq (tag v a.key a.nonce a.associated sealed) a.tag)

-- The answer of checking the sealed text under a tag.
abbrev pub checking : Variant → KnownAnswer → List ℕ → Result CheckedText CipherFault
checking v a tag_place = check_answer v a.key a.nonce a.associated a.sealed tag_place

-- Whether a check is granted, and the checked text opens to this text, in a place of its length.
abbrev pub opening_agreement : Result CheckedText CipherFault → List ℕ → Bool
opening_agreement (Ok t) text = is_granted (open_answer t text) && bytes_eq (text_of_checked t) text
opening_agreement (Err f) text = false

-- Whether a check is refused for the tag, and not for a size.
abbrev pub refusal_of_tag : Result CheckedText CipherFault → Bool
refusal_of_tag (Ok t) = false
refusal_of_tag (Err KeyLength) = false
refusal_of_tag (Err NonceLength) = false
refusal_of_tag (Err AssociatedDataLength) = false
refusal_of_tag (Err TextLength) = false
refusal_of_tag (Err TagLength) = false
refusal_of_tag (Err OutputLength) = false
refusal_of_tag (Err WrongTag) = true
refusal_of_tag (Err (Engine f)) = false

-- Whether a variant agrees with a known answer: the text is sealed to what the answer says, the sealed text passes under its tag and
-- opens to the text, and under the tag with one bit changed, another one from number to number, it is refused.
abbrev pub agreement : Variant → KnownAnswer → Bool
agreement v a =
    sealing_agreement v a
    && (opening_agreement (checking v a a.tag) a.text && refusal_of_tag (checking v a (changed a.number a.tag)))

-- Every step-th of a list, after the first few, which are passed over.
unfoldable pub sample : {X : Type 0} → ℕ → ℕ → List X → List X
sample step few [] = []
sample step zero (x ∷ xs) = x ∷ sample step (step - 1) xs
sample step (suc few) (x ∷ xs) = sample step few xs

-- The numbers of the answers with which a variant does not agree.
abbrev pub disagreeing_numbers : Variant → List KnownAnswer → List ℕ
disagreeing_numbers v answers = map (λ (a : KnownAnswer). a.number) (filter (λ a. not (agreement v a)) answers)
