-- Facts about the checks of tags: what they answer, and what a checked letter opens to.
use Rattle.std.proofs.Common.{◌≡◌, ℕ, Bool, true, false, cond, length, Ok, Err, Result, sym, refl, ap, ◌∙◌}
use Rattle.std.specs.Int.Digits.{number_from_digits, AllBelowBase}
use Rattle.std.specs.Result.{is_ok}
use Rattle.std.specs.Str.{bytes_eq}
use Rattle.std.proofs.lemmas.Bool.{eq-eqb, true≢false}
use Rattle.fault.specs.Checks.{by_answer}
use Rattle.engine.specs.declared.variants.Variant.{Variant}
use Rattle.cipher.specs.Mode.{tag, opened_text}
use Rattle.cipher.specs.Calls.{CheckedText, check_answer, open_answer, text_of_checked}
use Rattle.cipher.specs.Views.{open_seen}
use Rattle.cipher.specs.declared.checked.Checked.{Checked}
use Rattle.cipher.specs.Theorems.{LawfulSizes}
use Rattle.cipher.specs.declared.faults.CipherFault.{CipherFault}
use Rattle.cipher.specs.declared.faults.CipherFault.TheVariants.{OutputLength, WrongTag}
use Rattle.cipher.proofs.Laws.{sized_check, opens_as_checked}
use Rattle.envelope.specs.Letters.{amount_offered}
use Rattle.room.specs.Sales.{Bytes}
use Rattle.room.proofs.CodeChecks.{not_both, same_value}

-- An opening into a place of the text's length is granted.
module _ (t : CheckedText) (out : Bytes) (long : length out ≡ length t.sealed) where
  pub open_granted : (r : Result (Unit {0}) (CipherFault × Checked)) → open_seen r ≡ open_answer t out → is_ok r ≡ true
  open_granted (Ok u) h = refl
  open_granted (Err e) h = absurd (not_both tt e.0 (sym (h ∙ ap (λ b. cond b (Ok tt) (Err OutputLength)) (eq-eqb _ _ long))))

  pub open_writes : (r : Result (Unit {0}) (CipherFault × Checked)) → open_seen r ≡ open_answer t out → by_answer r (text_of_checked t) out ≡ text_of_checked t
  open_writes (Ok u) h = refl
  open_writes (Err e) h = absurd (true≢false (sym (open_granted (Err e) h)))

-- What a check of lawful sizes answers.
module _ (v : Variant) (key nonce ad text tag_place : Bytes) (sizes : LawfulSizes v key nonce ad text tag_place) where
  abbrev checked : CheckedText
  checked = record { variant = v; key = number_from_digits 256 key; nonce = number_from_digits 256 nonce; sealed = text }

  sized : (b : Bool) (r : Result CheckedText CipherFault) → bytes_eq tag_place (tag v key nonce ad text) ≡ b → r ≡ check_answer v key nonce ad text tag_place → r ≡ cond b (Ok checked) (Err WrongTag)
  sized b r e h = h ∙ sized_check v key nonce ad text tag_place sizes ∙ ap (λ t. cond t (Ok checked) (Err WrongTag)) e

  pub check_passed : (t : CheckedText) → ◌≡◌ {A = Result CheckedText CipherFault} (Ok t) (check_answer v key nonce ad text tag_place) → (bytes_eq tag_place (tag v key nonce ad text) ≡ true) × (t ≡ checked)
  check_passed t h = go (bytes_eq tag_place (tag v key nonce ad text)) refl
    where
      go : (b : Bool) → bytes_eq tag_place (tag v key nonce ad text) ≡ b → (bytes_eq tag_place (tag v key nonce ad text) ≡ true) × (t ≡ checked)
      go true e = (e, same_value t checked (sized true (Ok t) e h))
      go false e = absurd (not_both t WrongTag (sized false (Ok t) e h))

  pub checked_length : (t : CheckedText) → ◌≡◌ {A = Result CheckedText CipherFault} (Ok t) (check_answer v key nonce ad text tag_place) → length t.sealed ≡ length text
  checked_length t h = ap (λ z. length z.sealed) (check_passed t h).1

  pub opened_amount : (t : CheckedText) → ◌≡◌ {A = Result CheckedText CipherFault} (Ok t) (check_answer v key nonce ad text tag_place) → AllBelowBase 256 key → AllBelowBase 256 nonce
      → (n : ℕ) (w : Bytes) → w ≡ text_of_checked t → n ≡ amount_offered w → n ≡ cond (bytes_eq tag_place (tag v key nonce ad text)) (amount_offered (opened_text v key nonce text)) 0
  opened_amount t h uk un n w ew en =
      let p = check_passed t h in
      let q = p.0 in
      rw q (en ∙ ap amount_offered (ew ∙ ap text_of_checked p.1 ∙ opens_as_checked v key nonce text sizes.key_length sizes.nonce_length uk un))
