-- When the calls of the cipher are granted, and which of several faults refuses them.
use Rattle.std.proofs.Common.{◌≡◌, ◌≢◌, ℕ, true, ◌↔◌, List, [], ◌∷◌, length, ◌==◌, Err, refl, ◌∙◌, eq-eqb}
use Rattle.std.specs.Int.Digits.{number_from_digits}
use Rattle.std.specs.Str.{bytes_eq}
use Rattle.std.proofs.lemmas.Slice.Eq.{bytes_eq-Decides}
use Rattle.std.proofs.lemmas.Bool.{eqb-true, ne_eqb, leb-true, le-leb, lt-leb, false_from_ne_true}
use Rattle.fault.specs.Checks.{Check, decision, is_granted}
use Rattle.fault.proofs.Checks.{AllPassed, granted_exactly_where_passed}
use Rattle.engine.specs.declared.variants.Variant.{Variant}
use Rattle.cipher.specs.Mode.{tag_size, tag}
use Rattle.cipher.specs.Calls.{CheckedText, key_check, size_checks, seal_answer, check_answer}
use Rattle.cipher.specs.Theorems.{LawfulSizes, FirstSizeDecides, LawsOfAnswers}
use Rattle.cipher.specs.declared.faults.CipherFault.{CipherFault}
use Rattle.cipher.specs.declared.faults.CipherFault.TheVariants.{OutputLength, WrongTag}

module _ (v : Variant) (key nonce associated text tag_place : List ℕ) (others : List (Check CipherFault)) where
  -- The checks of sizes are passed exactly where all sizes are lawful.
  sizes_passed : AllPassed (size_checks v key nonce associated text tag_place others) → LawfulSizes v key nonce associated text tag_place × AllPassed others
  sizes_passed p = (
    record {
      key_length = eqb-true (length key) 16 p.0;
      nonce_length = eqb-true (length nonce) 12 p.1.0;
      associated_length = leb-true (length associated) 65536 p.1.1.0;
      text_length = leb-true (length text) 65536 p.1.1.1.0;
      tag_length = eqb-true (length tag_place) (tag_size v) p.1.1.1.1.0;
    },
    p.1.1.1.1.1,
  )

  sizes_pass : LawfulSizes v key nonce associated text tag_place → AllPassed others → AllPassed (size_checks v key nonce associated text tag_place others)
  sizes_pass l o = (
    eq-eqb (length key) 16 l.key_length,
    (
      eq-eqb (length nonce) 12 l.nonce_length,
      (
        le-leb (length associated) 65536 l.associated_length,
        (le-leb (length text) 65536 l.text_length, (eq-eqb (length tag_place) (tag_size v) l.tag_length, o)),
      ),
    ),
  )

  -- Where all sizes are lawful, the other checks decide.
  others_decide : {X : Type 0} (x : X) → LawfulSizes v key nonce associated text tag_place → decision (size_checks v key nonce associated text tag_place others) x ≡ decision others x
  others_decide x l =
      rw (
        eq-eqb (length key) 16 l.key_length,
        eq-eqb (length nonce) 12 l.nonce_length,
        le-leb (length associated) 65536 l.associated_length,
        le-leb (length text) 65536 l.text_length,
        eq-eqb (length tag_place) (tag_size v) l.tag_length,
      )

  first_decides : {X : Type 0} (x : X) → FirstSizeDecides (decision (size_checks v key nonce associated text tag_place others) x) v key nonce associated text tag_place
  first_decides x =
      record {
        the_key = λ h. rw (ne_eqb (length key) 16 h);
        then_the_nonce = λ lk h. rw (eq-eqb (length key) 16 lk, ne_eqb (length nonce) 12 h);
        then_the_associated_data = λ lk ln h. rw (eq-eqb (length key) 16 lk, eq-eqb (length nonce) 12 ln, lt-leb (length associated) 65536 h);
        then_the_text = λ lk ln la h.
            rw (eq-eqb (length key) 16 lk, eq-eqb (length nonce) 12 ln, le-leb (length associated) 65536 la, lt-leb (length text) 65536 h);
        then_the_tag = λ lk ln la lt h.
            rw (
              eq-eqb (length key) 16 lk,
              eq-eqb (length nonce) 12 ln,
              le-leb (length associated) 65536 la,
              le-leb (length text) 65536 lt,
              ne_eqb (length tag_place) (tag_size v) h,
            );
      }

module _ (v : Variant) (key nonce associated text out tag_place : List ℕ) where
  abbrev fits : List (Check CipherFault)
  fits = ((length out == length text), OutputLength) ∷ []

  sealing_granted : (is_granted (seal_answer v key nonce associated text out tag_place) ≡ true) ↔ (LawfulSizes v key nonce associated text tag_place × (length out ≡ length text))
  sealing_granted =
      let by_checks = granted_exactly_where_passed (size_checks v key nonce associated text tag_place fits) tt in (
        (λ e. let p = sizes_passed v key nonce associated text tag_place fits (by_checks.0 e) in (p.0, eqb-true (length out) (length text) p.1.0)),
        (λ l. by_checks.1 (sizes_pass v key nonce associated text tag_place fits l.0 (eq-eqb (length out) (length text) l.1, tt))),
      )

  sealing_refused : FirstSizeDecides (seal_answer v key nonce associated text out tag_place) v key nonce associated text tag_place
      × (LawfulSizes v key nonce associated text tag_place → length out ≢ length text → seal_answer v key nonce associated text out tag_place ≡ Err OutputLength)
  sealing_refused = (
    first_decides v key nonce associated text tag_place fits tt,
    (λ l h. others_decide v key nonce associated text tag_place fits tt l ∙ rw (ne_eqb (length out) (length text) h)),
  )

module _ (v : Variant) (key nonce associated text tag_place : List ℕ) where
  abbrev right : List (Check CipherFault)
  right = (bytes_eq tag_place (tag v key nonce associated text), WrongTag) ∷ []

  abbrev checked : CheckedText
  checked = record { variant = v; key = number_from_digits 256 key; nonce = number_from_digits 256 nonce; sealed = text }

  checking_granted : (is_granted (check_answer v key nonce associated text tag_place) ≡ true) ↔ (LawfulSizes v key nonce associated text tag_place × (tag_place ≡ tag v key nonce associated text))
  checking_granted =
      let by_checks = granted_exactly_where_passed (size_checks v key nonce associated text tag_place right) checked in
      let decides = bytes_eq-Decides tag_place (tag v key nonce associated text) in (
        (λ e. let p = sizes_passed v key nonce associated text tag_place right (by_checks.0 e) in (p.0, decides.0 p.1.0)),
        (λ l. by_checks.1 (sizes_pass v key nonce associated text tag_place right l.0 (decides.1 l.1, tt))),
      )

  checking_refused : FirstSizeDecides (check_answer v key nonce associated text tag_place) v key nonce associated text tag_place
      × (LawfulSizes v key nonce associated text tag_place → tag_place ≢ tag v key nonce associated text → check_answer v key nonce associated text tag_place ≡ Err WrongTag)
  checking_refused =
      let decides = bytes_eq-Decides tag_place (tag v key nonce associated text) in (
        first_decides v key nonce associated text tag_place right checked,
        (λ l h.
            others_decide v key nonce associated text tag_place right checked l
            ∙ rw (false_from_ne_true (bytes_eq tag_place (tag v key nonce associated text)) (λ e. h (decides.0 e)))),
      )

pub answer_laws : LawsOfAnswers
answer_laws =
    record {
      tags_have_8_8_and_16_bytes = (refl, refl, refl);
      a_key_is_granted_exactly_where_it_has_16_bytes = λ key.
          (let by_checks = granted_exactly_where_passed (key_check key ∷ []) tt in
          ((λ e. eqb-true (length key) 16 (by_checks.0 e).0), (λ l. by_checks.1 (eq-eqb (length key) 16 l, tt))));
      sealing_is_granted_exactly_where_all_sizes_are_lawful = sealing_granted;
      sealing_is_refused_for_the_first_fault = sealing_refused;
      checking_is_granted_exactly_where_sizes_and_tag_are_right = checking_granted;
      checking_is_refused_for_the_first_fault = checking_refused;
      opening_is_granted_exactly_where_the_output_fits = λ t out.
          (let by_checks = granted_exactly_where_passed (((length out == length t.sealed), OutputLength) ∷ []) tt in
          ((λ e. eqb-true (length out) (length t.sealed) (by_checks.0 e).0), (λ l. by_checks.1 (eq-eqb (length out) (length t.sealed) l, tt))));
    }
