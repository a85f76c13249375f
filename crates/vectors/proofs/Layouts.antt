-- The reading of a text, step by step.
use Rattle.std.proofs.Common.{◌≡◌, ℕ, ◌^◌, ◌<◌, ◌≤◌, Bool, true, false, ◌&&◌, eqb, ltb, List, [], ◌∷◌, length, get_or, drop, Some, None, Ok, Err, Option, Result, inl, inr, refl, sym, ap, ◌∙◌, subst, arith, Decides, ◌⊎◌, codes}
use denote.Ref.{Bor}
use Rattle.std.specs.Option.{MatchOption, ok_or}
use Rattle.std.specs.Str.{all_ascii_digits, IsCharBoundary}
use Rattle.std.specs.Str.Parse.{IsNumeral, digits_value, without_leading_plus, ParsesUnsigned}
use Rattle.std.specs.Str.Pattern.{FindsTextPrefix, StripsPrefix}
use Rattle.std.specs.List.{starts_with}
use Rattle.std.proofs.lemmas.Bool.{cond-true, cond-false, false_from_ne_true}
use Rattle.std.proofs.lemmas.Bool.Decides.{Decides-and, Decides-ltb}
use Rattle.std.specs.Result.{IsErrAnd}
use Rattle.std.proofs.lemmas.Result.{OkIff-at_ok, OkIff-at_err}
use Rattle.std.proofs.lemmas.Str.Parse.{IsNumeralModel, numerals_by_value, tells_all_ascii_digits}
use Rattle.std.proofs.lemmas.Str.Pattern.{starts_text}
use Rattle.engine.specs.declared.variants.Variant.{Variant}
use Rattle.vectors.specs.KnownAnswers.{KnownAnswer}
use Rattle.vectors.specs.Layout.{field_value, number_in, number_value, bytes_value, sealed_and_tag, answer_of_six, answer_of_lines, ◌>>=◌}
use Rattle.vectors.specs.Views.{IsReading, known_answer, texts}
use Rattle.vectors.specs.declared.records.Record.{Record}
use Rattle.vectors.specs.declared.records.RecordFault.{RecordFault}
use Rattle.vectors.specs.declared.records.RecordFault.TheVariants.{Line, Number, Memory}

-- A line with the name of its field taken off, or refused.
pub field_value-read : (name line : List ℕ) (r : Option (Bor (List ℕ)))
    → MatchOption r (FindsTextPrefix name line None) (λ x. StripsPrefix (FindsTextPrefix name) line x.now)
    → IsReading {A = Bor (List ℕ)} {B = List ℕ} (λ x. x.now) (ok_or r Line) (field_value name line)
field_value-read name line (Some x) h =
    let begins : starts_with eqb line name ≡ true = sym (starts_text true name line (h.0, h.1, subst (IsCharBoundary line) (sym h.1.0) h.1.2)) in
    cond-true (starts_with eqb line name) _ _ begins
    ∙ (let value : drop (length name) line ≡ x.now = ap (λ n. drop n line) (sym h.1.0) ∙ sym h.2 in ap (λ v. Ok v) value)
field_value-read name line None h =
    let lacks : starts_with eqb line name ≡ false = sym (starts_text false name line h) in
    inr (cond-false (starts_with eqb line name) _ _ lacks)

own : IsNumeralModel (λ ds. all_ascii_digits ds ≡ true) (digits_value 10)
own = numerals_by_value _ tells_all_ascii_digits

abbrev is_number : List ℕ → Bool
is_number ds = ltb 0 (length ds) && (all_ascii_digits ds && ltb (digits_value 10 ds) (2 ^ 64))

is_number-Decides : (ds : List ℕ) → Decides (is_number ds) ((0 < length ds) × ((all_ascii_digits ds ≡ true) × (digits_value 10 ds < 2 ^ 64)))
is_number-Decides ds = Decides-and _ _ (Decides-ltb 0 (length ds)) (Decides-and _ _ (λ h. h, λ h. h) (Decides-ltb (digits_value 10 ds) (2 ^ 64)))

-- What `parse` reads as a number of 64 bits, and what it refuses.
pub number_in-ok : {E : Type 0} (bs : List ℕ) (r : Result ℕ E) (n : ℕ) → ParsesUnsigned 64 10 bs r → r ≡ Ok n → number_in bs ≡ Ok n
number_in-ok bs r n h e =
    let ds = without_leading_plus bs in
    let p = OkIff-at_ok r (IsNumeral 10 ds × (digits_value 10 ds < 2 ^ 64)) (digits_value 10 ds) n h e in
    let test : is_number ds ≡ true = (is_number-Decides ds).1 (p.0.0.0, (own.from ds p.0.0.1, p.0.1)) in
    cond-true (is_number ds) _ _ test ∙ ap (λ m. Ok m) (sym p.1)

pub number_in-err : {E : Type 0} (bs : List ℕ) (r : Result ℕ E) (e : E) → ParsesUnsigned 64 10 bs r → r ≡ Err e → number_in bs ≡ Err Number
number_in-err bs r e h is =
    let ds = without_leading_plus bs in
    let p = OkIff-at_err r (IsNumeral 10 ds × (digits_value 10 ds < 2 ^ 64)) (digits_value 10 ds) e h is in
    let test : is_number ds ≡ false = false_from_ne_true (is_number ds) (λ t.
    let q = (is_number-Decides ds).0 t in p ((q.0, own.to ds q.1.0), q.1.1)) in
    cond-false (is_number ds) _ _ test

-- A refused step refuses the whole.
pub reading_refused : (r : Result Record RecordFault) (f : RecordFault) (said : Result KnownAnswer RecordFault) → IsErrAnd r (λ e. e ≡ f)
    → (f ≡ Memory) ⊎ (said ≡ Err f) → IsReading known_answer r said
reading_refused (Ok x) f said h why = absurd h
reading_refused (Err e) f said h (inl m) = inl (h ∙ m)
reading_refused (Err e) f said h (inr is) = inr (is ∙ ap (λ g. Err g) (sym h))

-- Six steps and a seventh, one after another.
module _ (r0 : Result ℕ RecordFault) (r1 r2 r3 r4 r5 : Result (List ℕ) RecordFault) (part : List ℕ → Result (List ℕ × List ℕ) RecordFault) (f : RecordFault) where
  abbrev steps : Result KnownAnswer RecordFault
  steps = do
    n ← r0
    k ← r1
    m ← r2
    t ← r3
    a ← r4
    whole ← r5
    parts ← part whole
    Ok (record { number = n; key = k; nonce = m; text = t; associated = a; sealed = parts.0; tag = parts.1 })

  steps_0 : (f ≡ Memory) ⊎ (r0 ≡ Err f) → (f ≡ Memory) ⊎ (steps ≡ Err f)
  steps_0 (inl m) = inl m
  steps_0 (inr e) = inr (rw e)

  module _ (n : ℕ) (e0 : r0 ≡ Ok n) where
    steps_1 : (f ≡ Memory) ⊎ (r1 ≡ Err f) → (f ≡ Memory) ⊎ (steps ≡ Err f)
    steps_1 (inl m) = inl m
    steps_1 (inr e) = inr (rw (e0, e))

    module _ (k : List ℕ) (e1 : r1 ≡ Ok k) where
      steps_2 : (f ≡ Memory) ⊎ (r2 ≡ Err f) → (f ≡ Memory) ⊎ (steps ≡ Err f)
      steps_2 (inl m) = inl m
      steps_2 (inr e) = inr (rw (e0, e1, e))

      module _ (m : List ℕ) (e2 : r2 ≡ Ok m) where
        steps_3 : (f ≡ Memory) ⊎ (r3 ≡ Err f) → (f ≡ Memory) ⊎ (steps ≡ Err f)
        steps_3 (inl m) = inl m
        steps_3 (inr e) = inr (rw (e0, e1, e2, e))

        module _ (t : List ℕ) (e3 : r3 ≡ Ok t) where
          steps_4 : (f ≡ Memory) ⊎ (r4 ≡ Err f) → (f ≡ Memory) ⊎ (steps ≡ Err f)
          steps_4 (inl m) = inl m
          steps_4 (inr e) = inr (rw (e0, e1, e2, e3, e))

          module _ (a : List ℕ) (e4 : r4 ≡ Ok a) where
            steps_5 : (f ≡ Memory) ⊎ (r5 ≡ Err f) → (f ≡ Memory) ⊎ (steps ≡ Err f)
            steps_5 (inl m) = inl m
            steps_5 (inr e) = inr (rw (e0, e1, e2, e3, e4, e))

            module _ (whole : List ℕ) (e5 : r5 ≡ Ok whole) where
              steps_6 : (f ≡ Memory) ⊎ (part whole ≡ Err f) → (f ≡ Memory) ⊎ (steps ≡ Err f)
              steps_6 (inl m) = inl m
              steps_6 (inr e) = inr (rw (e0, e1, e2, e3, e4, e5, e))

              steps_done : (sealed tag : List ℕ) → part whole ≡ Ok (sealed, tag)
                  → steps ≡ Ok (record { number = n; key = k; nonce = m; text = t; associated = a; sealed = sealed; tag = tag })
              steps_done sealed tag e = rw (e0, e1, e2, e3, e4, e5, e)

-- Line i of those that are lent.
abbrev pub line_at : List (Bor (List ℕ)) → ℕ → List ℕ
line_at ls i = (get_or ls i (record { ref_ptr = (0, 0); now = [] })).now

six_lines : (v : Variant) (ls : List (Bor (List ℕ))) → 6 ≤ length ls → length ls < 7
    → answer_of_lines v (texts ls) ≡ answer_of_six v (line_at ls 0) (line_at ls 1) (line_at ls 2) (line_at ls 3) (line_at ls 4) (line_at ls 5)
six_lines v [] h k = absurd (omega arith)
six_lines v (a ∷ []) h k = absurd (omega arith)
six_lines v (a ∷ b ∷ []) h k = absurd (omega arith)
six_lines v (a ∷ b ∷ c ∷ []) h k = absurd (omega arith)
six_lines v (a ∷ b ∷ c ∷ d ∷ []) h k = absurd (omega arith)
six_lines v (a ∷ b ∷ c ∷ d ∷ e ∷ []) h k = absurd (omega arith)
six_lines v (a ∷ b ∷ c ∷ d ∷ e ∷ g ∷ []) h k = refl
six_lines v (a ∷ b ∷ c ∷ d ∷ e ∷ g ∷ i ∷ ls) h k = absurd (omega arith)

-- Other than six lines are none.
pub answer_of_lines-short : (v : Variant) (ls : List (Bor (List ℕ))) → length ls < 6 → answer_of_lines v (texts ls) ≡ Err Line
answer_of_lines-short v [] h = refl
answer_of_lines-short v (a ∷ []) h = refl
answer_of_lines-short v (a ∷ b ∷ []) h = refl
answer_of_lines-short v (a ∷ b ∷ c ∷ []) h = refl
answer_of_lines-short v (a ∷ b ∷ c ∷ d ∷ []) h = refl
answer_of_lines-short v (a ∷ b ∷ c ∷ d ∷ e ∷ []) h = refl
answer_of_lines-short v (a ∷ b ∷ c ∷ d ∷ e ∷ g ∷ ls) h = absurd (omega arith)

pub answer_of_lines-long : (v : Variant) (ls : List (Bor (List ℕ))) → 7 ≤ length ls → answer_of_lines v (texts ls) ≡ Err Line
answer_of_lines-long v [] h = absurd (omega arith)
answer_of_lines-long v (a ∷ []) h = absurd (omega arith)
answer_of_lines-long v (a ∷ b ∷ []) h = absurd (omega arith)
answer_of_lines-long v (a ∷ b ∷ c ∷ []) h = absurd (omega arith)
answer_of_lines-long v (a ∷ b ∷ c ∷ d ∷ []) h = absurd (omega arith)
answer_of_lines-long v (a ∷ b ∷ c ∷ d ∷ e ∷ []) h = absurd (omega arith)
answer_of_lines-long v (a ∷ b ∷ c ∷ d ∷ e ∷ g ∷ []) h = absurd (omega arith)
answer_of_lines-long v (a ∷ b ∷ c ∷ d ∷ e ∷ g ∷ i ∷ ls) h = refl

-- What six lines say, by the first that is refused, or by all.
module _ (v : Variant) (ls : List (Bor (List ℕ))) (at_least : 6 ≤ length ls) (below : length ls < 7) (f : RecordFault) where
  abbrev c0 : Result ℕ RecordFault
  c0 = number_value (codes "Count = ") (line_at ls 0)

  abbrev c1 : Result (List ℕ) RecordFault
  c1 = bytes_value (codes "Key = ") (line_at ls 1)

  abbrev c2 : Result (List ℕ) RecordFault
  c2 = bytes_value (codes "Nonce = ") (line_at ls 2)

  abbrev c3 : Result (List ℕ) RecordFault
  c3 = bytes_value (codes "PT = ") (line_at ls 3)

  abbrev c4 : Result (List ℕ) RecordFault
  c4 = bytes_value (codes "AD = ") (line_at ls 4)

  abbrev c5 : Result (List ℕ) RecordFault
  c5 = bytes_value (codes "CT = ") (line_at ls 5)

  abbrev Whole : Type 0
  Whole = (f ≡ Memory) ⊎ (answer_of_lines v (texts ls) ≡ Err f)

  whole_from_six : (f ≡ Memory) ⊎ (steps c0 c1 c2 c3 c4 c5 (sealed_and_tag v) f ≡ Err f) → Whole
  whole_from_six (inl m) = inl m
  whole_from_six (inr e) = inr (six_lines v ls at_least below ∙ e)

  pub refused_count : (f ≡ Memory) ⊎ (c0 ≡ Err f) → Whole
  refused_count e = whole_from_six (steps_0 c0 c1 c2 c3 c4 c5 (sealed_and_tag v) f e)

  module _ (n : ℕ) (e0 : c0 ≡ Ok n) where
    pub refused_key : (f ≡ Memory) ⊎ (c1 ≡ Err f) → Whole
    refused_key e = whole_from_six (steps_1 c0 c1 c2 c3 c4 c5 (sealed_and_tag v) f n e0 e)

    module _ (k : List ℕ) (e1 : c1 ≡ Ok k) where
      pub refused_nonce : (f ≡ Memory) ⊎ (c2 ≡ Err f) → Whole
      refused_nonce e = whole_from_six (steps_2 c0 c1 c2 c3 c4 c5 (sealed_and_tag v) f n e0 k e1 e)

      module _ (m : List ℕ) (e2 : c2 ≡ Ok m) where
        pub refused_text : (f ≡ Memory) ⊎ (c3 ≡ Err f) → Whole
        refused_text e = whole_from_six (steps_3 c0 c1 c2 c3 c4 c5 (sealed_and_tag v) f n e0 k e1 m e2 e)

        module _ (t : List ℕ) (e3 : c3 ≡ Ok t) where
          pub refused_associated : (f ≡ Memory) ⊎ (c4 ≡ Err f) → Whole
          refused_associated e = whole_from_six (steps_4 c0 c1 c2 c3 c4 c5 (sealed_and_tag v) f n e0 k e1 m e2 t e3 e)

          module _ (a : List ℕ) (e4 : c4 ≡ Ok a) where
            pub refused_both : (f ≡ Memory) ⊎ (c5 ≡ Err f) → Whole
            refused_both e = whole_from_six (steps_5 c0 c1 c2 c3 c4 c5 (sealed_and_tag v) f n e0 k e1 m e2 t e3 a e4 e)

            module _ (whole : List ℕ) (e5 : c5 ≡ Ok whole) where
              pub refused_parts : (f ≡ Memory) ⊎ (sealed_and_tag v whole ≡ Err f) → Whole
              refused_parts e = whole_from_six (steps_6 c0 c1 c2 c3 c4 c5 (sealed_and_tag v) f n e0 k e1 m e2 t e3 a e4 whole e5 e)

              pub answer_read : (sealed tag : List ℕ) → sealed_and_tag v whole ≡ Ok (sealed, tag)
                  → answer_of_lines v (texts ls) ≡ Ok (record { number = n; key = k; nonce = m; text = t; associated = a; sealed = sealed; tag = tag })
              answer_read sealed tag e =
                  six_lines v ls at_least below ∙ steps_done c0 c1 c2 c3 c4 c5 (sealed_and_tag v) f n e0 k e1 m e2 t e3 a e4 whole e5 sealed tag e
