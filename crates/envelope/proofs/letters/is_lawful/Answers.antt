use Rattle.std.proofs.Common.{◌<◌, length, get_or, sym, ◌∙◌, arith}
use Rattle.std.proofs.lemmas.Bool.{false≢true, eqb-true, leb-true, leb-false}
use Rattle.envelope.specs.Letters.{most_cents}
use Rattle.envelope.proofs.LetterLaws.{unlawful_length, unlawful_amount, long_note, lawful_zeros, amount_read}
use Rattle.envelope.proofs.letters.is_lawful.Goals.{then-letter-eq-LETTER_BYTES, else-letter-eq-LETTER_BYTES, then-from_be_bytes-le-MOST_CENTS, else-from_be_bytes-le-MOST_CENTS}
use Rattle.envelope.proofs.letters.is_lawful.Goals as goal

pub returns-in_default : goal.returns-in_default
returns-in_default c =
    let k = rw c.in_default.is at c.split_first_chunk.ensures.cases in
    unlawful_length c.args.letter.now (λ e. omega (arith, k, e))

pub returns-in_default-rest : goal.returns-in_default-rest
returns-in_default-rest c =
    let parts = c.in-Some.ensures in
    let none : length c.in-Some.rest.now < 1 = c.in_default-rest.len_below in
    unlawful_length c.args.letter.now (λ e. omega (arith, parts.cases.2, none, e))

pub returns-then-note_bytes-le-MOST_NOTE_BYTES : goal.returns-then-note_bytes-le-MOST_NOTE_BYTES
returns-then-note_bytes-le-MOST_NOTE_BYTES c =
    let xs = c.args.letter.now in
    let bytes = c.in-Some.amount.now in
    let rest = c.in-Some.rest.now in
    let parts = c.in-Some.ensures in
    elim c.if-from_be_bytes-le-MOST_CENTS.branch [
      | then-from_be_bytes-le-MOST_CENTS w ↦
          elim c.if-letter-eq-LETTER_BYTES.branch [
            | then-letter-eq-LETTER_BYTES u ↦
                (let l = u.if-letter-eq-LETTER_BYTES.true in
                let n = leb-true u.from_be_bytes.result most_cents (sym u.value-is ∙ w.if-from_be_bytes-le-MOST_CENTS.true) in
                let a = amount_read xs bytes u.from_be_bytes.result (omega arith) parts.cases.0 u.from_be_bytes.ensures in
                let m = leb-true (get_or rest 0 0) 55 (sym w.value-is ∙ c.if-note_bytes-le-MOST_NOTE_BYTES.true) in
                c.all_zero.ensures ∙ lawful_zeros xs rest parts.cases.1 l (omega arith) m)
            | else-letter-eq-LETTER_BYTES u ↦ absurd (u.if-letter-eq-LETTER_BYTES.false (eqb-true (length xs) 64 (sym u.value-is ∙ w.if-from_be_bytes-le-MOST_CENTS.true)))
          ]
      | else-from_be_bytes-le-MOST_CENTS w ↦ absurd (false≢true (sym w.if-from_be_bytes-le-MOST_CENTS.false ∙ sym w.value-is ∙ c.if-note_bytes-le-MOST_NOTE_BYTES.true))
    ]

pub returns-else-note_bytes-le-MOST_NOTE_BYTES : goal.returns-else-note_bytes-le-MOST_NOTE_BYTES
returns-else-note_bytes-le-MOST_NOTE_BYTES c =
    let xs = c.args.letter.now in
    let bytes = c.in-Some.amount.now in
    let rest = c.in-Some.rest.now in
    let parts = c.in-Some.ensures in
    c.if-note_bytes-le-MOST_NOTE_BYTES.false
    ∙ elim c.if-from_be_bytes-le-MOST_CENTS.branch [
      | then-from_be_bytes-le-MOST_CENTS w ↦ long_note xs rest parts.cases.1 (leb-false (get_or rest 0 0) 55 (sym w.value-is ∙ c.if-note_bytes-le-MOST_NOTE_BYTES.false))
      | else-from_be_bytes-le-MOST_CENTS w ↦
          elim c.if-letter-eq-LETTER_BYTES.branch [
            | then-letter-eq-LETTER_BYTES u ↦
                (let l = u.if-letter-eq-LETTER_BYTES.true in
                let n = leb-false u.from_be_bytes.result most_cents (sym u.value-is ∙ w.if-from_be_bytes-le-MOST_CENTS.false) in
                let a = amount_read xs bytes u.from_be_bytes.result (omega arith) parts.cases.0 u.from_be_bytes.ensures in
                unlawful_amount xs (omega arith))
            | else-letter-eq-LETTER_BYTES u ↦ unlawful_length xs u.if-letter-eq-LETTER_BYTES.false
          ]
    ]
