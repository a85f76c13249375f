use Rattle.std.proofs.Common.{sym, ◌∙◌, arith, rules}
use Rattle.envelope.proofs.LetterLaws.{lawful_length, unlawful_length, offered, offered_none, amount_read}
use Rattle.envelope.proofs.letters.amount_in.Goals as goal

pub returns-in-Some : goal.returns-in-Some
returns-in-Some c =
    let xs = c.args.letter.now in
    let h = sym c.if-is_lawful.ensures in
    let l = lawful_length xs h in
    amount_read xs c.in-Some.amount.now c.from_be_bytes.result (omega arith) (search rules) c.from_be_bytes.ensures ∙ sym (offered xs h)

pub returns-in_default : goal.returns-in_default
returns-in_default c = sym (offered_none c.args.letter.now (sym c.if-is_lawful.ensures))

pub returns-in_default-2 : goal.returns-in_default-2
returns-in_default-2 c =
    let xs = c.args.letter.now in
    let k = rw c.in_default.is at c.first_chunk.ensures.cases in
    sym (offered_none xs (sym (unlawful_length xs (λ e. omega (arith, k, e)))))
