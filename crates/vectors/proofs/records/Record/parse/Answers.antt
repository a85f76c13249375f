use Rattle.std.proofs.Common.{◌≡◌, ◌<◌, ◌≤◌, ◌⊎◌, length, Err, inr, sym, ap, ◌∙◌, subst, rules}
use Rattle.vectors.specs.Layout.{sealed_and_tag}
use Rattle.vectors.specs.declared.records.RecordFault.TheVariants.{Memory}
use Rattle.vectors.proofs.Layouts.{reading_refused, answer_of_lines-short, answer_of_lines-long, refused_count, refused_key, refused_nonce, refused_text, refused_associated, refused_both, refused_parts, answer_read}
use Rattle.vectors.proofs.records.Record.parse.Goals as goal
use Rattle.vectors.proofs.records.Record.parse.Goals.{in_default-via-then-lines-lt6, in_default-via-else-lines-lt6+else-lines-lt7}

pub returns-in_default : goal.returns-in_default
returns-in_default c = elim c.in_default.branch [
  | in_default-via-then-lines-lt6 w ↦ (let short : length c.args.lines.now < 6 = search rules in inr (answer_of_lines-short c.args.variant c.args.lines.now short))
  | in_default-via-else-lines-lt6+else-lines-lt7 w ↦ (let long : 7 ≤ length c.args.lines.now = search rules in inr (answer_of_lines-long c.args.variant c.args.lines.now long))
]

pub returns-in_err-number : goal.returns-in_err-number
returns-in_err-number c =
    reading_refused _ c.in_err-number.field-0.0 _ c.from_residual.ensures.1
    (refused_count c.args.variant c.args.lines.now c.in-len6.len_at_least c.in-len6.len_below _ c.in_err-number.ensures)

pub returns-in_err-key : goal.returns-in_err-key
returns-in_err-key c =
    reading_refused _ c.in_err-key.field-0.0 _ c.from_residual-in_err-key.ensures.1
    (refused_key c.args.variant c.args.lines.now c.in-len6.len_at_least c.in-len6.len_below _ c.in_ok-number.number c.in_ok-number.ensures c.in_err-key.ensures)

pub returns-in_err-nonce : goal.returns-in_err-nonce
returns-in_err-nonce c =
    reading_refused _ c.in_err-nonce.field-0.0 _ c.from_residual-in_err-nonce.ensures.1
    (refused_nonce c.args.variant c.args.lines.now c.in-len6.len_at_least c.in-len6.len_below _ c.in_ok-number.number c.in_ok-number.ensures c.in_ok-key.key.items c.in_ok-key.ensures c.in_err-nonce.ensures)

pub returns-in_err-text : goal.returns-in_err-text
returns-in_err-text c =
    reading_refused _ c.in_err-text.field-0.0 _ c.from_residual-in_err-text.ensures.1
    (refused_text c.args.variant c.args.lines.now c.in-len6.len_at_least c.in-len6.len_below _ c.in_ok-number.number c.in_ok-number.ensures c.in_ok-key.key.items c.in_ok-key.ensures c.in_ok-nonce.nonce.items c.in_ok-nonce.ensures c.in_err-text.ensures)

pub returns-in_err-associated : goal.returns-in_err-associated
returns-in_err-associated c =
    reading_refused _ c.in_err-associated.field-0.0 _ c.from_residual-in_err-associated.ensures.1
    (refused_associated c.args.variant c.args.lines.now c.in-len6.len_at_least c.in-len6.len_below _ c.in_ok-number.number c.in_ok-number.ensures c.in_ok-key.key.items c.in_ok-key.ensures c.in_ok-nonce.nonce.items c.in_ok-nonce.ensures c.in_ok-text.text.items c.in_ok-text.ensures c.in_err-associated.ensures)

pub returns-in_err-both : goal.returns-in_err-both
returns-in_err-both c =
    reading_refused _ c.in_err-both.field-0.0 _ c.from_residual-in_err-both.ensures.1
    (refused_both c.args.variant c.args.lines.now c.in-len6.len_at_least c.in-len6.len_below _ c.in_ok-number.number c.in_ok-number.ensures c.in_ok-key.key.items c.in_ok-key.ensures c.in_ok-nonce.nonce.items c.in_ok-nonce.ensures c.in_ok-text.text.items c.in_ok-text.ensures c.in_ok-associated.associated.items c.in_ok-associated.ensures c.in_err-both.ensures)

pub returns-in_err-sealed : goal.returns-in_err-sealed
returns-in_err-sealed c =
    reading_refused _ c.in_err-sealed.field-0.0 _ c.from_residual-in_err-sealed.ensures.1
    (refused_parts c.args.variant c.args.lines.now c.in-len6.len_at_least c.in-len6.len_below _ c.in_ok-number.number c.in_ok-number.ensures c.in_ok-key.key.items c.in_ok-key.ensures c.in_ok-nonce.nonce.items c.in_ok-nonce.ensures c.in_ok-text.text.items c.in_ok-text.ensures c.in_ok-associated.associated.items c.in_ok-associated.ensures c.in_ok-both.both.items c.in_ok-both.ensures
    (subst (λ whole. (c.in_err-sealed.field-0.0 ≡ Memory) ⊎ (sealed_and_tag c.args.variant whole ≡ Err c.in_err-sealed.field-0.0)) c.deref.ensures.value c.in_err-sealed.ensures))

pub returns : goal.returns
returns c =
    answer_read c.args.variant c.args.lines.now c.in-len6.len_at_least c.in-len6.len_below Memory c.in_ok-number.number c.in_ok-number.ensures c.in_ok-key.key.items c.in_ok-key.ensures c.in_ok-nonce.nonce.items c.in_ok-nonce.ensures c.in_ok-text.text.items c.in_ok-text.ensures c.in_ok-associated.associated.items c.in_ok-associated.ensures c.in_ok-both.both.items c.in_ok-both.ensures _ _
    (ap (sealed_and_tag c.args.variant) (sym c.deref.ensures.value) ∙ c.in_ok-sealed.ensures)
