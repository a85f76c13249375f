use Rattle.std.proofs.Common.{◌≡◌, ◌<◌, length, Ok, Result, sym, ap, ◌∙◌, arith}
use Rattle.std.specs.Result.{is_ok}
use Rattle.std.proofs.ByRecursion.{All-from_get_or}
use Rattle.std.proofs.lemmas.Bool.{true≢false}
use Rattle.cipher.specs.Calls.{CheckedText, check_answer}
use Rattle.cipher.specs.Theorems.{LawfulSizes}
use Rattle.cipher.specs.Views.{text_of}
use Rattle.cipher.specs.declared.faults.CipherFault.{CipherFault}
use Rattle.room.proofs.CodeChecks.{not_both}
use Rattle.room.proofs.CodeTags.{checked_length, open_granted, open_writes, opened_amount}
use Rattle.room.proofs.conditions.Conditions.open_amount.Given.{Over}
use Rattle.room.proofs.conditions.Conditions.open_amount.Goals as goal
use Rattle.room.proofs.conditions.Conditions.open_amount.Goals.{After-open, in-Ok, in-Err+in_ok-text-in-Err}

sizes : (g : Over) (c : After-open g)
    → LawfulSizes (g.E.Engine.kind c.args.self.now.engine.now) c.args.key.now c.args.nonce.now c.args.self.now.terms.now c.args.sealed.now c.args.tag.now
sizes g c = record {
  key_length = c.requires.key;
  nonce_length = c.requires.nonce;
  associated_length = omega (arith, c.args.self.now.short);
  text_length = omega arith;
  tag_length = c.requires.tag;
}

-- The text that is opened is the one whose check was passed.
passed : (g : Over) (c : After-open g)
    → ◌≡◌ {A = Result CheckedText CipherFault} (Ok (text_of c.match-check.text)) (check_answer (g.E.Engine.kind c.args.self.now.engine.now) c.args.key.now c.args.nonce.now c.args.self.now.terms.now c.args.sealed.now c.args.tag.now)
passed g c =
    elim c.match-check.branch [
      | in-Ok w ↦ ap (λ t. Ok (text_of t)) w.text-is ∙ w.in-Ok.ensures
      | in-Err+in_ok-text-in-Err w ↦ absurd (not_both _ _ (sym w.in_ok-text-in-Err.was))
    ]

long : (g : Over) (c : After-open g) → length c.args.work.now ≡ length c.match-check.text.sealed.now
long g c = omega (arith, checked_length (g.E.Engine.kind c.args.self.now.engine.now) _ _ _ _ _ (sizes g c) _ (passed g c))

pub returns : goal.returns
returns g c =
    let o = (goal.at.returns g c).After-open in
    ap Ok (opened_amount (g.E.Engine.kind c.args.self.now.engine.now) _ _ _ _ _ (sizes g o) _ (passed g o)
    (All-from_get_or (λ b. b < 256) c.args.key.now 0 (λ i l. (c.type_inv.key i).fits)) (All-from_get_or (λ b. b < 256) c.args.nonce.now 0 (λ i l. (c.type_inv.nonce i).fits))
    _ _ (c.open.ensures.out ∙ open_writes (text_of c.match-check.text) c.args.work.now (long g o) c.open.result c.open.ensures.answer) c.amount_in.ensures)

pub returns-in_err-map_err : goal.returns-in_err-map_err
returns-in_err-map_err g c =
    let o = (goal.at.returns-in_err-map_err g c).After-open in
    let granted = open_granted (text_of c.match-check.text) c.args.work.now (long g o) c.open.result c.open.ensures.answer in
    absurd (true≢false (sym granted ∙ sym c.map_err.ensures.variant ∙ ap is_ok c.in_err-map_err.was))
