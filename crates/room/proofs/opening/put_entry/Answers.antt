use Rattle.std.proofs.Common.{◌≡◌, ltb, true, sym, ◌∙◌}
use Rattle.std.proofs.lemmas.Bool.{lt-ltb}
use Rattle.room.proofs.CodeChecks.{not_both}
use Rattle.room.proofs.CodeSheets.{granted_next, placed_next}
use Rattle.room.proofs.opening.put_entry.Goals as goal

pub returns-in_err-insert : goal.returns-in_err-insert
returns-in_err-insert c =
    let sheet = c.args.sheet.now in
    absurd (not_both _ _ (sym (c.in_err-insert.ensures.answer ∙ granted_next sheet.places.now sheet.count c.args.offer c.requires.room c.requires.last)))

pub returns-in_ok-insert-clause-places : goal.returns-in_ok-insert-clause-places
returns-in_ok-insert-clause-places c =
    let sheet = c.args.sheet.now in
    let some : ltb 0 c.args.offer.amount ≡ true = lt-ltb 0 c.args.offer.amount c.if-offer-gt0.true in
    rw some (c.in_ok-insert.ensures.places ∙ placed_next sheet.places.now sheet.count c.args.offer c.requires.room c.requires.last)
