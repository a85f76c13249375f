use Rattle.std.proofs.Common.{◌≡◌, ◌+◌, take, IfSome, vec_items, subst}
use Rattle.file.specs.Sale.{Tells}
use Rattle.file.specs.Lines.{most_bytes}
use Rattle.file.proofs.Reports.{ok_mapped, tells_of_left}
use Rattle.file.proofs.report.report_from.Goals as goal

pub returns : goal.returns
returns g c =
    let left = g.R.Read.remaining c.args.reader in
    let first = ok_mapped c.read_file.result c.in_ok-text.text (λ text. IfSome left (λ bytes. vec_items text ≡ take (most_bytes + 1) bytes)) c.in_ok-text.ensures.cases c.read_file.ensures.first in
    tells_of_left left (vec_items c.in_ok-text.text) c.in_ok-report.report first (subst (λ x. Tells x c.in_ok-report.report) c.deref.ensures.value c.in_ok-report.ensures)
