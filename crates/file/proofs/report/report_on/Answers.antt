use Rattle.std.proofs.Common.{◌≡◌, sym, ap, ◌∙◌, subst}
use Rattle.file.specs.Sale.{WasHeld}
use Rattle.file.specs.Report.{report_by, refusal_by}
use Rattle.file.proofs.report.report_on.Goals as goal

pub returns-in-Ok : goal.returns-in-Ok
returns-in-Ok c =
    let h = c.in-Ok.ensures in
    record {
      prints = h.2.prints ∙ ap report_by (sym h.1);
      refuses = ap refusal_by (sym h.1);
      held = λ d e.
          let same : h.0 ≡ d = cc in
          subst WasHeld same h.2.held;
    }
