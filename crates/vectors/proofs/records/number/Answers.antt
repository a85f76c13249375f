use Rattle.std.proofs.Common.{◌∙◌, ap, inr}
use Rattle.vectors.specs.Layout.{number_in, ◌>>=◌}
use Rattle.vectors.proofs.Layouts.{number_in-ok, number_in-err}
use Rattle.vectors.proofs.records.number.Goals as goal

pub returns-in_default : goal.returns-in_default
returns-in_default c =
    inr (ap (λ r. r >>= number_in) c.in_ok-value.ensures
    ∙ number_in-err c.in_ok-value.field-0.now c.parse.result c.in_default.field-0 c.parse.ensures.value.0 c.in_default.is)

pub returns : goal.returns
returns c =
    ap (λ r. r >>= number_in) c.in_ok-value.ensures
    ∙ number_in-ok c.in_ok-value.field-0.now c.parse.result c.in-Ok.number c.parse.ensures.value.0 c.in-Ok.is
