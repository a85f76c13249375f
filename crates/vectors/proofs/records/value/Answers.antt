use Rattle.std.proofs.Common.{ℕ, List, sym, subst}
use denote.Ref.{Bor}
use Rattle.vectors.specs.Layout.{field_value}
use Rattle.vectors.specs.Views.{IsReading}
use Rattle.vectors.proofs.Layouts.{field_value-read}
use Rattle.vectors.proofs.records.value.Goals as goal

pub returns : goal.returns
returns c =
    subst (λ r. IsReading {A = Bor (List ℕ)} {B = List ℕ} (λ v. v.now) r (field_value c.args.name.now c.args.line.now)) (sym c.ok_or.ensures.value)
    (field_value-read c.args.name.now c.args.line.now c.strip_prefix.result c.strip_prefix.ensures.cases)
