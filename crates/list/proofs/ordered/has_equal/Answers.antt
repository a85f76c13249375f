use Rattle.std.proofs.Common.{◌∙◌, rules, tests}
use Rattle.std.specs.Ordering.{is_eq}
use Rattle.std.proofs.lemmas.Iterator.{YieldsList-from_slice}
use Rattle.std.proofs.lemmas.Iterator.Search.{any_from_yields_List}
use Rattle.list.proofs.Scans.{any_equal}
use Rattle.list.proofs.ordered.has_equal.Goals as goal

pub returns : goal.returns
returns g c =
    let order = g.T.Entry.compares in
    let e = c.args.e.now in
    any_from_yields_List (λ x. is_eq (order x e)) _ _ c.any.result c.any.ensures.ran (YieldsList-from_slice c.args.entries.now cc) (λ x b q k. search (rules, tests))
    ∙ any_equal order e c.args.entries.now
