use Rattle.std.proofs.Common.{◌∙◌, rules, tests}
use Rattle.std.specs.Ordering.{is_lt}
use Rattle.std.proofs.lemmas.Iterator.{YieldsList-from_slice}
use Rattle.std.proofs.lemmas.Iterator.Consumers.{count_from_yields_List}
use Rattle.std.proofs.lemmas.Iterator.Search.{YieldsList-from_take_while}
use Rattle.list.proofs.Scans.{count_before}
use Rattle.list.proofs.ordered.count_ahead.Goals as goal

pub returns : goal.returns
returns g c =
    let order = g.T.Entry.compares in
    let e = c.args.e.now in
    let xs = c.args.entries.now in
    count_from_yields_List c.take_while.result c.count.result c.count.ensures.ran
    (YieldsList-from_take_while _ (λ x. is_lt (order x e)) (YieldsList-from_slice xs cc) c.take_while.ensures.closure c.take_while.ensures.done (λ x b q k. search (rules, tests)))
    ∙ count_before order e xs
