use Rattle.std.proofs.Common.{◌==◌, ◌∙◌, rules, tests}
use Rattle.std.proofs.lemmas.Iterator.{YieldsList-from_slice}
use Rattle.std.proofs.lemmas.Iterator.Search.{all_from_yields_List}
use Rattle.envelope.proofs.LetterLaws.{all_zeros}
use Rattle.envelope.proofs.letters.all_zero.Goals as goal

pub returns : goal.returns
returns c =
    let xs = c.args.bytes.now in
    all_from_yields_List (λ x. x == 0) _ _ c.all.result c.all.ensures.ran (YieldsList-from_slice xs cc) (λ x b q k. search (rules, tests)) ∙ all_zeros xs
