use Rattle.std.proofs.Common.{◌∙◌, rules, tests}
use Rattle.std.proofs.lemmas.Iterator.{YieldsList-from_slice}
use Rattle.std.proofs.lemmas.Iterator.Search.{all_from_yields_List}
use Rattle.file.specs.Hexadecimal.{is_hex_digit}
use Rattle.file.proofs.Pairs.{hex_all}
use Rattle.file.proofs.hexadecimal.are_digits.Goals as goal

pub returns : goal.returns
returns c =
    all_from_yields_List (λ x. is_hex_digit x) _ _ c.all.result c.all.ensures.ran (YieldsList-from_slice c.args.digits.now (cc)) (λ x b q k. search (rules, tests))
    ∙ hex_all c.args.digits.now
