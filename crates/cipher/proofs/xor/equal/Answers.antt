use Rattle.std.proofs.Common.{◌≡◌, eqb, ap, ◌∙◌, fold, rules, tests, arith}
use Rattle.std.specs.List.{zip}
use Rattle.std.proofs.lemmas.Iterator.{YieldsList-from_zip, YieldsList-from_slice}
use Rattle.std.proofs.lemmas.Iterator.Consumers.{fold_from_yields_List}
use Rattle.cipher.proofs.XorLaws.{differing, same_tested}
use Rattle.cipher.proofs.xor.equal.Goals as goal

pub returns : goal.returns
returns c =
    let r : c.fold.result ≡ fold differing 0 (zip c.args.a.now c.args.b.now) =
    fold_from_yields_List _ differing 0 c.fold.result c.fold.ensures.ran (YieldsList-from_zip (YieldsList-from_slice c.args.a.now (cc)) (YieldsList-from_slice c.args.b.now (cc))) (λ a x b q k. search (rules, tests)) in
    ap (λ z. eqb z 0) r ∙ same_tested c.args.a.now c.args.b.now (omega arith)
