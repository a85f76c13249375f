use Rattle.std.proofs.Common.{◌≡◌, ◌*◌, true, length, ap, ◌∙◌, rules}
use Rattle.std.proofs.lemmas.Result.{IfOk-weaker}
use Rattle.engine.specs.Permutation.{block_size}
use Rattle.bench.specs.Agreement.{agreement}
use Rattle.bench.proofs.Alike.{agreement-alike}
use Rattle.bench.proofs.agreement.agrees.Goals as goal

pub returns : goal.returns
returns g c =
    let v = g.E.Engine.kind c.args.engine.now in
    let w = c.variant-variant.result in
    let xs = c.deref.result.now in
    let size : length xs ≡ 4 * block_size w = search rules in
    let same = c.variant-variant.ensures.answer in
    IfOk-weaker c.agree.result (λ b. b ≡ agreement v w xs) (λ b. b ≡ true)
    (λ b is. is ∙ agreement-alike v w xs same (size ∙ ap (λ u. 4 * block_size u) same)) c.agree.ensures
