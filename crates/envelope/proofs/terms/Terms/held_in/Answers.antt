use Rattle.std.proofs.Common.{◌<◌, rules}
use Rattle.std.proofs.ByRecursion.{All-from_get_or}
use Rattle.envelope.proofs.TermsLaws.{held_back, terms_held}
use Rattle.envelope.proofs.terms.Terms.held_in.Goals as goal

pub returns-clause-held : goal.returns-clause-held
returns-clause-held c =
    let xs = c.args.held.now in
    held_back xs _ (search rules) (All-from_get_or (λ d. d < 256) xs 0 (λ i h. c.fits-held i))
    c.number_of.ensures c.number_of-2.ensures c.number_of-3.ensures c.number_of-4.ensures

pub returns-clause-terms : goal.returns-clause-terms
returns-clause-terms c = terms_held _ c.args.held.now (returns-clause-held c)
