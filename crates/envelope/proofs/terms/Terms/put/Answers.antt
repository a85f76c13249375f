use Rattle.std.proofs.Common.{ℕ, ap, ◌∙◌, rules}
use Rattle.std.proofs.lemmas.List.{places}
use Rattle.big_endian.specs.Numbers.{bytes_of}
use Rattle.envelope.proofs.TermsLaws.{held_written}
use Rattle.envelope.proofs.terms.Terms.put.Goals as goal

pub returns : goal.returns
returns c =
    let t = c.args.self in
    held_written t c.args.held.now _ _ _ _ (search rules)
    (c.put_number.ensures ∙ ap (λ (n : ℕ). bytes_of n t.a) (search (rules, places)))
    (c.put_number-2.ensures ∙ ap (λ (n : ℕ). bytes_of n t.b) (search (rules, places)))
    (c.put_number-3.ensures ∙ ap (λ (n : ℕ). bytes_of n t.c) (search (rules, places)))
    (c.put_number-4.ensures ∙ ap (λ (n : ℕ). bytes_of n t.d) (search (rules, places)))
