use Rattle.std.proofs.Common.{ℕ, List, ap, ◌∙◌}
use Rattle.interleaved.specs.Words.{words, w_rho, w_pi, w_chi, w_add}
use Rattle.interleaved.proofs.rounds.round.Goals as goal

pub returns : goal.returns
returns c =
    ap (w_add c.args.constant)
    (c.chi-t.ensures ∙ ap (λ (ws : List ℕ). words (w_chi ws)) (c.rho_pi.ensures ∙ ap (λ (ws : List ℕ). words (w_pi (words (w_rho ws)))) c.theta.ensures))
