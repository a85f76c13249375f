use Rattle.std.proofs.Common.{◌≡◌}
use Rattle.bench.proofs.agreement.agreed_trials.Given as goal

abbrev pub invariant-loop-trial : goal.invariant-loop-trial
invariant-loop-trial g l = l.agreed ≡ l._trial
