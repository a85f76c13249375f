use Rattle.std.proofs.Common.{◌≡◌, ◌*◌}
use Rattle.interleaved.specs.Words.{w_after}
use Rattle.interleaved.proofs.rounds.all_rounds.Given as goal

abbrev pub invariant-loop-even : goal.invariant-loop-even
invariant-loop-even l = l.s ≡ w_after (2 * l.even-index) l.initial.s
