use Rattle.std.proofs.Common.{◌≡◌}
use Rattle.engine.specs.Spongent.{bits_after, counter}
use Rattle.engine.proofs.spongent.permute.Given as goal

-- the counter of the loop is the number of the rounds so far
abbrev pub invariant-loop : goal.invariant-loop
invariant-loop g l = (l.s ≡ bits_after l.first l.counter l.initial.s) × (l.c ≡ counter l.first l.counter)
