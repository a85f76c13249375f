use Rattle.std.proofs.Common.{◌≡◌}
use Rattle.engine.specs.Keccak.{state_after}
use Rattle.engine.proofs.keccak.permute.Given as goal

abbrev pub invariant-loop-constant : goal.invariant-loop-constant
invariant-loop-constant l = l.s ≡ state_after l.constant-index l.initial.s
