use Rattle.engine.specs.Spongent.{spongent}
use Rattle.engine.proofs.BlockLaws.{Done}
use Rattle.circuit.proofs.blocks.permute.Given as goal

abbrev pub invariant-loop-i : goal.invariant-loop-i
invariant-loop-i g l = Done (spongent g.S.Spongent.FIRST g.S.Spongent.ROUNDS) l.n l.i l.initial.blocks l.blocks
