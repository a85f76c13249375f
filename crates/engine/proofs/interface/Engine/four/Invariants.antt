use Rattle.engine.specs.Permutation.{permutation}
use Rattle.engine.proofs.BlockLaws.{Done}
use Rattle.engine.proofs.interface.Engine.four.Given as goal

abbrev pub invariant-loop-i : goal.invariant-loop-i
invariant-loop-i g l = Done (permutation (g.Self.Engine.kind l.self)) l.n l.i l.initial.blocks l.blocks
