use Rattle.std.proofs.Common.{rules}
use Rattle.engine.specs.Permutation.{permutation}
use Rattle.circuit.proofs.circuit_engine.Circuit.replace.Goals as goal

pub returns-in-Dumbo-clause-blocks : goal.returns-in-Dumbo-clause-blocks
unfolding permutation
returns-in-Dumbo-clause-blocks g c = search rules

pub returns-in-Jumbo-clause-blocks : goal.returns-in-Jumbo-clause-blocks
unfolding permutation
returns-in-Jumbo-clause-blocks g c = search rules
