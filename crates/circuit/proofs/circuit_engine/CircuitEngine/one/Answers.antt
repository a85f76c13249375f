use Rattle.std.proofs.Common.{◌∙◌}
use Rattle.engine.specs.Permutation.{block_size, permutation}
use Rattle.circuit.specs.Kinds.{kind_of}
use Rattle.circuit.proofs.Parts.{one_part}
use Rattle.circuit.proofs.circuit_engine.CircuitEngine.one.Goals as goal

pub returns-clause-block : goal.returns-clause-block
returns-clause-block c = let v = kind_of c.args.self.now in c.replace.ensures.blocks ∙ one_part (permutation v) (block_size v) c.args.block.now
