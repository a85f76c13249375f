use Rattle.std.proofs.Common.{◌∙◌}
use Rattle.engine.specs.Permutation.{permutation}
use Rattle.engine.specs.declared.variants.Variant.TheVariants.{Delirium}
use Rattle.interleaved.proofs.Interleaving.{one_block}
use Rattle.interleaved.proofs.interleaved_engine.InterleavedEngine.one.Goals as goal

pub returns-clause-block : goal.returns-clause-block
returns-clause-block c = c.permute.ensures.blocks ∙ one_block (permutation Delirium) 25 c.args.block.now
