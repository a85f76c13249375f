use Rattle.std.proofs.Common.{◌*◌, sym, ap, ◌∙◌, ap₂}
use Rattle.engine.specs.Permutation.{permutation, each}
use Rattle.engine.specs.declared.variants.Variant.TheVariants.{Delirium}
use Rattle.engine.proofs.CallLaws.{replaced_granted}
use Rattle.interleaved.specs.Words.{blocks_of_words, w_after}
use Rattle.interleaved.proofs.Interleaving.{blocks_are}
use Rattle.interleaved.proofs.interleaved_engine.permute.Goals as goal

pub returns-clause-blocks : goal.returns-clause-blocks
returns-clause-blocks g c =
    let k = g.row.BLOCKS in
    let xs = c.args.blocks.now in
    c.store.ensures ∙ ap₂ blocks_of_words c.if-blocks.false (c.all_rounds.ensures ∙ ap (w_after 18) c.load.ensures)
    ∙ blocks_are k xs c.requires c.if-blocks.false ∙ sym (replaced_granted (k * 25) (each (permutation Delirium) 25 k) xs c.if-blocks.false)
