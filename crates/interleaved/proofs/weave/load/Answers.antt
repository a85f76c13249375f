use Rattle.std.proofs.Common.{arith, rules}
use Rattle.binary.proofs.MadeLaws.{filled_more, filled_end}
use Rattle.interleaved.specs.Words.{word_at, words_of_blocks}
use Rattle.interleaved.proofs.weave.load.Goals as goal

pub loop-l-preserved : goal.loop-l-preserved
loop-l-preserved c = (search rules, filled_more (word_at c.args.blocks.now) c.loop-l.word-items c.loop-l.l c.gather.result (omega arith) c.gather.ensures c.loop-l.invariant.1)

pub returns : goal.returns
unfolding words_of_blocks
returns c = filled_end 0 (word_at c.args.blocks.now) c.loop-l.word-items 25 c.loop-l.l c.loop-l.invariant.0 (omega arith) c.loop-l.invariant.1
