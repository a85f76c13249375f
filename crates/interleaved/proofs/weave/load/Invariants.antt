use Rattle.std.proofs.Common.{◌≡◌, length}
use Rattle.binary.proofs.MadeLaws.{Filled}
use Rattle.interleaved.specs.Words.{word_at}
use Rattle.interleaved.proofs.weave.load.Given as goal

abbrev pub invariant-loop-l : goal.invariant-loop-l
invariant-loop-l l = (length l.word-items ≡ 25) × Filled (word_at l.blocks) l.l l.word-items
