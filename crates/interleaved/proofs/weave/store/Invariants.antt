use Rattle.interleaved.specs.Words.{stored_byte}
use Rattle.interleaved.proofs.Columns.{Columns}
use Rattle.interleaved.proofs.weave.store.Given as goal

abbrev pub invariant-loop-l : goal.invariant-loop-l
invariant-loop-l l = Columns (stored_byte l.words) l.l l.blocks
