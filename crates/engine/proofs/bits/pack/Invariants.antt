use Rattle.binary.specs.Bits.{byte_of}
use Rattle.binary.proofs.MadeLaws.{Filled}
use Rattle.engine.proofs.bits.pack.Given as goal

abbrev pub invariant-loop-k : goal.invariant-loop-k
invariant-loop-k g l = Filled (byte_of l.bits) l.k l.out
