use Rattle.std.proofs.Common.{◌*◌}
use Rattle.binary.specs.Bits.{word}
use Rattle.binary.proofs.MadeLaws.{Filled}
use Rattle.circuit.specs.Packed.{packed_bit}
use Rattle.circuit.proofs.bytes.store.Given as goal

abbrev pub invariant-loop-k : goal.invariant-loop-k
invariant-loop-k g l = Filled (λ k. word (packed_bit g.S.Spongent.WIDTH l.ws) (8 * k) 8) l.k l.xs
