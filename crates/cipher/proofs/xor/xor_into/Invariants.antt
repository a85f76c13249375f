use Rattle.std.proofs.Common.{◌≡◌, take}
use Rattle.cipher.specs.Blocks.{xor_of}
use Rattle.cipher.proofs.xor.xor_into.Given as goal

abbrev pub invariant-loop-k : goal.invariant-loop-k
invariant-loop-k l = l.target ≡ xor_of l.initial.target (take l.k l.source)
