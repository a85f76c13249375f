use Rattle.std.proofs.Common.{◌≡◌, ◌-◌, ◌^◌, ◌<◌, length}
use Rattle.binary.specs.Bits.{value}
use Rattle.engine.proofs.bits.number.Given as goal

-- the number of the bits so far, which are the highest
abbrev pub invariant-loop-b : goal.invariant-loop-b
invariant-loop-b l =
    (l.n ≡ value l.bits (length l.bits - length l.yielded) (length l.yielded)) × (l.n < 2 ^ length l.yielded)
