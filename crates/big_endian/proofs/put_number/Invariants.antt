use Rattle.std.proofs.Common.{◌≡◌, ◌++◌, length, drop}
use Rattle.big_endian.specs.Numbers.{bytes_of}
use Rattle.big_endian.proofs.put_number.Given as goal

abbrev pub invariant-loop-i : goal.invariant-loop-i
invariant-loop-i l = bytes_of l.i l.rest ++ drop l.i l.out ≡ bytes_of (length l.initial.out) l.n
