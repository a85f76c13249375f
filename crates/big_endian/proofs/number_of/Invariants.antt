use Rattle.std.proofs.Common.{◌≡◌, ◌^◌, ◌<◌, length, take}
use Rattle.std.specs.Int.Digits.{number_from_digits}
use Rattle.big_endian.proofs.number_of.Given as goal

-- the number of the bytes so far
abbrev pub invariant-loop-b : goal.invariant-loop-b
invariant-loop-b l =
    (l.n ≡ number_from_digits 256 (take (length l.yielded) (take 16 l.bytes))) × (l.n < 256 ^ length l.yielded)
