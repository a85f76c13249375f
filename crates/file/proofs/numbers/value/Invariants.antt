use Rattle.std.proofs.Common.{◌≡◌, ◌≤◌, drop}
use Rattle.file.specs.Numbers.{value_of}
use Rattle.file.proofs.Digits.{read_on}
use Rattle.file.proofs.numbers.value.Given as goal

abbrev pub invariant-loop-c : goal.invariant-loop-c
invariant-loop-c l = (l.n ≤ 4294967295) × (read_on l.n (drop l.c-index l.digits) ≡ value_of l.digits)
