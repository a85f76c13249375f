use Rattle.std.proofs.Common.{rules}
use Rattle.circuit.proofs.Shifts.{bit_down}
use Rattle.circuit.proofs.words.U64Word.down.Goals as goal

pub returns : goal.returns
returns c i k h = bit_down 64 c.args.self c.args.n k (search rules)
