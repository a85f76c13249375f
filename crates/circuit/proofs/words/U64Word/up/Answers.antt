use Rattle.circuit.proofs.Shifts.{bit_up}
use Rattle.circuit.proofs.words.U64Word.up.Goals as goal

pub returns : goal.returns
returns c i k h = bit_up 64 c.args.self c.args.n k h
