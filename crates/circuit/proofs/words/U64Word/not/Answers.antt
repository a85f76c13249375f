use Rattle.std.proofs.Common.{rules}
use Rattle.binary.proofs.BitLaws.{bit_not}
use Rattle.circuit.proofs.words.U64Word.not.Goals as goal

pub returns : goal.returns
returns c i k h = bit_not 64 c.args.self k (search rules) h
