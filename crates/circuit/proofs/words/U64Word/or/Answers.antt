use Rattle.binary.proofs.BitLaws.{bit_of_or}
use Rattle.circuit.proofs.words.U64Word.or.Goals as goal

pub returns : goal.returns
returns c i k h = bit_of_or c.args.self c.args.other k
