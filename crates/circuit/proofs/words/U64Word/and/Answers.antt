use Rattle.binary.proofs.BitLaws.{bit_of_and}
use Rattle.circuit.proofs.words.U64Word.and.Goals as goal

pub returns : goal.returns
returns c i k h = bit_of_and c.args.self c.args.other k
