use Rattle.binary.proofs.BitLaws.{bit_of_xor}
use Rattle.circuit.proofs.words.U64Word.xor.Goals as goal

pub returns : goal.returns
returns c i k h = bit_of_xor c.args.self c.args.other k
