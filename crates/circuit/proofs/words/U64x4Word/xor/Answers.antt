use Rattle.std.proofs.Common.{◌%◌, get_or, ap, ◌∙◌, rules}
use lib.Bits.{bit_xor}
use Rattle.binary.specs.Bits.{bit}
use Rattle.binary.proofs.BitLaws.{bit_of_xor}
use Rattle.circuit.proofs.Shifts.{zip_lane}
use Rattle.circuit.proofs.words.U64x4Word.xor.Goals as goal

pub returns : goal.returns
returns c i k h =
    let v = c.args.self in
    let w = c.args.other in
    ap (λ x. bit x k) (zip_lane bit_xor v w i (search rules) (search rules)) ∙ bit_of_xor (get_or v (i % 4) 0) (get_or w (i % 4) 0) k
