use Rattle.std.proofs.Common.{◌%◌, get_or, ap, ◌∙◌, rules}
use lib.Bits.{bit_and}
use Rattle.binary.specs.Bits.{bit}
use Rattle.binary.proofs.BitLaws.{bit_of_and}
use Rattle.circuit.proofs.Shifts.{zip_lane}
use Rattle.circuit.proofs.words.U64x4Word.and.Goals as goal

pub returns : goal.returns
returns c i k h =
    let v = c.args.self in
    let w = c.args.other in
    ap (λ x. bit x k) (zip_lane bit_and v w i (search rules) (search rules)) ∙ bit_of_and (get_or v (i % 4) 0) (get_or w (i % 4) 0) k
