use Rattle.std.proofs.Common.{◌-◌, ◌%◌, ◌^◌, ◌<◌, get_or, ap, ◌∙◌, rules}
use Rattle.binary.specs.Bits.{bit}
use Rattle.binary.proofs.BitLaws.{bit_not}
use Rattle.circuit.proofs.Shifts.{map_lane}
use Rattle.circuit.proofs.words.U64x4Word.not.Goals as goal

pub returns : goal.returns
returns c i k h =
    let v = c.args.self in
    let small : get_or v (i % 4) 0 < 2 ^ 64 = search rules in
    ap (λ x. bit x k) (map_lane (λ n. 2 ^ 64 - 1 - n) v i (search rules)) ∙ bit_not 64 (get_or v (i % 4) 0) k small h
