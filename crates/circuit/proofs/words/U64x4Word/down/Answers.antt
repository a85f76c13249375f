use Rattle.std.proofs.Common.{◌/◌, ◌%◌, ◌^◌, ◌<◌, [], ◌∷◌, get_or, refl, ap, ◌∙◌, rules}
use Rattle.binary.specs.Bits.{bit}
use Rattle.circuit.proofs.Shifts.{zip_lane, same_lane, bit_down}
use Rattle.circuit.proofs.words.U64x4Word.down.Goals as goal

pub returns : goal.returns
returns c i k h =
    let v = c.args.self in
    let n = c.args.n in
    let small : get_or v (i % 4) 0 < 2 ^ 64 = search rules in
    ap (λ x. bit x k) (zip_lane (λ x m. x / 2 ^ m) v (n ∷ n ∷ n ∷ n ∷ []) i (search rules) refl ∙ ap (λ m. get_or v (i % 4) 0 / 2 ^ m) (same_lane n i))
    ∙ bit_down 64 (get_or v (i % 4) 0) n k small
