use Rattle.std.proofs.Common.{◌*◌, ◌%◌, ◌^◌, [], ◌∷◌, get_or, refl, ap, ◌∙◌, rules}
use Rattle.binary.specs.Bits.{bit}
use Rattle.circuit.proofs.Shifts.{zip_lane, same_lane, bit_up}
use Rattle.circuit.proofs.words.U64x4Word.up.Goals as goal

pub returns : goal.returns
returns c i k h =
    let v = c.args.self in
    let n = c.args.n in
    ap (λ x. bit x k) (zip_lane (λ x m. (x * 2 ^ m) % 2 ^ 64) v (n ∷ n ∷ n ∷ n ∷ []) i (search rules) refl ∙ ap (λ m. (get_or v (i % 4) 0 * 2 ^ m) % 2 ^ 64) (same_lane n i))
    ∙ bit_up 64 (get_or v (i % 4) 0) n k h
