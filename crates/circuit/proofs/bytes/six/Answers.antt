use Rattle.std.proofs.Common.{◌≡◌, ℕ, zero, suc, ◌+◌, ◌-◌, ◌<◌, [], ◌∷◌, ◌++◌, get_or, drop, ap, ◌∙◌, ⊎_elim, lit<, arith, rules}
use Rattle.std.proofs.lemmas.Bool.{cases_lt}
use Rattle.std.proofs.lemmas.List.{get_or_append_left, get_or-append_right, get_or-take, get_or-drop}
use Rattle.circuit.proofs.Octets.{six_bits}
use Rattle.circuit.proofs.bytes.six.Goals as goal

zeros_small : (j : ℕ) → get_or (0 ∷ 0 ∷ []) j 0 < 256
zeros_small zero = lit< tt
zeros_small (suc zero) = lit< tt
zeros_small (suc (suc j)) = lit< tt

pub returns : goal.returns
returns c k h =
    let xs = c.args.xs.now in
    let i = c.args.i in
    let six = c.copy_from_slice.new.self in
    let copied = c.copy_from_slice.ensures in
    let same : (j : ℕ) → j < 6 → get_or (six ++ 0 ∷ 0 ∷ []) j 0 ≡ get_or xs (i + j) 0 =
    λ j l. get_or_append_left six (0 ∷ 0 ∷ []) 0 j (omega (arith, copied.len)) ∙ ap (λ v. get_or v j 0) copied.after
    ∙ get_or-take (i + 6 - i) (drop i xs) j 0 (omega arith) ∙ get_or-drop i xs j 0 in
    let small : (j : ℕ) → get_or (six ++ 0 ∷ 0 ∷ []) j 0 < 256 =
    λ j. ⊎_elim (λ l. let fits : get_or xs (i + j) 0 < 256 = search rules in rw (same j l) fits) (λ l. rw (get_or-append_right six (0 ∷ 0 ∷ []) 6 j 0 copied.len l) (zeros_small (j - 6))) (cases_lt j 6) in
    six_bits xs (six ++ 0 ∷ 0 ∷ []) i c.from_le_bytes.result k h (search rules) small same c.from_le_bytes.ensures
