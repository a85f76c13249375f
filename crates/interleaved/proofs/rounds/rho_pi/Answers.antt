use Rattle.std.proofs.Common.{◌≡◌, ℕ, ◌*◌, ◌/◌, ◌%◌, ◌^◌, ◌<◌, get_or, sym, ◌∙◌, ap₂, arith, rules}
use lib.Bits.{bit_or}
use Rattle.std.specs.Int.Bits.{or_self}
use Rattle.interleaved.specs.Words.{turn}
use Rattle.interleaved.proofs.rounds.rho_pi.Goals as goal

-- A word turned by no place.
still : (n : ℕ) → n < 2 ^ 32 → n ≡ turn 0 n
still n h =
    let a : n ≡ (n * 2 ^ 0) % 2 ^ 32 = omega (arith, h) in
    let b : n ≡ n / 2 ^ 0 = omega arith in
    sym (or_self n) ∙ ap₂ bit_or a b

pub returns : goal.returns
returns c =
    let s = c.args.s.now in
    let e₀ = still (get_or s 0 0) (search rules) in
    let e₁₉ = still (get_or s 19 0) (search rules) in
    let e₂₃ = still (get_or s 23 0) (search rules) in
    search (rules, e₀, e₁₉, e₂₃)
