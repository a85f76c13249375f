-- What holds of four holds of each.
use Rattle.std.proofs.Common.{ℕ, zero, suc, ◌<◌, arith}

pub by_four : (P : ℕ → Type 0) → P 0 → P 1 → P 2 → P 3 → (t : ℕ) → t < 4 → P t
by_four P a b c d zero h = a
by_four P a b c d (suc zero) h = b
by_four P a b c d (suc (suc zero)) h = c
by_four P a b c d (suc (suc (suc zero))) h = d
by_four P a b c d (suc (suc (suc (suc t)))) h = absurd (omega arith)
