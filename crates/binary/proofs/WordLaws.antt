-- A word's bits, gate by gate.
use Rattle.std.proofs.Common.{◌≡◌, ℕ, ◌-◌, ◌^◌, ◌<◌, Bool, not, ◌&&◌, refl, ap, ◌∙◌, ap₂, arith, pow_pos}
use lib.Bits.{bit_and, bit_xor, xor_lt, and_lt}
use Rattle.binary.specs.Bits.{bit, differs}
use Rattle.binary.proofs.BitLaws.{bit_of_and, bit_of_xor, bit_not}

-- the word n of w bits has the bit x at place k
pub record Has (w k n : ℕ) (x : Bool) : Type 0 where
  pub small : n < 2 ^ w
  pub is : bit n k ≡ x

pub own : (w k n : ℕ) → n < 2 ^ w → Has w k n (bit n k)
own w k n h = record { small = h; is = refl }

pub and_has : {w k m n : ℕ} {x y : Bool} → Has w k m x → Has w k n y → Has w k (bit_and m n) (x && y)
and_has {w} {k} {m} {n} p q =
    record { small = and_lt w m n p.small q.small; is = bit_of_and m n k ∙ ap₂ (λ a b. a && b) p.is q.is }

pub xor_has : {w k m n : ℕ} {x y : Bool} → Has w k m x → Has w k n y → Has w k (bit_xor m n) (differs x y)
xor_has {w} {k} {m} {n} p q =
    record { small = xor_lt w m n p.small q.small; is = bit_of_xor m n k ∙ ap₂ differs p.is q.is }

pub not_has : {w k n : ℕ} {x : Bool} → k < w → Has w k n x → Has w k (2 ^ w - 1 - n) (not x)
not_has {w} {k} {n} h p =
    let pos = pow_pos w in record { small = omega arith; is = bit_not w n k p.small h ∙ ap not p.is }
