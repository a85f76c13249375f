-- What holds at each of n places, by computing.
use Rattle.std.proofs.Common.{◌≡◌, ℕ, zero, suc, ◌<◌, Bool, true, false, ◌&&◌, refl, ap, ◌∙◌, ⊎_elim, not-suc-le-zero, arith}
use Rattle.std.proofs.lemmas.Bool.{cases_lt}

abbrev pub all_of : ℕ → (ℕ → Bool) → Bool
all_of zero f = true
all_of (suc n) f = f n && all_of n f

and_left : (a b : Bool) → (a && b) ≡ true → a ≡ true
and_left true b e = refl
and_left false b e = e

and_right : (a b : Bool) → (a && b) ≡ true → b ≡ true
and_right true b e = e
and_right false true e = refl
and_right false false e = e

pub each_of : (n : ℕ) (f : ℕ → Bool) → all_of n f ≡ true → (p : ℕ) → p < n → f p ≡ true
each_of zero f e p h = absurd (not-suc-le-zero h)
each_of (suc n) f e p h =
    ⊎_elim
    (λ l. each_of n f (and_right (f n) (all_of n f) e) p l)
    (λ l. let same : p ≡ n = omega arith in ap f same ∙ and_left (f n) (all_of n f) e)
    (cases_lt p n)
