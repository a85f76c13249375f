-- Parts of a place that holds blocks side by side.
use Rattle.std.proofs.Common.{◌≡◌, ℕ, ◌+◌, ◌*◌, ◌<◌, ◌≤◌, Bool, true, false, cond, eqb, List, length, take, drop, sym, refl, ap, ◌∙◌, add-one, one-mul, suc-mul, mul-le-mul_right, arith}
use Rattle.std.proofs.lemmas.List.{length-append, append-nil, length-take-le, length-drop, drop_at, take_all}
use Rattle.std.proofs.lemmas.Bool.{eqb-true}
use Rattle.binary.specs.Bits.{bits, block}
use Rattle.engine.specs.Calls.{place_by_length}
use Rattle.engine.specs.Permutation.{each}
use Rattle.engine.specs.Spongent.{bits_after, spongent}
use Rattle.engine.proofs.BlockLaws.{Done}

-- block i of several
pub within : (n i blocks b : ℕ) → i < blocks → b ≡ blocks * n → i * n + n ≤ b
within n i blocks b hi e = let up : (i + 1) * n ≤ blocks * n = mul-le-mul_right {m = i + 1} {n = blocks} n (omega arith) in let more : (i + 1) * n ≡ i * n + n = rw add-one (suc-mul i n) in omega arith

pub part_length : (n k : ℕ) (xs : List ℕ) → k + n ≤ length xs → length (take n (drop k xs)) ≡ n
part_length n k xs h = let rest = length-drop k xs in length-take-le n (drop k xs) (omega arith)

-- what follows the blocks that are done is as it was
pub rest_same : (f : List ℕ → List ℕ) (n k : ℕ) (xs ys : List ℕ) → length ys ≡ length xs → k * n + n ≤ length xs → Done f n k xs ys → drop (k * n) ys ≡ drop (k * n) xs
rest_same f n k xs ys same within done =
    let front : length (each f n k xs) ≡ k * n = omega (arith, simp (length-append, length-drop) at (ap length done)) in
    ap (drop (k * n)) done ∙ drop_at (each f n k xs) (drop (k * n) xs) (k * n) front

-- the bytes of the bits after all rounds, where old is what stood in the part
pub part_done : (first rounds : ℕ) (old part new : List ℕ) → old ≡ part → new ≡ block (length old) (bits_after first rounds (bits part)) → new ≡ spongent first rounds old
unfolding spongent
part_done first rounds old part new e is = is ∙ ap (λ v. block (length old) (bits_after first rounds (bits v))) (sym e)

-- one block is the only one
pub one_part : (f : List ℕ → List ℕ) (n : ℕ) (xs : List ℕ) → place_by_length (1 * n) (each f n 1) xs ≡ place_by_length n f xs
unfolding each
one_part f n xs = ap (λ m. place_by_length m (each f n 1) xs) (one-mul n) ∙ by (eqb (length xs) n) refl
  where
    by : (b : Bool) → eqb (length xs) n ≡ b → cond b (each f n 1 xs) xs ≡ cond b (f xs) xs
    by true e = let all : length xs ≡ n = eqb-true (length xs) n e in append-nil (f (take n xs)) ∙ ap f (take_all n xs (omega arith))
    by false e = refl
