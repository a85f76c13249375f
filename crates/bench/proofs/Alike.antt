-- Engines of one variant agree.
use Rattle.std.proofs.Common.{◌≡◌, ℕ, ◌*◌, Bool, true, ◌&&◌, eqb, List, length, take, refl, ap, ◌∙◌, arith}
use Rattle.fault.specs.Checks.{is_granted}
use Rattle.engine.specs.declared.variants.Variant.{Variant}
use Rattle.engine.specs.Permutation.{block_size}
use Rattle.engine.specs.Calls.{answer_by_length, one_answer, one_after, four_answer, four_after}
use Rattle.std.specs.Str.{bytes_eq}
use Rattle.std.proofs.lemmas.Bool.{cond-true, eq-eqb, and_from}
use Rattle.std.proofs.lemmas.List.{length-take-le}
use Rattle.std.proofs.lemmas.Slice.Eq.{bytes_eq-Decides}
use Rattle.bench.specs.Agreement.{agreement}

answered-at : (m : ℕ) (xs : List ℕ) → length xs ≡ m → is_granted (answer_by_length m xs) ≡ true
answered-at m xs h = ap is_granted (cond-true (eqb (length xs) m) _ _ (eq-eqb (length xs) m h))

alike : (g : Bool) (zs : List ℕ) → g ≡ true → (g && (g && bytes_eq zs zs)) ≡ true
alike g zs h = and_from g (g && bytes_eq zs zs) h (and_from g (bytes_eq zs zs) h ((bytes_eq-Decides zs zs).1 refl))

agreement-same : (v : Variant) (xs : List ℕ) → length xs ≡ 4 * block_size v → agreement v v xs ≡ true
agreement-same v xs h =
    let first = take (block_size v) xs in
    let size : length first ≡ block_size v = length-take-le (block_size v) xs (omega arith) in
    and_from _ _
    (alike (is_granted (four_answer v xs)) (four_after v xs) (answered-at (4 * block_size v) xs h))
    (alike (is_granted (one_answer v first)) (one_after v first) (answered-at (block_size v) first size))

pub agreement-alike : (v w : Variant) (xs : List ℕ) → w ≡ v → length xs ≡ 4 * block_size v → agreement v w xs ≡ true
agreement-alike v w xs same h = ap (λ u. agreement v u xs) same ∙ agreement-same v xs h
