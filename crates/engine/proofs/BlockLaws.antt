-- Neighbouring blocks, one more at a time, for any width and any function of a block.
use Rattle.std.proofs.Common.{◌≡◌, ℕ, zero, suc, ◌+◌, ◌-◌, ◌*◌, ◌≤◌, List, ◌++◌, length, take, drop, sym, ap, ◌∙◌, append_assoc, suc-mul, add_comm, zero-mul, add-one, arith}
use borrow.Rule.Slice.PartMut.{put_mid}
use Rattle.std.proofs.lemmas.List.{append-nil, drop-drop, length-append, length-drop, take_at, drop_at}
use Rattle.engine.specs.Permutation.{each}

pub each_more : (f : List ℕ → List ℕ) (n k : ℕ) (xs : List ℕ) → each f n (suc k) xs ≡ each f n k xs ++ f (take n (drop (k * n) xs))
unfolding each
each_more f n zero xs = append-nil (f (take n xs)) ∙ ap (λ m. f (take n (drop m xs))) (sym (zero-mul n))
each_more f n (suc k) xs =
    ap (λ t. f (take n xs) ++ t) (each_more f n k (drop n xs))
    ∙ sym (append_assoc (f (take n xs)) (each f n k (drop n xs)) (f (take n (drop (k * n) (drop n xs)))))
    ∙ ap (λ t. (f (take n xs) ++ each f n k (drop n xs)) ++ f (take n t)) (drop-drop (k * n) n xs ∙ ap (λ m. drop m xs) (add_comm n (k * n) ∙ sym (suc-mul k n)))

-- after k blocks: the place ys, of xs's length, holds the k results and then what xs had
abbrev pub Done : (List ℕ → List ℕ) → ℕ → ℕ → List ℕ → List ℕ → Type 0
Done f n k xs ys = ys ≡ each f n k xs ++ drop (k * n) xs

pub done_none : (f : List ℕ → List ℕ) (n : ℕ) (xs : List ℕ) → Done f n 0 xs xs
unfolding each
done_none f n xs = ap (λ m. drop m xs) (sym (zero-mul n))

pub done_more : (f : List ℕ → List ℕ) (n k : ℕ) (xs ys part : List ℕ) → length ys ≡ length xs → k * n + n ≤ length xs
    → Done f n k xs ys → part ≡ f (take (k * n + n - k * n) (drop (k * n) ys)) → Done f n (k + 1) xs (put_mid (k * n) (k * n + n - k * n) ys part)
done_more f n k xs ys part same within done is =
    let front : length (each f n k xs) ≡ k * n = omega (arith, simp (length-append, length-drop) at (ap length done)) in
    let width : k * n + n - k * n ≡ n = omega arith in
    let more : (k + 1) * n ≡ k * n + n = rw add-one (suc-mul k n) in
    let rest : drop (k * n) ys ≡ drop (k * n) xs = ap (drop (k * n)) done ∙ drop_at (each f n k xs) (drop (k * n) xs) (k * n) front in
    let before : take (k * n) ys ≡ each f n k xs = ap (take (k * n)) done ∙ take_at (each f n k xs) (drop (k * n) xs) (k * n) front in
    rw (width, before, rest, is, width, rest, more, add-one, each_more f n k xs, drop-drop) (sym (append_assoc (each f n k xs) (f (take n (drop (k * n) xs))) (drop (k * n + n) xs)))
