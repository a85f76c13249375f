-- Parts of a place that are written one after another.
use Rattle.std.proofs.Common.{◌≡◌, ℕ, ◌+◌, ◌≤◌, List, ◌++◌, length, drop, sym, ap, ◌∙◌}
use borrow.Rule.Slice.PartMut.{put_mid}
use Rattle.std.proofs.lemmas.List.{take_at, drop_at, drop-drop, drop_all, append_assoc, append-nil}

-- After the first k places of xs are written, n more are.
pub write_more : (k n : ℕ) (front ys xs place : List ℕ) → length front ≡ k → place ≡ front ++ drop k xs → put_mid k n place ys ≡ (front ++ ys) ++ drop (k + n) xs
write_more k n front ys xs place l e =
    ap (λ p. put_mid k n p ys) e
    ∙ ap (λ p. p ++ (ys ++ drop n (drop k (front ++ drop k xs)))) (take_at front (drop k xs) k l)
    ∙ ap (λ p. front ++ (ys ++ drop n p)) (drop_at front (drop k xs) k l)
    ∙ ap (λ p. front ++ (ys ++ p)) (drop-drop n k xs)
    ∙ sym (append_assoc front ys (drop (k + n) xs))

-- All places are written.
pub write_all : (k : ℕ) (front xs place : List ℕ) → length xs ≤ k → place ≡ front ++ drop k xs → place ≡ front
write_all k front xs place l e = e ∙ ap (λ p. front ++ p) (drop_all k xs l) ∙ append-nil front
