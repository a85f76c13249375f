-- Blocks side by side: any block_size, any functions.
use Rattle.std.proofs.Common.{◌≡◌, ℕ, zero, suc, ◌+◌, ◌-◌, ◌*◌, ◌<◌, ◌≤◌, List, ◌++◌, length, take, drop, sym, refl, ap, ◌∙◌, ap₂, ⊎_elim, add-zero, suc-mul, suc-add, zero-add, zero-mul, add-one, arith}
use borrow.Rule.Slice.PartMut.{put_mid}
use Rattle.std.proofs.lemmas.Bool.{cases_lt}
use Rattle.std.proofs.lemmas.List.{append-nil, append_assoc, drop-drop, length-append, take_at, drop_at}
use Rattle.std.proofs.lemmas.Nat.{mul-le}
use Rattle.engine.specs.Permutation.{each}
use Rattle.cipher.specs.Blocks.{xor_of, stream, sum_of_parts, iterate}
use Rattle.cipher.proofs.XorLaws.{length_xored, xored_append, xored_enough}

pub length_stream : (f : ℕ → List ℕ) (n k i : ℕ) → ((q : ℕ) → length (f q) ≡ n) → length (stream f k i) ≡ k * n
unfolding stream
length_stream f n zero i h = sym (zero-mul n)
length_stream f n (suc k) i h = length-append (f i) (stream f k (suc i)) ∙ ap₂ ◌+◌ (h i) (length_stream f n k (suc i) h) ∙ omega (arith, suc-mul k n)

-- k parts and then g parts
pub stream_add : (f : ℕ → List ℕ) (k g i : ℕ) → stream f (k + g) i ≡ stream f k i ++ stream f g (k + i)
unfolding stream
stream_add f zero g i = ap₂ (stream f) (zero-add g) (sym (zero-add i))
stream_add f (suc k) g i =
    let e : k + suc i ≡ suc k + i = omega arith in
    ap (λ z. stream f z i) (suc-add k g)
    ∙ ap (λ z. f i ++ z) (stream_add f k g (suc i) ∙ ap (λ z. stream f k (suc i) ++ stream f g z) e)
    ∙ sym (append_assoc (f i) (stream f k (suc i)) (stream f g (suc k + i)))

pub stream_more : (f : ℕ → List ℕ) (k i : ℕ) → stream f (k + 1) i ≡ stream f k i ++ f (k + i)
unfolding stream
stream_more f k i = stream_add f k 1 i ∙ ap (λ z. stream f k i ++ z) (append-nil (f (k + i)))

-- the same blocks by other numbers
pub stream_shift : (f g : ℕ → List ℕ) (k i j : ℕ) → ((q : ℕ) → f (q + i) ≡ g (q + j)) → stream f k i ≡ stream g k j
unfolding stream
stream_shift f g zero i j h = refl
stream_shift f g (suc k) i j h =
    ap₂ ◌++◌ (ap f (sym (zero-add i)) ∙ h 0 ∙ ap g (zero-add j))
    (stream_shift f g k (suc i) (suc j) (λ q. let a : q + suc i ≡ suc q + i = omega arith in let b : suc q + j ≡ q + suc j = omega arith in ap f a ∙ h (suc q) ∙ ap g b))

cons : (f : ℕ → List ℕ) (k i : ℕ) (a : List ℕ) → a ++ stream f (suc k) i ≡ a ++ (f i ++ stream f k (suc i))
unfolding stream
cons f k i a = refl

-- block q of them
pub stream_at : (f : ℕ → List ℕ) (n k q i : ℕ) → ((q : ℕ) → length (f q) ≡ n) → q < k → take n (drop (q * n) (stream f k i)) ≡ f (q + i)
stream_at f n k q i h l =
    let e : k ≡ q + suc (k - suc q) = omega arith in
    let a : stream f k i ≡ stream f q i ++ (f (q + i) ++ stream f (k - suc q) (suc (q + i))) = ap (λ z. stream f z i) e ∙ stream_add f q (suc (k - suc q)) i ∙ cons f (k - suc q) (q + i) (stream f q i) in
    ap (λ z. take n (drop (q * n) z)) a
    ∙ ap (take n) (drop_at (stream f q i) _ (q * n) (length_stream f n q i h))
    ∙ take_at (f (q + i)) _ n (h (q + i))

-- two streams xored
pub xored_stream : (f g : ℕ → List ℕ) (n k i : ℕ) → ((q : ℕ) → length (f q) ≡ n) → ((q : ℕ) → length (g q) ≡ n)
    → xor_of (stream f k i) (stream g k i) ≡ stream (λ q. xor_of (f q) (g q)) k i
unfolding stream xor_of
xored_stream f g n zero i hf hg = refl
xored_stream f g n (suc k) i hf hg =
    xored_append (f i) (g i) (stream f k (suc i)) (stream g k (suc i)) (hf i ∙ sym (hg i))
    ∙ ap (λ z. xor_of (f i) (g i) ++ z) (xored_stream f g n k (suc i) hf hg)

-- a function of each block
pub each_stream : (p : List ℕ → List ℕ) (f : ℕ → List ℕ) (n k i : ℕ) → ((q : ℕ) → length (f q) ≡ n) → each p n k (stream f k i) ≡ stream (λ q. p (f q)) k i
unfolding stream each
each_stream p f n zero i h = refl
each_stream p f n (suc k) i h =
    ap₂ ◌++◌ (ap p (take_at (f i) _ n (h i))) (ap (each p n k) (drop_at (f i) _ n (h i)) ∙ each_stream p f n k (suc i) h)

-- E of each block: xor, permute, xor
pub enc_stream : (p : List ℕ → List ℕ) (x m : ℕ → List ℕ) (n k i : ℕ) → ((q : ℕ) → length (x q) ≡ n) → ((q : ℕ) → length (m q) ≡ n) → ((b : List ℕ) → length b ≡ n → length (p b) ≡ n)
    → xor_of (each p n k (xor_of (stream x k i) (stream m k i))) (stream m k i) ≡ stream (λ q. xor_of (p (xor_of (x q) (m q))) (m q)) k i
enc_stream p x m n k i hx hm hp =
    let hy : (q : ℕ) → length (xor_of (x q) (m q)) ≡ n = λ q. length_xored (x q) (m q) ∙ hx q in
    ap (λ z. xor_of (each p n k z) (stream m k i)) (xored_stream x m n k i hx hm)
    ∙ ap (λ z. xor_of z (stream m k i)) (each_stream p (λ q. xor_of (x q) (m q)) n k i hy)
    ∙ xored_stream (λ q. p (xor_of (x q) (m q))) m n k i (λ q. hp _ (hy q)) hm

-- a place being filled block by block: the first k done, the rest as it was
abbrev pub Laid : (ℕ → List ℕ) → ℕ → ℕ → List ℕ → List ℕ → Type 0
Laid f n k xs ys = ys ≡ stream f k 0 ++ drop (k * n) xs

pub laid_none : (f : ℕ → List ℕ) (n : ℕ) (xs : List ℕ) → Laid f n 0 xs xs
unfolding stream
laid_none f n xs = ap (λ m. drop m xs) (sym (zero-mul n))

pub laid_more : (f : ℕ → List ℕ) (n k : ℕ) (xs ys new : List ℕ) → ((q : ℕ) → length (f q) ≡ n) → k * n + n ≤ length xs
    → Laid f n k xs ys → new ≡ f k → Laid f n (k + 1) xs (put_mid (k * n) (k * n + n - k * n) ys new)
laid_more f n k xs ys new h within laid is =
    let front : length (stream f k 0) ≡ k * n = length_stream f n k 0 h in
    let block_size : k * n + n - k * n ≡ n = omega arith in
    let more : (k + 1) * n ≡ k * n + n = rw add-one (suc-mul k n) in
    let rest : drop (k * n) ys ≡ drop (k * n) xs = ap (drop (k * n)) laid ∙ drop_at (stream f k 0) _ (k * n) front in
    let before : take (k * n) ys ≡ stream f k 0 = ap (take (k * n)) laid ∙ take_at (stream f k 0) _ (k * n) front in
    let all : stream f (k + 1) 0 ≡ stream f k 0 ++ f k = stream_more f k 0 ∙ ap (λ z. stream f k 0 ++ f z) (add-zero k) in
    rw (block_size, before, rest, is, more, all, drop-drop) (sym (append_assoc (stream f k 0) (f k) (drop (k * n + n) xs)))

less : (f : ℕ → List ℕ) (n : ℕ) (t : List ℕ) → ((q : ℕ) → length (f q) ≡ n) → (k g : ℕ) → length t ≤ k * n → k ≤ g → xor_of t (stream f g 0) ≡ xor_of t (stream f k 0)
less f n t h k g a l =
    let e : g ≡ k + (g - k) = omega arith in
    ap (λ z. xor_of t (stream f z 0)) e ∙ ap (xor_of t) (stream_add f k (g - k) 0) ∙ xored_enough t (stream f k 0) _ (rw (length_stream f n k 0 h) a)

-- any number of parts that covers the text gives the same
pub hidden_all : (f : ℕ → List ℕ) (n k g : ℕ) (t : List ℕ) → ((q : ℕ) → length (f q) ≡ n) → length t ≤ k * n → length t ≤ g * n → xor_of t (stream f k 0) ≡ xor_of t (stream f g 0)
hidden_all f n k g t h a b = ⊎_elim (λ l. sym (less f n t h k g a (omega arith))) (λ l. less f n t h g k b l) (cases_lt k g)

-- sums
pub summed_add : (f : ℕ → List ℕ) (k g i : ℕ) (b : List ℕ) → sum_of_parts f (k + g) i b ≡ sum_of_parts f g (k + i) (sum_of_parts f k i b)
unfolding sum_of_parts
summed_add f zero g i b = ap₂ (λ x y. sum_of_parts f x y b) (zero-add g) (sym (zero-add i))
summed_add f (suc k) g i b = let e : k + suc i ≡ suc k + i = omega arith in ap (λ z. sum_of_parts f z i b) (suc-add k g) ∙ summed_add f k g (suc i) (xor_of b (f i)) ∙ ap (λ z. sum_of_parts f g z (sum_of_parts f k (suc i) (xor_of b (f i)))) e

-- masks
pub repeated_add : (f : List ℕ → List ℕ) (q i : ℕ) (l : List ℕ) → iterate f q (iterate f i l) ≡ iterate f (q + i) l
unfolding iterate
repeated_add f zero i l = ap (λ z. iterate f z l) (sym (zero-add i))
repeated_add f (suc q) i l = ap f (repeated_add f q i l) ∙ ap (λ z. iterate f z l) (sym (suc-add q i))

pub repeated_more : (f : List ℕ → List ℕ) (q : ℕ) (l : List ℕ) → f (iterate f q l) ≡ iterate f (q + 1) l
unfolding iterate
repeated_more f q l = rw add-one refl

pub repeated_length : (f : List ℕ → List ℕ) (n q : ℕ) (l : List ℕ) → ((b : List ℕ) → length b ≡ n → length (f b) ≡ n) → length l ≡ n → length (iterate f q l) ≡ n
unfolding iterate
repeated_length f n zero l h e = e
repeated_length f n (suc q) l h e = h (iterate f q l) (repeated_length f n q l h e)

pub rows : (q g n : ℕ) → q < g → q * n + n ≤ g * n
rows q g n h = omega (arith, suc-mul q n, mul-le (suc q) n g n (omega arith) (omega arith))
