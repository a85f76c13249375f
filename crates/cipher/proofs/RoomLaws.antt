-- Blocks in room for longer ones: what the first bytes hold.
use Rattle.std.proofs.Common.{◌≡◌, ℕ, zero, suc, ◌+◌, ◌-◌, ◌*◌, ◌/◌, ◌<◌, ◌≤◌, List, [], ◌∷◌, ◌++◌, length, take, drop, set, replicate, sym, refl, ap, ◌∙◌, ap₂, zero-add, add-zero, add-one, zero-mul, one-mul, add-mul, suc-mul, suc-add, arith}
use Rattle.std.proofs.Math.Nat.{sub-zero}
use lib.Bits.{bit_xor}
use lib.Seq.{paste}
use native.Mathlib.Nat.{add-mul-div_right}
use Rattle.std.proofs.lemmas.List.{take_at, drop_at, length-take-le, length-take, length-append, length-drop, take-replicate, take-take, take_all, drop-drop}
use Rattle.std.proofs.lemmas.List.Edits.{length-paste, take-paste}
use Rattle.std.proofs.lemmas.Grind.{take-set_at}
use Rattle.engine.specs.declared.variants.Variant.{Variant}
use Rattle.engine.specs.declared.variants.Variant.TheVariants.{Dumbo, Jumbo, Delirium}
use Rattle.engine.specs.Permutation.{block_size, permutation, each}
use Rattle.engine.specs.Calls.{one_after, four_after}
use Rattle.engine.proofs.Laws.{permutation_length}
use Rattle.engine.proofs.CallLaws.{replaced_granted}
use Rattle.cipher.specs.Blocks.{padded_part, part, parts, xor_of, stream, sum_of_parts}
use Rattle.cipher.specs.Groups.{block_in}
use Rattle.std.proofs.lemmas.Nat.{mul-le}
use Rattle.std.proofs.Math.Nat.{mul-div_cancel}
use Rattle.cipher.proofs.MaskLaws.{wide}
use Rattle.cipher.proofs.PartLaws.{summed_stream}
use Rattle.cipher.proofs.SumLaws.{summed_shift}
use Rattle.cipher.proofs.StreamLaws.{Laid, length_stream, stream_add}

pub narrow : (v : Variant) → block_size v ≤ 25
narrow Dumbo = omega arith
narrow Jumbo = omega arith
narrow Delirium = omega arith

pub held_length : (v : Variant) (room : List ℕ) → length room ≡ 25 → length (block_in v room) ≡ block_size v
held_length v room h = length-take-le (block_size v) room (omega (arith, narrow v))

pub four_length : (v : Variant) (room : List ℕ) → length room ≡ 100 → length (take (4 * block_size v) room) ≡ 4 * block_size v
four_length v room h = length-take-le (4 * block_size v) room (omega (arith, narrow v))

pub take_xored : (n : ℕ) (a b : List ℕ) → take n (xor_of a b) ≡ xor_of (take n a) (take n b)
unfolding xor_of
take_xored zero a b = refl
take_xored (suc n) [] b = refl
take_xored (suc n) (x ∷ a) [] = refl
take_xored (suc n) (x ∷ a) (y ∷ b) = ap (λ z. bit_xor x y ∷ z) (take_xored n a b)

-- All blocks of a front laid side by side.
pub laid_front : (f : ℕ → List ℕ) (n k : ℕ) (xs ys : List ℕ) → ((q : ℕ) → length (f q) ≡ n) → Laid f n k xs ys → take (k * n) ys ≡ stream f k 0
laid_front f n k xs ys h laid = ap (take (k * n)) laid ∙ take_at (stream f k 0) (drop (k * n) xs) (k * n) (length_stream f n k 0 h)

-- A block moved down by one byte, with a new last one.
pub moved_on : (n : ℕ) (b ys : List ℕ) (x y : ℕ) → 0 < n → n ≤ length b → ys ≡ paste b 0 (drop 1 b) (n - 1) → x ≡ y
    → take n (set ys (n - 1) x) ≡ drop 1 (take n b) ++ (y ∷ [])
moved_on zero b ys x y h l e f = absurd (omega arith)
moved_on (suc n) [] ys x y h l e f = absurd (omega arith)
moved_on (suc n) (z ∷ b) ys x y h l e f =
    let m : suc n - 1 ≡ n = omega arith in
    let long : length ys ≡ suc (length b) = ap length e ∙ length-paste (z ∷ b) 0 b (suc n - 1) (omega arith) (omega arith) in
    let most : take (suc n - 1) ys ≡ take n b =
    ap₂ take (sym (zero-add (suc n - 1))) e ∙ take-paste (z ∷ b) 0 b (suc n - 1) (omega arith) (omega arith) ∙ ap (λ k. take k b) m in
    take-set_at ys (suc n - 1) (suc n) x (omega arith) (omega arith) ∙ ap₂ (λ t u. t ++ (u ∷ [])) most f

-- What an engine makes of the front of a room.
pub one_held : (v : Variant) (n : ℕ) (room y rest : List ℕ) → n ≡ block_size v → length room ≡ 25 → y ≡ one_after v (take (n - 0) room)
    → block_in v (y ++ rest) ≡ permutation v (block_in v room)
one_held v n room y rest en long ey =
    let cut : n - 0 ≡ block_size v = omega arith in
    let made : y ≡ permutation v (block_in v room) =
    ey ∙ ap (λ m. one_after v (take m room)) cut ∙ replaced_granted (block_size v) (permutation v) (block_in v room) (held_length v room long) in
    take_at y rest (block_size v) (ap length made ∙ permutation_length v (block_in v room) ∙ held_length v room long) ∙ made

pub each_length : (v : Variant) (k : ℕ) (xs : List ℕ) → length xs ≡ k * block_size v → length (each (permutation v) (block_size v) k xs) ≡ k * block_size v
unfolding each
each_length v zero xs h = sym (zero-mul (block_size v))
each_length v (suc k) xs h =
    let n = block_size v in
    let more : suc k * n ≡ k * n + n = suc-mul k n in
    let one : length (permutation v (take n xs)) ≡ n = permutation_length v (take n xs) ∙ length-take-le n xs (omega arith) in
    length-append (permutation v (take n xs)) (each (permutation v) n k (drop n xs)) ∙ ap₂ ◌+◌ one (each_length v k (drop n xs) (omega (arith, length-drop n xs))) ∙ omega arith

pub four_held : (v : Variant) (n : ℕ) (room y rest : List ℕ) → n ≡ block_size v → length room ≡ 100 → y ≡ four_after v (take (4 * n - 0) room)
    → take (4 * block_size v) (y ++ rest) ≡ each (permutation v) (block_size v) 4 (take (4 * block_size v) room)
four_held v n room y rest en long ey =
    let front = take (4 * block_size v) room in
    let cut : 4 * n - 0 ≡ 4 * block_size v = omega arith in
    let made : y ≡ each (permutation v) (block_size v) 4 front =
    ey ∙ ap (λ m. four_after v (take m room)) cut ∙ replaced_granted (4 * block_size v) (each (permutation v) (block_size v) 4) front (four_length v room long) in
    take_at y rest (4 * block_size v) (ap length made ∙ each_length v 4 front (four_length v room long)) ∙ made

pub take_past : (n : ℕ) (a s : List ℕ) → length a ≤ n → take n (a ++ s) ≡ a ++ take (n - length a) s
take_past n [] s h = ap (λ m. take m s) (sym (sub-zero n))
take_past zero (x ∷ a) s h = absurd (omega arith)
take_past (suc n) (x ∷ a) s h =
    let e : suc n - suc (length a) ≡ n - length a = omega arith in
    ap (λ t. x ∷ t) (take_past n a s (omega arith) ∙ ap (λ m. a ++ take m s) (sym e))

-- Bytes at the front of a room of zeros.
pub padded_held : (v : Variant) (m : ℕ) (bytes copied : List ℕ) → length bytes ≤ block_size v → block_size v ≤ length bytes + m → copied ≡ bytes
    → block_in v (copied ++ replicate m 0) ≡ padded_part (block_size v) bytes
unfolding padded_part
padded_held v m bytes copied few enough e =
    let n = block_size v in
    ap (λ b. take n (b ++ replicate m 0)) e ∙ take_past n bytes (replicate m 0) few
    ∙ ap₂ ◌++◌ (sym (take_all n bytes few)) (take-replicate (n - length bytes) m 0 (omega arith))

padded_none : (m : ℕ) (t : List ℕ) → padded_part 0 t ≡ []
unfolding padded_part
padded_none m t = let z : 0 - length t ≡ 0 = omega arith in ap (λ k. take 0 t ++ replicate k 0) z

padded_cons : (n x : ℕ) (t : List ℕ) → padded_part (suc n) (x ∷ t) ≡ x ∷ padded_part n t
unfolding padded_part
padded_cons n x t = let e : suc n - suc (length t) ≡ n - length t = omega arith in ap (λ k. x ∷ (take n t ++ replicate k 0)) e

padded_zeros : (n : ℕ) → padded_part n [] ≡ replicate n 0
unfolding padded_part
padded_zeros n = ap₂ (λ a k. a ++ replicate k 0) (take_all n [] (omega arith)) (sub-zero n)

replicate_add : (n m : ℕ) → replicate {A = ℕ} (n + m) 0 ≡ replicate n 0 ++ replicate m 0
replicate_add zero m = ap (λ k. replicate {A = ℕ} k 0) (zero-add m)
replicate_add (suc n) m = ap (λ k. replicate {A = ℕ} k 0) (suc-add n m) ∙ ap (λ t. 0 ∷ t) (replicate_add n m)

padded_split : (n m : ℕ) (t : List ℕ) → padded_part (n + m) t ≡ padded_part n t ++ padded_part m (drop n t)
padded_split zero m t = ap (λ k. padded_part k t) (zero-add m) ∙ ap (λ z. z ++ padded_part m t) (sym (padded_none m t))
padded_split (suc n) m [] = padded_zeros (suc n + m) ∙ replicate_add (suc n) m ∙ sym (ap₂ ◌++◌ (padded_zeros (suc n)) (padded_zeros m))
padded_split (suc n) m (x ∷ t) =
    ap (λ k. padded_part k (x ∷ t)) (suc-add n m) ∙ padded_cons (n + m) x t ∙ ap (λ z. x ∷ z) (padded_split n m t) ∙ ap (λ z. z ++ padded_part m (drop n t)) (sym (padded_cons n x t))

-- The parts of a string side by side are the string, filled up with zeros.
pub parts_of : (n k i : ℕ) (s : List ℕ) → padded_part (k * n) (drop (i * n) s) ≡ stream (λ q. part n q s) k i
unfolding part stream
parts_of n zero i s = ap (λ m. padded_part m (drop (i * n) s)) (zero-mul n) ∙ padded_none n (drop (i * n) s)
parts_of n (suc k) i s =
    let more : suc k * n ≡ n + k * n = omega (arith, suc-mul k n) in
    let next : i * n + n ≡ suc i * n = omega (arith, suc-mul i n) in
    ap (λ m. padded_part m (drop (i * n) s)) more ∙ padded_split n (k * n) (drop (i * n) s)
    ∙ ap (λ z. padded_part n (drop (i * n) s) ++ z) (ap (padded_part (k * n)) (drop-drop n (i * n) s ∙ ap (λ m. drop m s) next) ∙ parts_of n k (suc i) s)

-- The first of some blocks.
pub stream_front : (f : ℕ → List ℕ) (n g k : ℕ) → ((q : ℕ) → length (f q) ≡ n) → g ≤ k → take (g * n) (stream f k 0) ≡ stream f g 0
stream_front f n g k h l =
    let e : k ≡ g + (k - g) = omega arith in
    ap (λ z. take (g * n) (stream f z 0)) e ∙ ap (take (g * n)) (stream_add f g (k - g) 0) ∙ take_at (stream f g 0) _ (g * n) (length_stream f n g 0 h)

-- A group that begins a string is its first block, and the rest goes on from there.
pub summed_rest : (n : ℕ) (x rest b : List ℕ) → 0 < n → length x ≡ n
    → sum_of_parts (λ q. take n (drop (q * n) (x ++ rest))) (length (x ++ rest) / n) 0 b ≡ sum_of_parts (λ q. take n (drop (q * n) rest)) (length rest / n) 0 (xor_of b x)
unfolding sum_of_parts
summed_rest n x rest b some long =
    let f : ℕ → List ℕ = λ q. take n (drop (q * n) (x ++ rest)) in
    let first : f 0 ≡ x = ap (λ m. take n (drop m (x ++ rest))) (zero-mul n) ∙ take_at x rest n long in
    let all : length (x ++ rest) ≡ length rest + 1 * n = omega (arith, length-append x rest, one-mul n) in
    let count : length (x ++ rest) / n ≡ suc (length rest / n) = ap (λ m. m / n) all ∙ add-mul-div_right (length rest) 1 some ∙ add-one (length rest / n) in
    ap (λ k. sum_of_parts f k 0 b) count ∙ ap (λ z. sum_of_parts f (length rest / n) 1 (xor_of b z)) first
    ∙ summed_shift f (λ q. take n (drop (q * n) rest)) (length rest / n) 1 0 (xor_of b x)
    (λ q. let a : (q + 1) * n ≡ n + q * n = omega (arith, add-mul q 1 n, one-mul n) in
    ap (λ m. take n (drop m (x ++ rest))) a ∙ ap (take n) (sym (drop-drop (q * n) n (x ++ rest)) ∙ ap (drop (q * n)) (drop_at x rest n long)) ∙ ap (λ k. take n (drop (k * n) rest)) (sym (add-zero q)))

-- Blocks of n bytes xored into the front of a room.
pub take_summed : (f : ℕ → List ℕ) (n k i : ℕ) (b : List ℕ) → ((q : ℕ) → length (f q) ≤ n) → take n (sum_of_parts f k i b) ≡ sum_of_parts f k i (take n b)
unfolding sum_of_parts
take_summed f n zero i b h = refl
take_summed f n (suc k) i b h =
    take_summed f n k (suc i) (xor_of b (f i)) h
    ∙ ap (sum_of_parts f k (suc i)) (take_xored n b (f i) ∙ ap (xor_of (take n b)) (take_all n (f i) (h i)))

-- The first g of four blocks, cut out of their room and summed into another.
pub group_summed : (v : Variant) (f : ℕ → List ℕ) (n g : ℕ) (room cut b new : List ℕ) → n ≡ block_size v → ((q : ℕ) → length (f q) ≡ block_size v) → g ≤ 4
    → take (4 * block_size v) room ≡ stream f 4 0 → cut ≡ take (g * n - 0) room
    → new ≡ sum_of_parts (λ q. take n (drop (q * n) cut)) (length cut / n) 0 b → block_in v new ≡ sum_of_parts f g 0 (block_in v b)
group_summed v f n g room cut b new en h few laid ec es =
    let w = block_size v in
    let much : g * w ≤ 4 * w = mul-le g w 4 w few (omega arith) in
    let size : g * n - 0 ≡ g * w = ap (λ m. g * m - 0) en ∙ sub-zero (g * w) in
    let front : cut ≡ stream f g 0 =
    ec ∙ ap (λ m. take m room) size ∙ sym (take-take (g * w) (4 * w) room much) ∙ ap (take (g * w)) laid ∙ stream_front f w g 4 h few in
    let count : length cut / n ≡ g = ap₂ ◌/◌ (ap length front ∙ length_stream f w g 0 h) en ∙ mul-div_cancel g (wide v) in
    ap (block_in v) (es ∙ ap₂ (λ m k. sum_of_parts (λ q. take m (drop (q * m) cut)) k 0 b) en count)
    ∙ take_summed (λ q. take w (drop (q * w) cut)) w g 0 b (λ q. omega (arith, length-take w (drop (q * w) cut)))
    ∙ ap (λ z. sum_of_parts (λ q. take w (drop (q * w) z)) g 0 (block_in v b)) front
    ∙ summed_stream f w g g (block_in v b) h (omega arith)

-- How many parts there are, by the bytes before 01.
pub parts_closed : (n m : ℕ) → 0 < n → m / n + 1 ≡ parts n (m + 1)
parts_closed n m h =
    let e : m + 1 + (n - 1) ≡ m + 1 * n = omega (arith, one-mul n) in
    sym (ap (λ z. z / n) e ∙ add-mul-div_right m 1 h)
