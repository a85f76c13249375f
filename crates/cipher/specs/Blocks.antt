-- Strings of bytes in blocks: parts, exclusive or, blocks side by side and blocks summed.
use Rattle.std.specs.Prelude.{ℕ, zero, suc, ◌+◌, ◌-◌, ◌*◌, ◌/◌, List, [], ◌∷◌, ◌++◌, length, take, drop, replicate, bit_xor}

-- The first n bytes of a string, filled up with zeros where there are fewer.
unfoldable pub padded_part : ℕ → List ℕ → List ℕ
padded_part n xs = take n xs ++ replicate (n - length xs) 0

-- Part i of a string in blocks of n bytes, counted from 0; the last part is filled up with zeros.
unfoldable pub part : ℕ → ℕ → List ℕ → List ℕ
part n i t = padded_part n (drop (i * n) t)

-- How many parts of n bytes hold m bytes.
abbrev pub parts : ℕ → ℕ → ℕ
parts n m = (m + (n - 1)) / n

-- The exclusive or of xs with ks, byte by byte, as far as ks goes.
unfoldable pub xor_of : List ℕ → List ℕ → List ℕ
xor_of [] ks = []
xor_of (x ∷ xs) [] = x ∷ xs
xor_of (x ∷ xs) (k ∷ ks) = bit_xor x k ∷ xor_of xs ks

-- A function applied k times.
unfoldable pub iterate : (List ℕ → List ℕ) → ℕ → List ℕ → List ℕ
iterate f zero x = x
iterate f (suc k) x = f (iterate f k x)

-- The blocks f i, f (i + 1), .., k of them, side by side.
unfoldable pub stream : (ℕ → List ℕ) → ℕ → ℕ → List ℕ
stream f zero i = []
stream f (suc k) i = f i ++ stream f k (suc i)

-- The block b with the blocks f i, f (i + 1), .., k of them, xored into it.
unfoldable pub sum_of_parts : (ℕ → List ℕ) → ℕ → ℕ → List ℕ → List ℕ
sum_of_parts f zero i b = b
sum_of_parts f (suc k) i b = sum_of_parts f k (suc i) (xor_of b (f i))
