-- The variants of the cipher: bytes of a block, rounds, and the permutation of a block.
use Rattle.std.specs.Prelude.{ℕ, zero, suc, List, [], ◌++◌, take, drop}
use Rattle.engine.specs.declared.variants.Variant.{Variant}
use Rattle.engine.specs.declared.variants.Variant.TheVariants.{Dumbo, Jumbo, Delirium}
use Rattle.engine.specs.Spongent.{spongent}
use Rattle.engine.specs.Keccak.{keccak}

-- The bytes of a block, n.
abbrev pub block_size : Variant → ℕ
block_size Dumbo = 20
block_size Jumbo = 22
block_size Delirium = 25

-- The rounds of the permutation.
abbrev pub rounds : Variant → ℕ
rounds Dumbo = 80
rounds Jumbo = 90
rounds Delirium = 18

-- The permutation of a block: Spongent with its counter from 75 or 45 (hexadecimal), or Keccak-f[200].
unfoldable pub permutation : Variant → List ℕ → List ℕ
permutation Dumbo xs = spongent 0x75 (rounds Dumbo) xs
permutation Jumbo xs = spongent 0x45 (rounds Jumbo) xs
permutation Delirium xs = keccak (rounds Delirium) xs

-- f of each of k neighbouring blocks of n bytes, side by side.
unfoldable pub each : (List ℕ → List ℕ) → ℕ → ℕ → List ℕ → List ℕ
each f n zero xs = []
each f n (suc k) xs = f (take n xs) ++ each f n k (drop n xs)
