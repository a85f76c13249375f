-- When engines of two variants make the same of blocks.
use Rattle.std.specs.Prelude.{ℕ, Bool, ◌&&◌, List, take}
use Rattle.std.specs.Str.{bytes_eq}
use Rattle.fault.specs.Checks.{is_granted}
use Rattle.engine.specs.declared.variants.Variant.{Variant}
use Rattle.engine.specs.Permutation.{block_size}
use Rattle.engine.specs.Calls.{one_answer, one_after, four_answer, four_after}

-- Whether both calls for one block are granted and leave the same.
abbrev pub agreement_on_one : Variant → Variant → List ℕ → Bool
agreement_on_one v w xs = is_granted (one_answer v xs) && (is_granted (one_answer w xs) && bytes_eq (one_after v xs) (one_after w xs))

-- Whether both calls for four blocks are granted and leave the same.
abbrev pub agreement_on_four : Variant → Variant → List ℕ → Bool
agreement_on_four v w xs = is_granted (four_answer v xs) && (is_granted (four_answer w xs) && bytes_eq (four_after v xs) (four_after w xs))

-- Whether the engines agree on four blocks, by the call for four, and on the first block, by the call for one.
abbrev pub agreement : Variant → Variant → List ℕ → Bool
agreement v w xs = agreement_on_four v w xs && agreement_on_one v w (take (block_size v) xs)
