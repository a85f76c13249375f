-- The Elephant mode over the permutation of a variant: sealed text, tag sum and tag.
use Rattle.std.specs.Prelude.{ℕ, ◌-◌, List, [], ◌∷◌, ◌++◌, length, take}
use Rattle.engine.specs.Permutation.{permutation, block_size}
use Rattle.engine.specs.declared.variants.Variant.{Variant}
use Rattle.engine.specs.declared.variants.Variant.TheVariants.{Dumbo, Jumbo, Delirium}
use Rattle.cipher.specs.Blocks.{padded_part, part, parts, xor_of, stream, sum_of_parts}
use Rattle.cipher.specs.Masks.{first_mask, mask}

-- The bytes of a tag.
abbrev pub tag_size : Variant → ℕ
tag_size Dumbo = 8
tag_size Jumbo = 8
tag_size Delirium = 16

-- E (x, i, j): the permutation of x under mask (i, j), from the first mask.
unfoldable pub enciphered_block : Variant → List ℕ → List ℕ → ℕ → ℕ → List ℕ
enciphered_block v first x i j = xor_of (permutation v (xor_of x (mask v first i j))) (mask v first i j)

-- Block i of the key stream, where x is the nonce followed by zeros.
abbrev pub key_block : Variant → List ℕ → List ℕ → ℕ → List ℕ
key_block v first x i = enciphered_block v first x i 1

-- A text under the key stream of a first mask and a nonce block, cut to the text's length.
unfoldable pub streamed_text : Variant → List ℕ → List ℕ → List ℕ → List ℕ
streamed_text v first x text = xor_of text (stream (key_block v first x) (parts (block_size v) (length text)) 0)

-- The sealed text.
unfoldable pub sealed_text : Variant → List ℕ → List ℕ → List ℕ → List ℕ
sealed_text v key nonce text = streamed_text v (first_mask v key) (padded_part (block_size v) nonce) text

-- The text that a sealed one opens to: the same key stream is taken off again.
unfoldable pub opened_text : Variant → List ℕ → List ℕ → List ℕ → List ℕ
opened_text v key nonce sealed = streamed_text v (first_mask v key) (padded_part (block_size v) nonce) sealed

-- A string followed by a byte 01.
abbrev pub with_01 : List ℕ → List ℕ
with_01 s = s ++ (1 ∷ [])

-- The sum b with E of all parts of a string from part i on, k of them, under masks (i, j), (i + 1, j), ..
unfoldable pub sum_with_parts : Variant → List ℕ → ℕ → ℕ → ℕ → List ℕ → List ℕ → List ℕ
sum_with_parts v first j k i s b = sum_of_parts (λ q. enciphered_block v first (part (block_size v) q s) q j) k i b

-- The sum after nonce and associated data: part 0 of nonce, associated data and 01, with E (part i, i, 0) of the other parts.
unfoldable pub associated_sum : Variant → List ℕ → List ℕ → List ℕ → List ℕ
associated_sum v first nonce associated =
    let n = block_size v in
    let s = nonce ++ with_01 associated in
    sum_with_parts v first 0 (parts n (length s) - 1) 1 s (part n 0 s)

-- The tag sum: that, with E (part i, i, 2) of all parts of the sealed text and 01.
unfoldable pub tag_sum : Variant → List ℕ → List ℕ → List ℕ → List ℕ → List ℕ
tag_sum v first nonce associated sealed =
    sum_with_parts v first 2 (parts (block_size v) (length (with_01 sealed))) 0 (with_01 sealed) (associated_sum v first nonce associated)

-- The tag, from the first mask: the first bytes of E (tag sum, 0, 0).
unfoldable pub tag_from : Variant → List ℕ → List ℕ → List ℕ → List ℕ → List ℕ
tag_from v first nonce associated sealed = take (tag_size v) (enciphered_block v first (tag_sum v first nonce associated sealed) 0 0)

-- The tag of a sealed text.
unfoldable pub tag : Variant → List ℕ → List ℕ → List ℕ → List ℕ → List ℕ
tag v key nonce associated sealed = tag_from v (first_mask v key) nonce associated sealed
