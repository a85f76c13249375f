-- The blocks that the tag is made of: padded strings, the sum's start, the parts after the first, and the last block.
use Rattle.std.proofs.Common.{◌≡◌, ℕ, ◌+◌, ◌-◌, ◌*◌, ◌<◌, ◌≤◌, List, [], ◌∷◌, ◌++◌, length, take, drop, replicate, sym, ap, ◌∙◌, ap₂, one-mul, zero-mul, arith}
use Rattle.std.proofs.lemmas.List.{length-append, length-drop, take_at, drop_at, append_assoc, drop-drop, drop-append-le}
use Rattle.std.proofs.lemmas.Nat.{div_below}
use Rattle.engine.specs.Permutation.{block_size}
use Rattle.engine.specs.declared.variants.Variant.{Variant}
use Rattle.cipher.specs.Blocks.{padded_part, part, parts, iterate, sum_of_parts}
use Rattle.cipher.specs.Masks.{phi1}
use Rattle.cipher.specs.Mode.{with_01, sum_with_parts, associated_sum}
use Rattle.cipher.proofs.MaskLaws.{wide}
use Rattle.cipher.proofs.PartLaws.{padded_length}
use Rattle.cipher.proofs.SumLaws.{absorbed_on, parts_more}
use Rattle.cipher.proofs.RoomLaws.{take_past}

-- A string that begins with a shorter one.
padded_append : (n : ℕ) (a s : List ℕ) → length a ≤ n → padded_part n (a ++ s) ≡ a ++ padded_part (n - length a) s
unfolding padded_part
padded_append n a s h =
    let e : n - length (a ++ s) ≡ n - length a - length s = omega (arith, length-append a s) in
    ap₂ (λ t m. t ++ replicate m 0) (take_past n a s h) e ∙ append_assoc a (take (n - length a) s) (replicate (n - length a - length s) 0)

part_zero : (n : ℕ) (s : List ℕ) → part n 0 s ≡ padded_part n s
unfolding part
part_zero n s = ap (λ m. padded_part n (drop m s)) (zero-mul n)

-- The sum's start: the nonce, and then what is loaded of the associated data.
pub start_whole : (n : ℕ) (nonce associated copied loaded more rest : List ℕ) → length nonce ≡ 12 → 12 ≤ n → copied ≡ nonce
    → loaded ≡ padded_part (n - 12) (with_01 associated) → take n (take 12 (copied ++ more) ++ (loaded ++ rest)) ≡ part n 0 (nonce ++ with_01 associated)
start_whole n nonce associated copied loaded more rest ln wide ec el =
    let lc : length copied ≡ 12 = ap length ec ∙ ln in
    let less : n - 12 ≡ n - length nonce = ap (λ m. n - m) (sym ln) in
    let whole : length (copied ++ loaded) ≡ n = omega (arith, length-append copied loaded, lc, ap length el ∙ padded_length (n - 12) (with_01 associated)) in
    ap (λ t. take n (t ++ (loaded ++ rest))) (take_at copied more 12 lc) ∙ ap (take n) (sym (append_assoc copied loaded rest))
    ∙ take_at (copied ++ loaded) rest n whole ∙ ap₂ ◌++◌ ec (el ∙ ap (λ m. padded_part m (with_01 associated)) less)
    ∙ sym (padded_append n nonce (with_01 associated) (omega arith)) ∙ sym (part_zero n (nonce ++ with_01 associated))

-- Few bytes of associated data: there is no other part.
pub associated_short : (v : Variant) (first nonce associated : List ℕ) → length nonce ≡ 12 → length associated < block_size v - 12
    → part (block_size v) 0 (nonce ++ with_01 associated) ≡ associated_sum v first nonce associated
unfolding associated_sum sum_with_parts sum_of_parts
associated_short v first nonce associated ln h =
    let n = block_size v in
    let s = nonce ++ with_01 associated in
    let long : length s ≡ 12 + (length associated + 1) = length-append nonce (with_01 associated) ∙ ap₂ ◌+◌ ln (length-append associated (1 ∷ [])) in
    let few : parts n (length s) < 2 = div_below (length s + (n - 1)) n 2 (wide v) (omega (arith, wide v)) in
    let none : parts n (length s) - 1 ≡ 0 = omega arith in
    sym (ap (λ k. sum_with_parts v first 0 k 1 s (part n 0 s)) none)

-- What is left of nonce and closed associated data after part 0.
rest_after_start : (n : ℕ) (nonce associated : List ℕ) → length nonce ≡ 12 → 12 ≤ n → n - 12 ≤ length associated → drop n (nonce ++ with_01 associated) ≡ with_01 (drop (n - 12) associated)
rest_after_start n nonce associated ln h l =
    let e : n ≡ 12 + (n - 12) = omega arith in
    ap (λ m. drop m (nonce ++ with_01 associated)) e ∙ sym (drop-drop (n - 12) 12 (nonce ++ with_01 associated))
    ∙ ap (drop (n - 12)) (drop_at nonce (with_01 associated) 12 ln) ∙ drop-append-le (n - 12) associated (1 ∷ []) l

-- The parts after part 0 are those of the data after it, under masks counted from 1.
pub associated_long : (v : Variant) (first running nonce associated rest : List ℕ) → length nonce ≡ 12 → 12 ≤ block_size v → block_size v - 12 ≤ length associated
    → running ≡ phi1 v first → rest ≡ drop (block_size v - 12) associated
    → sum_with_parts v running 0 (parts (block_size v) (length (with_01 rest))) 0 (with_01 rest) (part (block_size v) 0 (nonce ++ with_01 associated)) ≡ associated_sum v first nonce associated
unfolding associated_sum iterate
associated_long v first running nonce associated rest ln h l em er =
    let n = block_size v in
    let s : List ℕ = nonce ++ with_01 associated in
    let b : List ℕ = part n 0 s in
    let left : drop n s ≡ with_01 rest = rest_after_start n nonce associated ln h l ∙ ap with_01 (sym er) in
    let onward : with_01 rest ≡ drop (1 * n) s = sym (ap (λ m. drop m s) (one-mul n) ∙ left) in
    let long : length s ≡ length (with_01 rest) + 1 * n =
    omega (arith, ap length left, length-drop n s, length-append nonce (with_01 associated), length-append associated (1 ∷ []), one-mul n) in
    let count : parts n (length (with_01 rest)) ≡ parts n (length s) - 1 = omega (arith, parts_more n 1 (length (with_01 rest)) (length s) (wide v) long) in
    ap (λ k. sum_with_parts v running 0 k 0 (with_01 rest) b) count ∙ ap₂ (λ y z. sum_with_parts v y 0 (parts n (length s) - 1) 0 z b) em onward
    ∙ absorbed_on v first s b 0 1 (parts n (length s) - 1)
