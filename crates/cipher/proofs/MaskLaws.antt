-- Lengths of masks and of enciphered blocks, and masks counted from a later one.
use Rattle.std.proofs.Common.{◌≡◌, ℕ, ◌+◌, ◌-◌, ◌*◌, ◌<◌, ◌≤◌, List, [], ◌∷◌, length, drop, ap, ◌∙◌, ap₂, add-zero, arith}
use Rattle.std.proofs.lemmas.Nat.{div-add-mod', mod_below}
use Rattle.std.proofs.lemmas.List.{length-append, length-drop}
use Rattle.engine.specs.Permutation.{permutation, block_size, each}
use Rattle.engine.proofs.Laws.{permutation_length}
use Rattle.engine.specs.declared.variants.Variant.{Variant}
use Rattle.engine.specs.declared.variants.Variant.TheVariants.{Dumbo, Jumbo, Delirium}
use Rattle.cipher.specs.Blocks.{xor_of, stream, iterate, parts}
use Rattle.cipher.specs.Masks.{mask, phi1, phi2, appended_byte}
use Rattle.cipher.specs.Mode.{enciphered_block}
use Rattle.cipher.proofs.XorLaws.{length_xored}
use Rattle.cipher.proofs.StreamLaws.{repeated_add, repeated_length, enc_stream, stream_shift}

pub wide : (v : Variant) → 0 < block_size v
wide Dumbo = omega arith
wide Jumbo = omega arith
wide Delirium = omega arith

pub wide_nonce : (v : Variant) → 12 ≤ block_size v
wide_nonce Dumbo = omega arith
wide_nonce Jumbo = omega arith
wide_nonce Delirium = omega arith

pub wide_key : (v : Variant) → 16 ≤ block_size v
wide_key Dumbo = omega arith
wide_key Jumbo = omega arith
wide_key Delirium = omega arith

pub phi1_length : (v : Variant) (b : List ℕ) → length b ≡ block_size v → length (phi1 v b) ≡ block_size v
unfolding phi1
phi1_length v b e = omega (arith, wide v, length-append (drop 1 b) (appended_byte v b ∷ []), length-drop 1 b)

pub phi2_length : (v : Variant) (b : List ℕ) → length b ≡ block_size v → length (phi2 v b) ≡ block_size v
unfolding phi2
phi2_length v b e = length_xored (phi1 v b) b ∙ phi1_length v b e

pub mask_length : (v : Variant) (l : List ℕ) (i j : ℕ) → length l ≡ block_size v → length (mask v l i j) ≡ block_size v
unfolding mask
mask_length v l i j e = repeated_length (phi2 v) (block_size v) j _ (phi2_length v) (repeated_length (phi1 v) (block_size v) i l (phi1_length v) e)

pub mask_on : (v : Variant) (l : List ℕ) (q i j : ℕ) → mask v (iterate (phi1 v) i l) q j ≡ mask v l (q + i) j
unfolding mask
mask_on v l q i j = ap (iterate (phi2 v) j) (repeated_add (phi1 v) q i l)

pub enciphered_length : (v : Variant) (l x : List ℕ) (i j : ℕ) → length x ≡ block_size v → length (enciphered_block v l x i j) ≡ block_size v
unfolding enciphered_block
enciphered_length v l x i j e = length_xored _ (mask v l i j) ∙ permutation_length v _ ∙ length_xored x (mask v l i j) ∙ e

pub enciphered_on : (v : Variant) (l x : List ℕ) (q i j : ℕ) → enciphered_block v (iterate (phi1 v) i l) x q j ≡ enciphered_block v l x (q + i) j
unfolding enciphered_block
enciphered_on v l x q i j = ap (λ m. xor_of (permutation v (xor_of x m)) m) (mask_on v l q i j)

-- g blocks at once
pub enciphered_stream : (v : Variant) (l : List ℕ) (x : ℕ → List ℕ) (g i j : ℕ) → length l ≡ block_size v → ((q : ℕ) → length (x q) ≡ block_size v)
    → xor_of (each (permutation v) (block_size v) g (xor_of (stream x g i) (stream (λ q. mask v l q j) g i))) (stream (λ q. mask v l q j) g i) ≡ stream (λ q. enciphered_block v l (x q) q j) g i
unfolding enciphered_block
enciphered_stream v l x g i j e h = enc_stream (permutation v) x (λ q. mask v l q j) (block_size v) g i h (λ q. mask_length v l q j e) (λ b h. permutation_length v b ∙ h)

-- the key stream of the mask reached, by the numbers of the first mask
pub stream_on : (v : Variant) (l m x : List ℕ) (g k j : ℕ) → m ≡ iterate (phi1 v) k l → stream (λ q. enciphered_block v m x q j) g 0 ≡ stream (λ q. enciphered_block v l x q j) g k
stream_on v l m x g k j e = stream_shift (λ q. enciphered_block v m x q j) (λ q. enciphered_block v l x q j) g 0 k
    (λ q. ap₂ (λ z i. enciphered_block v z x i j) e (add-zero q) ∙ enciphered_on v l x q k j)

pub covers : (n m : ℕ) → 0 < n → m ≤ parts n m * n
covers n m h = omega (arith, div-add-mod' (m + (n - 1)) n, mod_below (m + (n - 1)) n h)
