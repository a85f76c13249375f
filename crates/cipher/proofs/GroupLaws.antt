-- A text under the key stream, group by group.
use Rattle.std.proofs.Common.{◌≡◌, ℕ, ◌+◌, ◌-◌, ◌*◌, ◌<◌, ◌≤◌, min, cond, List, [], ◌∷◌, ◌++◌, length, take, sym, refl, ap, ◌∙◌, ap₂, ⊎_elim, arith}
use borrow.Rule.Slice.PartMut.{put_mid}
use Rattle.std.proofs.lemmas.Bool.{cases_lt, lt-ltb, le-ltb}
use Rattle.std.proofs.lemmas.List.{length-append, length-take-le, take_at, append-nil, append_assoc}
use Rattle.engine.specs.Permutation.{block_size}
use Rattle.engine.specs.declared.variants.Variant.{Variant}
use Rattle.cipher.specs.Blocks.{xor_of, stream, iterate, parts}
use Rattle.cipher.specs.Masks.{phi1}
use Rattle.cipher.specs.Mode.{streamed_text, key_block}
use Rattle.cipher.specs.Groups.{group}
use Rattle.cipher.proofs.XorLaws.{length_xored, xored_append}
use Rattle.cipher.proofs.StreamLaws.{hidden_all, length_stream, stream_add}
use Rattle.cipher.proofs.MaskLaws.{wide, enciphered_length, stream_on, covers}
use Rattle.cipher.proofs.SumLaws.{parts_more}

pub group_one : (v : Variant) (part : List ℕ) → length part ≤ block_size v → group v part ≡ 1
group_one v part h = ap (λ b. cond b 4 1) (le-ltb (block_size v) (length part) h)

pub group_four : (v : Variant) (part : List ℕ) → block_size v < length part → group v part ≡ 4
group_four v part h = ap (λ b. cond b 4 1) (lt-ltb (block_size v) (length part) h)

group_covers : (v : Variant) (part : List ℕ) → length part ≤ 4 * block_size v → length part ≤ group v part * block_size v
group_covers v part h =
    ⊎_elim
    (λ l. omega (arith, ap (λ k. k * block_size v) (group_four v part l)))
    (λ l. omega (arith, ap (λ k. k * block_size v) (group_one v part l)))
    (cases_lt (block_size v) (length part))

-- A group of the text, and then the rest of it from the mask that the group has reached.
streamed_more : (v : Variant) (m x part rest : List ℕ) → length x ≡ block_size v → length part ≡ min (4 * block_size v) (length (part ++ rest))
    → xor_of part (stream (key_block v m x) (group v part) 0) ++ streamed_text v (iterate (phi1 v) (group v part) m) x rest ≡ streamed_text v m x (part ++ rest)
unfolding streamed_text xor_of
streamed_more v m x part [] lx w =
    let n = block_size v in
    let h : (q : ℕ) → length (key_block v m x q) ≡ n = λ q. enciphered_length v m x q 1 lx in
    append-nil (xor_of part (stream (key_block v m x) (group v part) 0))
    ∙ hidden_all (key_block v m x) n (group v part) (parts n (length part)) part h (group_covers v part (omega arith)) (covers n (length part) (wide v))
    ∙ ap (λ z. xor_of z (stream (key_block v m x) (parts n (length z)) 0)) (sym (append-nil part))
streamed_more v m x part (y ∷ ys) lx w =
    let n = block_size v in
    let f : ℕ → List ℕ = key_block v m x in
    let rest : List ℕ = y ∷ ys in
    let h : (q : ℕ) → length (f q) ≡ n = λ q. enciphered_length v m x q 1 lx in
    let both : length (part ++ rest) ≡ length part + length rest = length-append part rest in
    let long : length part ≡ 4 * n = omega arith in
    let four : group v part ≡ 4 = group_four v part (omega (arith, wide v)) in
    let p : ℕ = parts n (length rest) in
    let count : parts n (length (part ++ rest)) ≡ 4 + p = omega (arith, parts_more n 4 (length rest) (length (part ++ rest)) (wide v) (omega arith)) in
    ap (λ k. xor_of part (stream f k 0) ++ xor_of rest (stream (key_block v (iterate (phi1 v) k m) x) p 0)) four
    ∙ ap (λ z. xor_of part (stream f 4 0) ++ xor_of rest z) (stream_on v m (iterate (phi1 v) 4 m) x p 4 1 refl)
    ∙ sym (xored_append part (stream f 4 0) rest (stream f p 4) (long ∙ sym (length_stream f n 4 0 h)))
    ∙ ap (xor_of (part ++ rest)) (sym (stream_add f 4 p 0)) ∙ ap (λ k. xor_of (part ++ rest) (stream f k 0)) (sym count)

-- A turn of the loop over groups: the next one is written, and what is left goes on from there.
pub stream_turn : (v : Variant) (m running x text part left out new whole : List ℕ) (at w size : ℕ) → length x ≡ block_size v
    → text ≡ part ++ left → length part ≡ min size (length text) → size ≡ 4 * block_size v → w ≡ length part → at + w ≤ length out
    → new ≡ xor_of part (stream (key_block v m x) (group v part) 0) → running ≡ iterate (phi1 v) (group v part) m
    → take at out ++ streamed_text v m x text ≡ whole → take (at + w) (put_mid at (at + w - at) out new) ++ streamed_text v running x left ≡ whole
stream_turn v m running x text part left out new whole at w size lx et ep es ew within en er done =
    let front : length (take at out) ≡ at = length-take-le at out (omega arith) in
    let all : length (take at out ++ new) ≡ at + w =
    length-append (take at out) new ∙ ap₂ ◌+◌ front (ap length en ∙ length_xored part _ ∙ sym ew) in
    let more : length part ≡ min (4 * block_size v) (length (part ++ left)) = ep ∙ ap₂ min es (ap length et) in
    ap (λ z. take (at + w) z ++ streamed_text v running x left) (sym (append_assoc (take at out) new _))
    ∙ ap (λ z. z ++ streamed_text v running x left) (take_at (take at out ++ new) _ (at + w) all)
    ∙ append_assoc (take at out) new (streamed_text v running x left)
    ∙ ap (λ z. take at out ++ z) (ap₂ (λ y r. y ++ streamed_text v r x left) en er ∙ streamed_more v m x part left lx more ∙ ap (streamed_text v m x) (sym et)) ∙ done
