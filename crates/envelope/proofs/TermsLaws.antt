-- Terms: bytes held as numbers, there and back.
use Rattle.std.proofs.Common.{◌≡◌, ℕ, ◌+◌, ◌-◌, ◌<◌, ◌≤◌, List, ◌++◌, length, take, drop, replicate, sym, refl, ap, ◌∙◌, ap₂, arith}
use borrow.Rule.Slice.PartMut.{put_mid, post_of}
use Rattle.std.specs.Int.Digits.{number_from_digits, AllBelowBase}
use Rattle.std.proofs.ByRecursion.{All-take, All-drop}
use Rattle.std.proofs.lemmas.List.{take_all, take-append-drop, drop-drop, length-take-le, length-drop, length-append, append_assoc, drop-replicate}
use Rattle.big_endian.specs.Numbers.{bytes_of}
use Rattle.big_endian.proofs.Laws.{bytes_back, bytes_of_length}
use Rattle.envelope.specs.Terms.{held_bytes, bytes_of_terms}
use Rattle.envelope.specs.declared.terms.Terms.{Terms}
use Rattle.envelope.proofs.Writing.{write_more, write_all}

-- Sixteen bytes from place k on are those of the number that they write.
part_back : (k n : ℕ) (xs : List ℕ) → k + 16 ≤ length xs → AllBelowBase 256 xs → n ≡ number_from_digits 256 (take 16 (take 16 (drop k xs))) → bytes_of 16 n ≡ take 16 (drop k xs)
part_back k n xs h u e =
    let long : length (take 16 (drop k xs)) ≡ 16 = length-take-le 16 (drop k xs) (omega (arith, length-drop k xs)) in
    let whole : n ≡ number_from_digits 256 (take 16 (drop k xs)) = e ∙ ap (number_from_digits 256) (take_all 16 (take 16 (drop k xs)) (omega arith)) in
    ap (bytes_of 16) whole ∙ bytes_back 16 (take 16 (drop k xs)) long (All-take (λ d. d < 256) 16 (drop k xs) (All-drop (λ d. d < 256) k xs u))

-- Four parts of sixteen bytes are all of 64 bytes.
four_parts : (xs : List ℕ) → length xs ≡ 64 → take 16 xs ++ (take 16 (drop 16 xs) ++ (take 16 (drop 32 xs) ++ take 16 (drop 48 xs))) ≡ xs
four_parts xs h =
    let last : take 16 (drop 48 xs) ≡ drop 48 xs = take_all 16 (drop 48 xs) (omega (arith, length-drop 48 xs)) in
    let third : take 16 (drop 32 xs) ++ drop 48 xs ≡ drop 32 xs = ap (λ p. take 16 (drop 32 xs) ++ p) (sym (drop-drop 16 32 xs)) ∙ take-append-drop 16 (drop 32 xs) in
    let second : take 16 (drop 16 xs) ++ drop 32 xs ≡ drop 16 xs = ap (λ p. take 16 (drop 16 xs) ++ p) (sym (drop-drop 16 16 xs)) ∙ take-append-drop 16 (drop 16 xs) in
    ap (λ p. take 16 xs ++ (take 16 (drop 16 xs) ++ (take 16 (drop 32 xs) ++ p))) last
    ∙ ap (λ p. take 16 xs ++ (take 16 (drop 16 xs) ++ p)) third
    ∙ ap (λ p. take 16 xs ++ p) second
    ∙ take-append-drop 16 xs

-- The four numbers that 64 bytes write hold them.
pub held_back : (xs : List ℕ) (t : Terms) → length xs ≡ 64 → AllBelowBase 256 xs → t.a ≡ number_from_digits 256 (take 16 (take 16 xs)) → t.b ≡ number_from_digits 256 (take 16 (take 16 (drop 16 xs))) → t.c ≡ number_from_digits 256 (take 16 (take 16 (drop 32 xs))) → t.d ≡ number_from_digits 256 (take 16 (take 16 (drop 48 xs))) → held_bytes t ≡ xs
unfolding held_bytes
held_back xs t h u ea eb ec ed =
    ap₂ ◌++◌ (part_back 0 t.a xs (omega arith) u ea)
    (ap₂ ◌++◌ (part_back 16 t.b xs (omega arith) u eb)
    (ap₂ ◌++◌ (part_back 32 t.c xs (omega arith) u ec) (part_back 48 t.d xs (omega arith) u ed)))
    ∙ four_parts xs h

-- The terms that held bytes begin with.
pub terms_held : (t : Terms) (xs : List ℕ) → held_bytes t ≡ xs → bytes_of_terms t ≡ take t.len xs
unfolding bytes_of_terms
terms_held t xs e = ap (take t.len) e

pub held_length : (t : Terms) → length (held_bytes t) ≡ 64
unfolding held_bytes
held_length t =
    let a = bytes_of 16 t.a in
    let b = bytes_of 16 t.b in
    let c = bytes_of 16 t.c in
    let d = bytes_of 16 t.d in
    let la = bytes_of_length 16 t.a in
    let lb = bytes_of_length 16 t.b in
    let lc = bytes_of_length 16 t.c in
    let ld = bytes_of_length 16 t.d in
    omega (arith, length-append a (b ++ (c ++ d)), length-append b (c ++ d), length-append c d)

pub terms_length : (t : Terms) → length (bytes_of_terms t) ≡ t.len
unfolding bytes_of_terms
terms_length t = let s = t.short in length-take-le t.len (held_bytes t) (omega (arith, held_length t))

pub terms_short : (t : Terms) → length (bytes_of_terms t) ≤ 64
terms_short t = let s = t.short in omega (arith, terms_length t)

-- What is left of 64 zeros behind n others.
pub zeros_left : (n : ℕ) → drop {A = ℕ} n (replicate 64 0) ≡ replicate (64 - n) 0
zeros_left n = drop-replicate n 64 0

-- What stands in 64 places after the four numbers are written.
pub held_written : (t : Terms) (xs ya yb yc yd : List ℕ) → length xs ≡ 64 → ya ≡ bytes_of 16 t.a → yb ≡ bytes_of 16 t.b → yc ≡ bytes_of 16 t.c → yd ≡ bytes_of 16 t.d
    → put_mid 48 16 (put_mid 32 16 (put_mid 16 16 (ya ++ post_of 0 16 xs) yb) yc) yd ≡ held_bytes t
unfolding held_bytes
held_written t xs ya yb yc yd h ea eb ec ed =
    let la : length ya ≡ 16 = ap length ea ∙ bytes_of_length 16 t.a in
    let lb : length yb ≡ 16 = ap length eb ∙ bytes_of_length 16 t.b in
    let lc : length yc ≡ 16 = ap length ec ∙ bytes_of_length 16 t.c in
    let two = write_more 16 16 ya yb xs (ya ++ post_of 0 16 xs) la refl in
    let l2 : length (ya ++ yb) ≡ 32 = length-append ya yb ∙ omega arith in
    let three = write_more 32 16 (ya ++ yb) yc xs _ l2 two in
    let l3 : length ((ya ++ yb) ++ yc) ≡ 48 = length-append (ya ++ yb) yc ∙ omega arith in
    let four = write_more 48 16 ((ya ++ yb) ++ yc) yd xs _ l3 three in
    write_all 64 (((ya ++ yb) ++ yc) ++ yd) xs _ (omega arith) four
    ∙ append_assoc (ya ++ yb) yc yd ∙ append_assoc ya yb (yc ++ yd)
    ∙ ap₂ ◌++◌ ea (ap₂ ◌++◌ eb (ap₂ ◌++◌ ec ed))
