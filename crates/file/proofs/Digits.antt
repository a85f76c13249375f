-- Reading digits one after the other.
use Rattle.std.proofs.Common.{◌≡◌, ℕ, ◌+◌, ◌-◌, ◌*◌, ◌<◌, ◌≤◌, true, false, cond, ◌&&◌, leb, List, [], ◌∷◌, length, get_or, drop, Some, None, Option, refl, ◌∙◌, arith}
use Rattle.std.proofs.lemmas.List.{at_drop_more, at_drop_all}
use Rattle.std.proofs.lemmas.Bool.{le-leb, lt-leb, and_right}
use Rattle.file.specs.Numbers.{is_digit, all_digits, value_after, value_of}

-- What digits write behind those of n.
unfoldable pub read_on : ℕ → List ℕ → Option ℕ
read_on n ds = cond (all_digits ds && leb (value_after n ds) 4294967295) (Some (value_after n ds)) None

pub value_grows : (n : ℕ) (ds : List ℕ) → n ≤ value_after n ds
unfolding value_after
value_grows n [] = omega arith
value_grows n (c ∷ cs) = let h = value_grows (n * 10 + (c - 48)) cs in omega arith

-- a digit that leaves the number small enough
pub read_more : (n : ℕ) (ds : List ℕ) (i : ℕ) → i < length ds → is_digit (get_or ds i 0) ≡ true → read_on n (drop i ds) ≡ read_on (n * 10 + (get_or ds i 0 - 48)) (drop (i + 1) ds)
unfolding read_on all_digits value_after
read_more n ds i l d = at_drop_more (read_on n) ds i 0 l ∙ rw d refl

pub read_other : (n : ℕ) (ds : List ℕ) (i : ℕ) → i < length ds → is_digit (get_or ds i 0) ≡ false → read_on n (drop i ds) ≡ None
unfolding read_on all_digits value_after
read_other n ds i l d = at_drop_more (read_on n) ds i 0 l ∙ rw d refl

pub read_large : (n : ℕ) (ds : List ℕ) → 4294967295 < n → read_on n ds ≡ None
unfolding read_on
read_large n ds l =
    let g = value_grows n ds in
    let f : leb (value_after n ds) 4294967295 ≡ false = lt-leb (value_after n ds) 4294967295 (omega arith) in
    let a : (all_digits ds && leb (value_after n ds) 4294967295) ≡ false = and_right (all_digits ds) (leb (value_after n ds) 4294967295) f in
    rw a refl

pub read_end : (n : ℕ) (ds : List ℕ) (i : ℕ) → length ds ≤ i → n ≤ 4294967295 → read_on n (drop i ds) ≡ Some n
unfolding read_on all_digits value_after
read_end n ds i l s = at_drop_all (read_on n) ds i l ∙ (let f : leb n 4294967295 ≡ true = le-leb n 4294967295 s in rw f refl)

pub read_start : (ds : List ℕ) → read_on 0 ds ≡ value_of ds
unfolding read_on value_of
read_start ds = refl
