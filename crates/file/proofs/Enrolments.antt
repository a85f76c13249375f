-- Bidders enrolled one after the other: when all of them are, and what the register then is.
use Rattle.std.proofs.Common.{◌≡◌, ℕ, ◌+◌, ◌<◌, ◌≤◌, Bool, true, false, cond, ◌||◌, eqb, ltb, List, [], ◌∷◌, ◌++◌, length, take, drop, Ok, Err, Result, Ordering, IsPermutation, sym, refl, ap, ◌∙◌, append-nil, subst, arith}
use Rattle.std.specs.List.{AllByRecursion, IsDistinct}
use Rattle.std.specs.Ordering.{is_eq}
use Rattle.std.proofs.lemmas.Bool.{ltb-true, lt-ltb}
use Rattle.std.proofs.lemmas.List.{take-append-drop}
use Rattle.std.proofs.lemmas.List.Sorted.{IsPermutation-refl, IsPermutation-sym, IsPermutation-trans, IsPermutation-middle, IsPermutation-append_left}
use Rattle.list.specs.Insertion.{has_equal, list_with, count_ahead}
use Rattle.list.specs.Order.{Rising, by_key, by_key_is_total}
use Rattle.list.specs.declared.faults.ListFault.{ListFault}
use Rattle.list.specs.declared.faults.ListFault.TheVariants.{EqualEntry, Full}
use Rattle.list.proofs.Laws.{length_inserted, rising_inserted}
use Rattle.room.specs.declared.register.RegisterEntry.{RegisterEntry}
use Rattle.file.specs.Contents.{enrolment}

abbrev order : RegisterEntry → RegisterEntry → Ordering
order = by_key (λ x. x.bidder)

-- the register once all bidders were enrolled, and that each of them is
abbrev pub register_with : List RegisterEntry → List RegisterEntry → List RegisterEntry
register_with xs [] = xs
register_with xs (e ∷ es) = register_with (list_with order e xs) es

abbrev pub Enrollable : List RegisterEntry → List RegisterEntry → Type 0
Enrollable xs [] = Unit {0}
Enrollable xs (e ∷ es) = (has_equal order e xs ≡ false) × (length xs < 64) × Enrollable (list_with order e xs) es

-- one bidder
pub enrolled_granted : (e : RegisterEntry) (xs : List RegisterEntry) → has_equal order e xs ≡ false → length xs < 64
    → enrolment e xs ≡ Ok (list_with order e xs)
enrolled_granted e xs h l = rw (h, lt-ltb (length xs) 64 l) refl

enrolled_by : (e : RegisterEntry) (xs ys : List RegisterEntry) (h t : Bool) → has_equal order e xs ≡ h → ltb (length xs) 64 ≡ t
    → ◌≡◌ {A = Result (List RegisterEntry) ListFault} (cond h (Err EqualEntry) (cond t (Ok (list_with order e xs)) (Err Full))) (Ok ys)
    → (has_equal order e xs ≡ false) × (length xs < 64) × (list_with order e xs ≡ ys)
enrolled_by e xs ys true t p q r = absurd (let z : ◌≡◌ {A = ℕ} 0 1 = cc in omega arith)
enrolled_by e xs ys false false p q r = absurd (let z : ◌≡◌ {A = ℕ} 0 1 = cc in omega arith)
enrolled_by e xs ys false true p q r = (p, ltb-true (length xs) 64 q, cc)

pub enrolled_back : (e : RegisterEntry) (xs ys : List RegisterEntry) → enrolment e xs ≡ Ok ys
    → (has_equal order e xs ≡ false) × (length xs < 64) × (list_with order e xs ≡ ys)
enrolled_back e xs ys r = enrolled_by e xs ys (has_equal order e xs) (ltb (length xs) 64) refl refl r

-- which bidders are equal
same_number : (x y : RegisterEntry) → is_eq (order x y) ≡ eqb x.bidder y.bidder
same_number x y = grind arith

or_parts : (a b : Bool) → (a || b) ≡ false → (a ≡ false) × (b ≡ false)
or_parts false b h = (refl, h)
or_parts true b h = absurd (let z : ◌≡◌ {A = ℕ} 0 1 = cc in omega arith)

or_swap : (a b c : Bool) → (a || (b || c)) ≡ (b || (a || c))
or_swap true true c = refl
or_swap true false c = refl
or_swap false b c = refl

or_assoc : (a b c : Bool) → ((a || b) || c) ≡ (a || (b || c))
or_assoc true b c = refl
or_assoc false b c = refl

has_equal-append : (e : RegisterEntry) (xs ys : List RegisterEntry)
    → has_equal order e (xs ++ ys) ≡ (has_equal order e xs || has_equal order e ys)
unfolding has_equal
has_equal-append e [] ys = refl
has_equal-append e (x ∷ xs) ys =
    ap (λ b. is_eq (order x e) || b) (has_equal-append e xs ys)
    ∙ sym (or_assoc (is_eq (order x e)) (has_equal order e xs) (has_equal order e ys))

has_equal-list_with : (x e : RegisterEntry) (xs : List RegisterEntry)
    → has_equal order x (list_with order e xs) ≡ (is_eq (order e x) || has_equal order x xs)
unfolding has_equal list_with
has_equal-list_with x e xs =
    let k = count_ahead order e xs in
    has_equal-append x (take k xs) (e ∷ drop k xs)
    ∙ or_swap (has_equal order x (take k xs)) (is_eq (order e x)) (has_equal order x (drop k xs))
    ∙ ap (λ b. is_eq (order e x) || b) (sym (has_equal-append x (take k xs) (drop k xs)) ∙ ap (has_equal order x) (take-append-drop k xs))

-- bidders who are not in the register yet
abbrev New : List RegisterEntry → List RegisterEntry → Type 0
New xs es = AllByRecursion (λ e. has_equal order e xs ≡ false) es

abbrev Apart : RegisterEntry → List RegisterEntry → Type 0
Apart e es = AllByRecursion (λ y. eqb e.bidder y.bidder ≡ false) es

new_with : (e : RegisterEntry) (xs es : List RegisterEntry) → New xs es → Apart e es → New (list_with order e xs) es
new_with e xs [] n a = tt
new_with e xs (x ∷ es) n a = (has_equal-list_with x e xs ∙ (let s = same_number e x in rw (s, a.0, n.0) refl), new_with e xs es n.1 a.1)

new_back : (e : RegisterEntry) (xs es : List RegisterEntry) → New (list_with order e xs) es → New xs es × Apart e es
new_back e xs [] n = (tt, tt)
new_back e xs (x ∷ es) n =
    let k = or_parts (is_eq (order e x)) (has_equal order x xs) (sym (has_equal-list_with x e xs) ∙ n.0) in
    let r = new_back e xs es n.1 in
    ((k.1, r.0), (sym (same_number e x) ∙ k.0, r.1))

-- all are enrolled exactly where they differ, from each other and from those in the register, and there are at most 64
pub are_enrollable : (xs es : List RegisterEntry) → length xs + length es ≤ 64 → New xs es
    → IsDistinct (λ x y. eqb x.bidder y.bidder) es → Enrollable xs es
unfolding IsDistinct
are_enrollable xs [] l n d = tt
are_enrollable xs (e ∷ es) l n d =
    let one = length_inserted order e xs in
    (n.0, omega arith, are_enrollable (list_with order e xs) es (omega arith) (new_with e xs es n.1 d.0) d.1)

enrollable_back : (xs es : List RegisterEntry) → length xs ≤ 64 → Enrollable xs es
    → (length xs + length es ≤ 64) × New xs es × IsDistinct (λ x y. eqb x.bidder y.bidder) es
unfolding IsDistinct
enrollable_back xs [] l h = (omega arith, tt, tt)
enrollable_back xs (e ∷ es) l h =
    let one = length_inserted order e xs in
    let k = enrollable_back (list_with order e xs) es (let m = h.1 in omega arith) h.2 in
    let n = new_back e xs es k.1 in
    ((let m = k.0 in omega arith), (h.0, n.0), (n.1, k.2))

-- from the empty register on
pub few_distinct : (es : List RegisterEntry) → Enrollable [] es → (length es ≤ 64) × IsDistinct (λ x y. eqb x.bidder y.bidder) es
few_distinct es h = let k = enrollable_back [] es (omega arith) h in ((let l = k.0 in omega arith), k.2)

pub all_new : (es : List RegisterEntry) → New [] es
unfolding has_equal
all_new [] = tt
all_new (e ∷ es) = (refl, all_new es)

-- the register has the bidders, each and no other, and it rises
permuted_with : (e : RegisterEntry) (xs : List RegisterEntry) → IsPermutation (e ∷ xs) (list_with order e xs)
unfolding list_with
permuted_with e xs =
    let k = count_ahead order e xs in
    subst (λ z. IsPermutation (e ∷ z) (take k xs ++ (e ∷ drop k xs))) (take-append-drop k xs)
    (IsPermutation-sym (take k xs ++ (e ∷ drop k xs)) (e ∷ (take k xs ++ drop k xs)) (IsPermutation-middle (take k xs) e (drop k xs)))

register_permuted : (xs es : List RegisterEntry) → IsPermutation (xs ++ es) (register_with xs es)
register_permuted xs [] = subst (λ z. IsPermutation z xs) (sym (append-nil xs)) (IsPermutation-refl xs)
register_permuted xs (e ∷ es) =
    IsPermutation-trans (xs ++ (e ∷ es)) (e ∷ (xs ++ es)) (register_with (list_with order e xs) es) (IsPermutation-middle xs e es)
    (IsPermutation-trans ((e ∷ xs) ++ es) (list_with order e xs ++ es) (register_with (list_with order e xs) es)
    (IsPermutation-append_left es (e ∷ xs) (list_with order e xs) (permuted_with e xs)) (register_permuted (list_with order e xs) es))

pub bidders_permuted : (es : List RegisterEntry) → IsPermutation es (register_with [] es)
bidders_permuted es = register_permuted [] es

pub register_rises : (xs es : List RegisterEntry) → Rising order xs → Enrollable xs es → Rising order (register_with xs es)
register_rises xs [] r h = r
register_rises xs (e ∷ es) r h =
    register_rises (list_with order e xs) es (rising_inserted order (by_key_is_total (λ x. x.bidder)) e xs r h.0) h.2
