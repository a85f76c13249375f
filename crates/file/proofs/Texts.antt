-- Lines as a text, and the lines of a text.
use Rattle.std.proofs.Common.{◌≡◌, ℕ, Bool, true, false, eqb, ◌≢◌, List, [], ◌∷◌, ◌++◌, sym, refl, ap, ◌∙◌, subst, arith}
use Rattle.std.proofs.lemmas.Bool.{eqb-true, eqb-false, ne_eqb}
use Rattle.std.specs.List.{AllByRecursion}
use Rattle.room.specs.Sales.{Bytes}
use Rattle.file.specs.Format.{text_of}
use Rattle.file.specs.Lines.{Lines, finished, torn, line, lines_with_byte, lines_in}
use Rattle.file.proofs.Cuts.{lines_here, lines_later}

-- no byte is b
abbrev pub Without : ℕ → Bytes → Type 0
Without b bs = AllByRecursion (λ x. x ≢ b) bs

pub without_append : (b : ℕ) (xs ys : Bytes) → Without b xs → Without b ys → Without b (xs ++ ys)
without_append b [] ys h k = k
without_append b (x ∷ xs) ys h k = (h.0, without_append b xs ys h.1 k)

pub without_behind : (b : ℕ) (xs ys : Bytes) → Without b (xs ++ ys) → Without b ys
without_behind b [] ys h = h
without_behind b (x ∷ xs) ys h = without_behind b xs ys h.1

-- lines that are given one by one
abbrev pub lines_as : List Bytes → Lines
lines_as [] = finished
lines_as (l ∷ ls) = line l (lines_as ls)

pub lines-ended : (l bs : Bytes) → Without 10 l → lines_in (l ++ (10 ∷ bs)) ≡ line l (lines_in bs)
unfolding lines_in
lines-ended [] bs w = refl
lines-ended (c ∷ cs) bs w = lines_later c (cs ++ (10 ∷ bs)) (ne_eqb c 10 w.0) ∙ ap (lines_with_byte c) (lines-ended cs bs w.1)

pub lines-text_of : (ls : List Bytes) → AllByRecursion (Without 10) ls → lines_in (text_of ls) ≡ lines_as ls
unfolding lines_in text_of
lines-text_of [] w = refl
lines-text_of (l ∷ ls) w = lines-ended l (text_of ls) w.0 ∙ ap (line l) (lines-text_of ls w.1)

-- lines that are all ended make their text again
abbrev joined : Lines → Bytes
joined finished = []
joined torn = []
joined (line l ls) = l ++ (10 ∷ joined ls)

abbrev IsWhole : Lines → Type 0
IsWhole finished = Unit {0}
IsWhole torn = ⊥
IsWhole (line l ls) = IsWhole ls

joined-lengthened : (c : ℕ) (ls : Lines) → IsWhole (lines_with_byte c ls) → IsWhole ls × (joined (lines_with_byte c ls) ≡ c ∷ joined ls)
joined-lengthened c finished w = absurd w
joined-lengthened c torn w = absurd w
joined-lengthened c (line l ls) w = (w, refl)

joined_by : (c : ℕ) (cs : Bytes) (t : Bool) → eqb c 10 ≡ t → (IsWhole (lines_in cs) → joined (lines_in cs) ≡ cs)
    → IsWhole (lines_in (c ∷ cs)) → joined (lines_in (c ∷ cs)) ≡ c ∷ cs
joined_by c cs true e ih w =
    let h = lines_here c cs e in
    ap joined h ∙ ap (λ z. 10 ∷ z) (ih (subst IsWhole h w)) ∙ ap (λ z. z ∷ cs) (sym (eqb-true c 10 e))
joined_by c cs false e ih w =
    let h = lines_later c cs e in
    let k = joined-lengthened c (lines_in cs) (subst IsWhole h w) in
    ap joined h ∙ k.1 ∙ ap (λ z. c ∷ z) (ih k.0)

joined-lines : (bs : Bytes) → IsWhole (lines_in bs) → joined (lines_in bs) ≡ bs
unfolding lines_in
joined-lines [] w = refl
joined-lines (c ∷ cs) w = joined_by c cs (eqb c 10) refl (joined-lines cs) w

whole_as : (ls : List Bytes) → IsWhole (lines_as ls)
whole_as [] = tt
whole_as (l ∷ ls) = whole_as ls

joined_as : (ls : List Bytes) → joined (lines_as ls) ≡ text_of ls
unfolding text_of
joined_as [] = refl
joined_as (l ∷ ls) = ap (λ z. l ++ (10 ∷ z)) (joined_as ls)

pub text_back : (bs : Bytes) (ls : List Bytes) → lines_in bs ≡ lines_as ls → bs ≡ text_of ls
text_back bs ls e = sym (joined-lines bs (subst IsWhole (sym e) (whole_as ls))) ∙ ap joined e ∙ joined_as ls

-- and none of them has a byte 10
abbrev pub NoTens : Lines → Type 0
NoTens finished = Unit {0}
NoTens torn = Unit {0}
NoTens (line l ls) = Without 10 l × NoTens ls

no_tens_lengthened : (c : ℕ) (ls : Lines) → c ≢ 10 → NoTens ls → NoTens (lines_with_byte c ls)
no_tens_lengthened c finished h k = tt
no_tens_lengthened c torn h k = tt
no_tens_lengthened c (line l ls) h k = ((h, k.0), k.1)

no_tens_by : (c : ℕ) (cs : Bytes) (t : Bool) → eqb c 10 ≡ t → NoTens (lines_in cs) → NoTens (lines_in (c ∷ cs))
no_tens_by c cs true e ih = subst NoTens (sym (lines_here c cs e)) (tt, ih)
no_tens_by c cs false e ih = subst NoTens (sym (lines_later c cs e)) (no_tens_lengthened c (lines_in cs) (eqb-false c 10 e) ih)

pub no_tens : (bs : Bytes) → NoTens (lines_in bs)
unfolding lines_in
no_tens [] = tt
no_tens (c ∷ cs) = no_tens_by c cs (eqb c 10) refl (no_tens cs)

-- the first line, and what lies behind it
pub record FirstLine (bs l : Bytes) (ls : Lines) : Type 0 where
  pub behind : Bytes
  pub are : bs ≡ l ++ (10 ∷ behind)
  pub rest : lines_in behind ≡ ls

first_longer : (c : ℕ) (cs l : Bytes) (ls got : Lines) → lines_in cs ≡ got → lines_with_byte c got ≡ line l ls
    → ((k : Bytes) (ks : Lines) → lines_in cs ≡ line k ks → FirstLine cs k ks) → FirstLine (c ∷ cs) l ls
first_longer c cs l ls finished g e ih = absurd (let z : ◌≡◌ {A = ℕ} 0 1 = cc in omega arith)
first_longer c cs l ls torn g e ih = absurd (let z : ◌≡◌ {A = ℕ} 0 1 = cc in omega arith)
first_longer c cs l ls (line k ks) g e ih =
    let r = ih k ks g in
    let q : c ∷ k ≡ l = cc in
    let p : ks ≡ ls = cc in
    record { behind = r.behind; are = ap (λ z. c ∷ z) r.are ∙ ap (λ z. z ++ (10 ∷ r.behind)) q; rest = r.rest ∙ p }

first_by : (c : ℕ) (cs l : Bytes) (ls : Lines) (t : Bool) → eqb c 10 ≡ t → lines_in (c ∷ cs) ≡ line l ls
    → ((k : Bytes) (ks : Lines) → lines_in cs ≡ line k ks → FirstLine cs k ks) → FirstLine (c ∷ cs) l ls
first_by c cs l ls true h e ih =
    let g : line [] (lines_in cs) ≡ line l ls = sym (lines_here c cs h) ∙ e in
    let q : [] ≡ l = cc in
    let p : lines_in cs ≡ ls = cc in
    record { behind = cs; are = ap (λ z. z ∷ cs) (eqb-true c 10 h) ∙ ap (λ z. z ++ (10 ∷ cs)) q; rest = p }
first_by c cs l ls false h e ih = first_longer c cs l ls (lines_in cs) refl (sym (lines_later c cs h) ∙ e) ih

pub first_line : (bs l : Bytes) (ls : Lines) → lines_in bs ≡ line l ls → FirstLine bs l ls
unfolding lines_in
first_line [] l ls e = absurd (let z : ◌≡◌ {A = ℕ} 0 1 = cc in omega arith)
first_line (c ∷ cs) l ls e = first_by c cs l ls (eqb c 10) refl e (first_line cs)

-- lines are told from each other
listed : Lines → List Bytes
listed finished = []
listed torn = []
listed (line l ls) = l ∷ listed ls

listed_as : (ls : List Bytes) → listed (lines_as ls) ≡ ls
unfolding listed
listed_as [] = refl
listed_as (l ∷ ls) = ap (λ z. l ∷ z) (listed_as ls)

pub same_lines : (ls ks : List Bytes) → lines_as ls ≡ lines_as ks → ls ≡ ks
same_lines ls ks e = sym (listed_as ls) ∙ ap listed e ∙ listed_as ks

pub no_tens_as : (ls : List Bytes) → AllByRecursion (Without 10) ls → NoTens (lines_as ls)
no_tens_as [] h = tt
no_tens_as (l ∷ ls) h = (h.0, no_tens_as ls h.1)
