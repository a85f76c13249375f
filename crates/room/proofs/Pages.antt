-- Equal pages have equal sheets, and equal amounts give equal sheets.
use Rattle.std.proofs.Common.{◌≡◌, ℕ, suc, ◌+◌, ◌^◌, ◌<◌, ◌≤◌, Bool, true, false, cond, eqb, ltb, leb, ◌⊎◌, List, [], ◌∷◌, ◌++◌, decimal, sym, refl, ap, ◌∙◌, subst, ap₂, inl, inr, ⊎_elim, append_assoc, arith}
use Rattle.std.specs.List.{flat_map, AllByRecursion}
use Rattle.std.proofs.lemmas.List.{append_cancel_left}
use Rattle.std.proofs.ByRecursion.{All-push}
use Rattle.std.proofs.lemmas.Fmt.{decimal_by_steps, decimal_injective}
use Rattle.std.proofs.lemmas.Bool.{ltb-true, ltb-false, eqb-true, eqb-false, eq-eqb, ne_eqb, leb-true, and_parts, cases_order, cases_eq, cases_lt, both_ways}
use Rattle.room.specs.Sales.{Bytes, is_registered}
use Rattle.room.specs.Page.{names, row_of, rows, line, page}
use Rattle.room.specs.Making.{rises_from}
use Rattle.room.specs.declared.register.RegisterEntry.{RegisterEntry}
use Rattle.room.specs.declared.printing.Row.{Row}
use Rattle.room.specs.declared.sheet.SheetEntry.{SheetEntry}
use Rattle.room.proofs.Law.{sheet_by}

-- What stands before the first separator.
same_fields : (x : ℕ) (ds es r q : Bytes) → AllByRecursion (λ d. 48 ≤ d) ds → AllByRecursion (λ d. 48 ≤ d) es → x < 48 → ds ++ x ∷ r ≡ es ++ x ∷ q → (ds ≡ es) × (r ≡ q)
same_fields x [] [] r q a b low h = (refl, cc)
same_fields x [] (e ∷ es) r q a b low h = let z : x ≡ e = cc in absurd (omega (arith, b.0))
same_fields x (d ∷ ds) [] r q a b low h = let z : d ≡ x = cc in absurd (omega (arith, a.0))
same_fields x (d ∷ ds) (e ∷ es) r q a b low h =
    let z : d ≡ e = cc in
    let t : ds ++ x ∷ r ≡ es ++ x ∷ q = cc in
    let i = same_fields x ds es r q a.1 b.1 low t in
    (ap₂ ◌∷◌ z i.0, i.1)

digits_high : (n : ℕ) → n < 2 ^ 64 → AllByRecursion (λ d. 48 ≤ d) (decimal n)
digits_high = decimal_by_steps (λ n ds. AllByRecursion (λ d. 48 ≤ d) ds) (λ n l. (omega arith, tt)) (λ n ds l a. All-push _ ds _ a (omega arith))

same_decimals : (x m n : ℕ) (r q : Bytes) → x < 48 → m < 2 ^ 64 → n < 2 ^ 64 → decimal m ++ x ∷ r ≡ decimal n ++ x ∷ q → (m ≡ n) × (r ≡ q)
same_decimals x m n r q low a b h =
    let i = same_fields x (decimal m) (decimal n) r q (digits_high m a) (digits_high n b) low h in
    (decimal_injective m n a b i.0, i.1)

-- Numbers of a sheet entry, and of a row_of, have 64 bits.
abbrev pub Written : SheetEntry → Type 0
Written r = (r.bidder < 2 ^ 64) × (r.amount < 2 ^ 64)

abbrev WrittenRow : Row → Type 0
WrittenRow r = (r.lot < 2 ^ 64) × (r.bidder < 2 ^ 64) × (r.amount < 2 ^ 64)

same_line : (a b : Row) (r q : Bytes) → WrittenRow a → WrittenRow b → line a ++ r ≡ line b ++ q → (a ≡ b) × (r ≡ q)
unfolding line
same_line a b r q wa wb h =
    let e = simp append_assoc at h in
    let i = same_decimals 44 a.lot b.lot _ _ (omega arith) wa.0 wb.0 e in
    let j = same_decimals 44 a.bidder b.bidder _ _ (omega arith) wa.1 wb.1 i.1 in
    let k = same_decimals 10 a.amount b.amount r q (omega arith) wa.2 wb.2 j.1 in
    (λ t. record { lot = i.0 t; bidder = j.0 t; amount = k.0 t }, k.1)

-- What may follow the lines: nothing, or bytes that begin with no digit.
abbrev pub EndsLines : Bytes → Type 0
EndsLines [] = Unit {0}
EndsLines (x ∷ xs) = x < 48

abbrev BeginsHigh : Bytes → Type 0
BeginsHigh [] = ⊥
BeginsHigh (d ∷ ds) = 48 ≤ d

begins_still : (ds : Bytes) (d : ℕ) → BeginsHigh ds → BeginsHigh (ds ++ d ∷ [])
begins_still [] d h = absurd h
begins_still (e ∷ ds) d h = h

digit_first : (n : ℕ) → n < 2 ^ 64 → BeginsHigh (decimal n)
digit_first = decimal_by_steps (λ n ds. BeginsHigh ds) (λ n l. omega arith) (λ n ds l a. begins_still ds _ a)

-- So it is no line.
no_digits : (ds z r : Bytes) → BeginsHigh ds → EndsLines r → r ≡ ds ++ z → ⊥
no_digits [] z r h e q = h
no_digits (d ∷ ds) z [] h e q = let w : ◌≡◌ {A = ℕ} 0 1 = cc in omega arith
no_digits (d ∷ ds) z (x ∷ r) h e q = let w : x ≡ d = cc in omega arith

no_line : (y : Row) (z r : Bytes) → WrittenRow y → EndsLines r → r ≡ line y ++ z → ⊥
unfolding line
no_line y z r w e q = no_digits (decimal y.lot) _ r (digit_first y.lot w.0) e (q ∙ append_assoc (decimal y.lot) _ z)

same_lines : (xs ys : List Row) (r q : Bytes) → EndsLines r → EndsLines q → AllByRecursion WrittenRow xs → AllByRecursion WrittenRow ys
    → flat_map line xs ++ r ≡ flat_map line ys ++ q → (xs ≡ ys) × (r ≡ q)
same_lines [] [] r q er eq a b h = (refl, h)
same_lines [] (y ∷ ys) r q er eq a b h = absurd (no_line y _ r b.0 er (h ∙ append_assoc (line y) (flat_map line ys) q))
same_lines (x ∷ xs) [] r q er eq a b h = absurd (no_line x _ q a.0 eq (sym h ∙ append_assoc (line x) (flat_map line xs) r))
same_lines (x ∷ xs) (y ∷ ys) r q er eq a b h =
    let i = same_line x y _ _ a.0 b.0 (sym (append_assoc (line x) (flat_map line xs) r) ∙ h ∙ append_assoc (line y) (flat_map line ys) q) in
    let j = same_lines xs ys r q er eq a.1 b.1 i.1 in
    (ap₂ ◌∷◌ i.0 j.0, j.1)

-- The rows of a sheet tell its entries.
same_entries : (lot : ℕ) (xs ys : List SheetEntry) → rows lot xs ≡ rows lot ys → xs ≡ ys
same_entries lot [] [] h = refl
same_entries lot [] (y ∷ ys) h = absurd (let w : ◌≡◌ {A = ℕ} 0 1 = cc in omega arith)
same_entries lot (x ∷ xs) [] h = absurd (let w : ◌≡◌ {A = ℕ} 0 1 = cc in omega arith)
same_entries lot (x ∷ xs) (y ∷ ys) h =
    let e : row_of lot x ≡ row_of lot y = cc in
    let t : rows lot xs ≡ rows lot ys = cc in
    ap₂ ◌∷◌ (λ i. record { bidder = (e i).bidder; amount = (e i).amount }) (same_entries lot xs ys t)

written_rows : (lot : ℕ) (xs : List SheetEntry) → lot < 2 ^ 64 → AllByRecursion Written xs → AllByRecursion WrittenRow (rows lot xs)
written_rows lot [] l h = tt
written_rows lot (x ∷ xs) l h = ((l, h.0.0, h.0.1), written_rows lot xs l h.1)

-- Pages of one lot, with something behind them that is no line.
pub same_sheets : (lot : ℕ) (xs ys : List SheetEntry) (r q : Bytes) → EndsLines r → EndsLines q → lot < 2 ^ 64 → AllByRecursion Written xs → AllByRecursion Written ys
    → page lot xs ++ r ≡ page lot ys ++ q → (xs ≡ ys) × (r ≡ q)
unfolding page
same_sheets lot xs ys r q er eq small a b h =
    let behind : flat_map line (rows lot xs) ++ r ≡ flat_map line (rows lot ys) ++ q =
    append_cancel_left names _ _ (sym (append_assoc names (flat_map line (rows lot xs)) r) ∙ h ∙ append_assoc names (flat_map line (rows lot ys)) q) in
    let i = same_lines (rows lot xs) (rows lot ys) r q er eq (written_rows lot xs small a) (written_rows lot ys small b) behind in
    (same_entries lot xs ys i.0, i.1)

-- The amount that a sheet has for a bidder.
abbrev pub found : List SheetEntry → ℕ → ℕ
found [] b = 0
found (x ∷ xs) b = cond (eqb x.bidder b) x.amount (found xs b)

-- Bidders rise, none is below m, and no amount is 0.
abbrev pub SheetFrom : ℕ → List SheetEntry → Type 0
SheetFrom m [] = Unit {0}
SheetFrom m (x ∷ xs) = (m ≤ x.bidder) × (0 < x.amount) × SheetFrom (suc x.bidder) xs

found_here : (x : SheetEntry) (xs : List SheetEntry) (b : ℕ) → x.bidder ≡ b → found (x ∷ xs) b ≡ x.amount
found_here x xs b e = rw (eq-eqb x.bidder b e)

found_later : (x : SheetEntry) (xs : List SheetEntry) (b : ℕ) → (x.bidder ≡ b → ⊥) → found (x ∷ xs) b ≡ found xs b
found_later x xs b e = rw (ne_eqb x.bidder b e)

found_below : (m b : ℕ) (xs : List SheetEntry) → SheetFrom m xs → b < m → found xs b ≡ 0
found_below m b [] h l = refl
found_below m b (x ∷ xs) h l = found_later x xs b (λ e. omega (arith, h.0)) ∙ found_below (suc x.bidder) b xs h.2 (omega (arith, h.0))

pub same_found : (m : ℕ) (xs ys : List SheetEntry) → SheetFrom m xs → SheetFrom m ys → ((b : ℕ) → found xs b ≡ found ys b) → xs ≡ ys
same_found m [] [] a b h = refl
same_found m [] (y ∷ ys) a b h = absurd (omega (arith, b.1, h y.bidder, found_here y ys y.bidder refl))
same_found m (x ∷ xs) [] a b h = absurd (omega (arith, a.1, h x.bidder, found_here x xs x.bidder refl))
same_found m (x ∷ xs) (y ∷ ys) a b h = by_order (cases_order x.bidder y.bidder) (same_found (suc x.bidder) xs ys a.2)
  where
    by_order : (x.bidder ≡ y.bidder) ⊎ ((x.bidder < y.bidder) ⊎ (y.bidder < x.bidder)) → (SheetFrom (suc x.bidder) ys → ((b : ℕ) → found xs b ≡ found ys b) → xs ≡ ys) → x ∷ xs ≡ y ∷ ys
    by_order (inl e) ih =
        let am = sym (found_here x xs x.bidder refl) ∙ h x.bidder ∙ found_here y ys x.bidder (sym e) in
        ap₂ ◌∷◌ (λ i. record { bidder = e i; amount = am i }) (ih (rw e b.2) (λ c.
        ⊎_elim
        (λ same. found_below (suc x.bidder) c xs a.2 (omega arith) ∙ sym (found_below (suc y.bidder) c ys b.2 (omega arith)))
        (λ other. sym (found_later x xs c other) ∙ h c ∙ found_later y ys c (λ z. other (e ∙ z)))
        (cases_eq x.bidder c)))
    by_order (inr (inl l)) ih = absurd (omega (arith, a.1, h x.bidder, found_here x xs x.bidder refl, found_below y.bidder x.bidder (y ∷ ys) (omega arith, b.1, b.2) l))
    by_order (inr (inr l)) ih = absurd (omega (arith, b.1, h y.bidder, found_here y ys y.bidder refl, found_below x.bidder y.bidder (x ∷ xs) (omega arith, a.1, a.2) l))

sheet_weaker : (m n : ℕ) (xs : List SheetEntry) → m ≤ n → SheetFrom n xs → SheetFrom m xs
sheet_weaker m n [] l h = tt
sheet_weaker m n (x ∷ xs) l h = (omega (arith, h.0), h.1, h.2)

-- Strictly rising bidders, none below m.
abbrev pub RisesFrom : ℕ → List RegisterEntry → Type 0
RisesFrom m [] = Unit {0}
RisesFrom m (x ∷ xs) = (m ≤ x.bidder) × RisesFrom (suc x.bidder) xs

pub rises : (m : ℕ) (xs : List RegisterEntry) → rises_from m xs ≡ true → RisesFrom m xs
rises m [] h = tt
rises m (x ∷ xs) h =
    let p = and_parts (leb m x.bidder) (rises_from (x.bidder + 1) xs) h in
    let more : x.bidder + 1 ≡ suc x.bidder = omega arith in
    (leb-true m x.bidder p.0, rises (suc x.bidder) xs (subst (λ n. rises_from n xs ≡ true) more p.1))

module _ (f : ℕ → ℕ) where
  pub sheet_rises : (m : ℕ) (xs : List RegisterEntry) → RisesFrom m xs → SheetFrom m (sheet_by f xs)
  sheet_rises m [] h = tt
  sheet_rises m (x ∷ xs) h = go (ltb 0 (f x.bidder)) refl (sheet_rises (suc x.bidder) xs h.1)
    where
      go : (t : Bool) → ltb 0 (f x.bidder) ≡ t → SheetFrom (suc x.bidder) (sheet_by f xs) → SheetFrom m (cond t (record { bidder = x.bidder; amount = f x.bidder } ∷ sheet_by f xs) (sheet_by f xs))
      go true e r = (h.0, ltb-true _ _ e, r)
      go false e r = sheet_weaker m (suc x.bidder) (sheet_by f xs) (omega (arith, h.0)) r

  pub sheet_written : (xs : List RegisterEntry) → AllByRecursion (λ x. x.bidder < 2 ^ 32) xs → ((b : ℕ) → f b < 2 ^ 64) → AllByRecursion Written (sheet_by f xs)
  sheet_written [] h small = tt
  sheet_written (x ∷ xs) h small = go (ltb 0 (f x.bidder)) (sheet_written xs h.1 small)
    where
      go : (t : Bool) → AllByRecursion Written (sheet_by f xs) → AllByRecursion Written (cond t (record { bidder = x.bidder; amount = f x.bidder } ∷ sheet_by f xs) (sheet_by f xs))
      go true r = ((omega (arith, h.0), small x.bidder), r)
      go false r = r

  -- The sheet has each registered bidder's amount.
  pub sheet_finds : (m b : ℕ) (xs : List RegisterEntry) → RisesFrom m xs → (0 < f b → is_registered xs b ≡ true) → found (sheet_by f xs) b ≡ f b
  sheet_finds m b [] h known = ⊎_elim (λ l. absurd (both_ways false refl (known l))) (λ l. omega arith) (cases_lt 0 (f b))
  sheet_finds m b (x ∷ xs) h known = go (ltb 0 (f x.bidder)) refl (eqb x.bidder b) refl known (sheet_finds (suc x.bidder) b xs h.1)
    where
      go : (t : Bool) → ltb 0 (f x.bidder) ≡ t → (u : Bool) → eqb x.bidder b ≡ u → (0 < f b → cond u true (is_registered xs b) ≡ true) → ((0 < f b → is_registered xs b ≡ true) → found (sheet_by f xs) b ≡ f b) → found (cond t (record { bidder = x.bidder; amount = f x.bidder } ∷ sheet_by f xs) (sheet_by f xs)) b ≡ f b
      go true e true same k ih = found_here _ (sheet_by f xs) b (eqb-true _ _ same) ∙ ap f (eqb-true _ _ same)
      go true e false other k ih = found_later _ (sheet_by f xs) b (eqb-false _ _ other) ∙ ih k
      go false e true same k ih =
          let z = eqb-true _ _ same in
          let none = ltb-false 0 (f x.bidder) e in
          found_below (suc x.bidder) b (sheet_by f xs) (sheet_rises (suc x.bidder) xs h.1) (omega arith) ∙ sym (ap f (sym z) ∙ omega arith)
      go false e false other k ih = ih k
