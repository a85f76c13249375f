-- Closed rooms whose standing amounts are known: the one page that they print.
use Rattle.std.proofs.Common.{◌≡◌, ℕ, cond, ltb, List, [], ◌∷◌, map, length, get_or, drop, refl, sym, ap, ◌∙◌, subst, arith}
use Rattle.std.specs.List.{AllByRecursion}
use Rattle.std.proofs.ByRecursion.{All-weaker}
use Rattle.room.specs.Sales.{Bytes}
use Rattle.room.specs.Page.{page}
use Rattle.room.specs.Runs.{History, IsClosed, lodgings, Stands, Prints}
use Rattle.room.specs.declared.register.RegisterEntry.{RegisterEntry}
use Rattle.room.specs.declared.sheet.SheetEntry.{SheetEntry}
use Rattle.room.proofs.Law.{sheet_by}
use Rattle.room.proofs.Amounts.{amounts, amount_only}
use Rattle.room.proofs.Histories.{left_by, some_page}

-- The entries of a list whose amount is above 0.
abbrev pub above_0 : List SheetEntry → List SheetEntry
above_0 [] = []
above_0 (a ∷ ys) = cond (ltb 0 a.amount) (a ∷ above_0 ys) (above_0 ys)

-- The bidders of a list are those of a register, in its order, and each has the amount of a function.
sheet_above_0 : (f : ℕ → ℕ) (xs : List RegisterEntry) (ys : List SheetEntry) → map (λ e. e.bidder) xs ≡ map (λ a. a.bidder) ys
    → AllByRecursion (λ a. f a.bidder ≡ a.amount) ys → sheet_by f xs ≡ above_0 ys
sheet_above_0 f [] [] same all = refl
sheet_above_0 f [] (a ∷ ys) same all = absurd (omega (arith, ap length same))
sheet_above_0 f (x ∷ xs) [] same all = absurd (omega (arith, ap length same))
sheet_above_0 f (x ∷ xs) (a ∷ ys) same all =
    let bidder : x.bidder ≡ a.bidder = ap (λ bs. get_or bs 0 0) same in
    let amount : f x.bidder ≡ a.amount = ap f bidder ∙ all.0 in
    let rest = sheet_above_0 f xs ys (ap (drop 1) same) all.1 in
    λ i. cond (ltb 0 (amount i)) (record { bidder = bidder i; amount = amount i } ∷ rest i) (rest i)

-- The amounts of a list stand in a room, whose bidders are just those of the list.
pub record AmountsStand (x : History) (ys : List SheetEntry) : Type 0 where
  pub bidders : map (λ e. e.bidder) x.sale.register ≡ map (λ a. a.bidder) ys
  pub stand : AllByRecursion (λ a. Stands x a.bidder a.amount) ys

module _ (x : History) (closed : IsClosed x) (ys : List SheetEntry) (are : AmountsStand x ys) where
  pub page_above_0 : (p : Bytes) → Prints x p → p ≡ page x.sale.lot (above_0 ys)
  page_above_0 p h =
      let l = left_by x closed p h in
      let f : ℕ → ℕ = amounts x.sale (lodgings x) p l in
      let found : AllByRecursion (λ a. f a.bidder ≡ a.amount) ys =
      All-weaker (λ a. Stands x a.bidder a.amount) (λ a. f a.bidder ≡ a.amount)
      (λ a st. sym (amount_only x.sale (lodgings x) p l a.bidder a.amount st)) ys are.stand in
      l.is ∙ ap (page x.sale.lot) (sheet_above_0 f x.sale.register ys are.bidders found)

  pub prints_above_0 : Prints x (page x.sale.lot (above_0 ys))
  prints_above_0 = let p = some_page x closed in subst (Prints x) (page_above_0 _ p) p
