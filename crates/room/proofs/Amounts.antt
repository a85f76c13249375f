-- Where two sales left equal pages, every standing amount is equal, and the other way round.
use Rattle.std.proofs.Common.{◌≡◌, ℕ, ◌^◌, ◌<◌, Bool, true, false, cond, ◌↔◌, List, [], ◌++◌, Some, None, Option, sym, ap, ◌∙◌, subst, ap₂, arith}
use Rattle.std.specs.List.{AllByRecursion}
use Rattle.envelope.specs.Letters.{amount_offered}
use Rattle.envelope.proofs.Laws.{amount_in_le}
use Rattle.room.specs.Sales.{Bytes, Sale, Lodging, StandingAmount, is_registered}
use Rattle.room.specs.Page.{page}
use Rattle.room.specs.declared.sheet.SheetEntry.{SheetEntry}
use Rattle.room.proofs.Law.{Kept, amount_for, sheet_by, page_for}
use Rattle.room.proofs.Holding.{Held, Holds, amount_of_held, amount_one}
use Rattle.room.proofs.Pages.{Written, same_sheets, found, SheetFrom, same_found, sheet_rises, sheet_written, sheet_finds, RisesFrom}

-- Amounts have 64 bits.
amount_small : (t : Bytes) → amount_offered t < 2 ^ 64
amount_small t = let l = amount_in_le t in omega arith

amount_bound : (s : Sale) (b : ℕ) (o : Option Bytes) → amount_for s b o < 2 ^ 64
amount_bound s b None = omega arith
amount_bound s b (Some e) = go _ _ (amount_small _)
  where
    go : (t : Bool) (n : ℕ) → n < 2 ^ 64 → cond t n 0 < 2 ^ 64
    go true n h = h
    go false n h = omega arith

-- What a lawful making leaves behind.
pub record Lawful (s : Sale) : Type 0 where
  pub lot : s.lot < 2 ^ 32
  pub bidders : AllByRecursion (λ x. x.bidder < 2 ^ 32) s.register
  pub rising : RisesFrom 0 s.register

-- Where ls were lodged in a sale, `kept` is kept, and p is its page.
pub record Left (s : Sale) (ls : List Lodging) (p : Bytes) : Type 0 where
  pub kept : Kept
  pub is : p ≡ page_for s kept
  pub holds : Holds s ls kept

module _ (s : Sale) where
  amount_known : (es : List Lodging) (b : ℕ) (o : Option Bytes) → Held s es b o → 0 < amount_for s b o → is_registered s.register b ≡ true
  amount_known es b None h l = absurd (omega arith)
  amount_known es b (Some e) (x, h, is) l = subst (λ b. is_registered s.register b ≡ true) h.of h.genuine.known

  module _ (es : List Lodging) (p : Bytes) (l : Left s es p) where
    abbrev pub amounts : ℕ → ℕ
    amounts b = amount_for s b (l.kept b)

    amount_is : (b : ℕ) → StandingAmount s es b (amounts b)
    amount_is b = amount_of_held s es b (l.kept b) (l.holds b)

    pub amount_only : (b n : ℕ) → StandingAmount s es b n → n ≡ amounts b
    amount_only b n a = amount_one s es b n (amounts b) a (amount_is b)

    sheet : List SheetEntry
    sheet = sheet_by amounts s.register

    module _ (w : Lawful s) where
      sheet_found : (b : ℕ) → found sheet b ≡ amounts b
      unfolding sheet
      sheet_found b = sheet_finds amounts 0 b s.register w.rising (amount_known es b (l.kept b) (l.holds b))

      sheet_up : SheetFrom 0 sheet
      unfolding sheet
      sheet_up = sheet_rises amounts 0 s.register w.rising

      sheet_small : AllByRecursion Written sheet
      unfolding sheet
      sheet_small = sheet_written amounts s.register w.bidders (λ b. amount_bound s b (l.kept b))

    page_of_sheet : p ≡ page s.lot sheet
    unfolding sheet
    page_of_sheet = l.is

module _ (s t : Sale) (ws : Lawful s) (wt : Lawful t) (lot : s.lot ≡ t.lot) (es fs : List Lodging) (p q : Bytes) (l : Left s es p) (m : Left t fs q) where
  pages_to_amounts : p ≡ q → (b : ℕ) → amounts s es p l b ≡ amounts t fs q m b
  pages_to_amounts e b =
      let same : page s.lot (sheet s es p l) ≡ page s.lot (sheet t fs q m) = sym (page_of_sheet s es p l) ∙ e ∙ page_of_sheet t fs q m ∙ ap (λ n. page n (sheet t fs q m)) (sym lot) in
      let r = (same_sheets s.lot _ _ [] [] tt tt (omega (arith, ws.lot)) (sheet_small s es p l ws) (sheet_small t fs q m wt) (ap (λ z. z ++ []) same)).0 in
      sym (sheet_found s es p l ws b) ∙ ap (λ r. found r b) r ∙ sheet_found t fs q m wt b

  amounts_to_pages : ((b : ℕ) → amounts s es p l b ≡ amounts t fs q m b) → p ≡ q
  amounts_to_pages e =
      let r = same_found 0 _ _ (sheet_up s es p l ws) (sheet_up t fs q m wt) (λ b. sheet_found s es p l ws b ∙ e b ∙ sym (sheet_found t fs q m wt b)) in
      page_of_sheet s es p l ∙ ap₂ page lot r ∙ sym (page_of_sheet t fs q m)

  pub pages_tell : (p ≡ q) ↔ ((b n : ℕ) → StandingAmount s es b n ↔ StandingAmount t fs b n)
  pages_tell = (
    λ e b n.
        let eq = pages_to_amounts e b in (
          λ a. subst (StandingAmount t fs b) (sym (amount_only s es p l b n a ∙ eq)) (amount_is t fs q m b),
          λ a. subst (StandingAmount s es b) (sym (amount_only t fs q m b n a ∙ sym eq)) (amount_is s es p l b),
        ),
    λ h. amounts_to_pages (λ b. amount_only t fs q m b _ ((h b _).0 (amount_is s es p l b))),
  )
