-- The laws of pages, for the crates above: which page a closed room prints, and that order and repetition of lodgings do not matter to it.
use Rattle.std.proofs.Common.{◌≡◌, true, ◌&&◌, leb, ◌↔◌, List, [], ◌∷◌, ◌++◌, map, length, sym, refl, ap, ◌∙◌, subst, ap₂}
use mathlib.Core.Path.{fun_ext}
use Rattle.std.proofs.lemmas.Bool.{and_parts}
use Rattle.room.specs.Limits.{most_bidders}
use Rattle.room.specs.Sales.{Bytes, Sale, Lodging, Among, OneToAHead}
use Rattle.room.specs.Rooms.{Contents, sale_of, kept_for, contents_of}
use Rattle.room.specs.Calls.{Call, LodgingOf, Closing, room_after, page_of_room}
use Rattle.room.specs.Making.{rises_from, is_lawful_register, new_room}
use Rattle.room.specs.Runs.{none, lodgings_before_closing, History, IsClosed, Prints}
use Rattle.room.proofs.Law.{Kept, Taking, kept_in, nothing, verdict, kept_after, page_for, after, meetings}
use Rattle.room.proofs.Order.{same_held}
use Rattle.room.proofs.Holding.{Holds, keeps}
use Rattle.room.proofs.Chains.{stage_of, kept_in-stage_at, page_is, same_after}
use Rattle.room.proofs.Amounts.{Left}
use Rattle.room.proofs.Pages.{RisesFrom, rises}
use Rattle.room.proofs.Histories.{after_all, entries_back, nothing_kept, its_page, some_page, only_page, later_page}

-- A closed room prints the page of what it holds, and no other.
pub prints_exactly : (x : History) → IsClosed x → (p : Bytes) → Prints x p ↔ (p ≡ page_of_room (contents_of x.sale.variant x.room))
prints_exactly x c p =
    let is : its_page x c ≡ page_of_room (contents_of x.sale.variant x.room) = sym (later_page x c [] x.room none) in
    (λ h. only_page x c p h ∙ is, λ e. subst (Prints x) (is ∙ sym e) (some_page x c))

-- Calls keep the sale of a room, and its stage follows the rules.
after_all_sale : (r : Contents) (cs : List Call) → sale_of (after_all r cs) ≡ sale_of r
after_all_sale r [] = refl
after_all_sale r (c ∷ cs) = after_all_sale (room_after r c) cs ∙ (same_after r.variant r.lot r.terms r.holdings r.phase c).1

after_all_stage : (r : Contents) (cs : List Call) → stage_of (after_all r cs) ≡ after (sale_of r) (stage_of r) cs
after_all_stage r [] = refl
after_all_stage r (c ∷ cs) =
    let step = same_after r.variant r.lot r.terms r.holdings r.phase c in
    after_all_stage (room_after r c) cs ∙ ap₂ (λ s x. after s x cs) step.1 step.0

-- A room just made is that of its sale, and has taken nothing.
new_room_sale : (s : Sale) → sale_of (new_room s) ≡ s
new_room_sale s = ap (λ r. record s { register = r }) (entries_back s.register)

new_room_stage : (s : Sale) → stage_of (new_room s) ≡ Taking nothing
new_room_stage s = ap Taking (fun_ext (nothing_kept s.register))

-- The calls of a sale: its lodgings, and then the closing.
abbrev pub calls_with : List Lodging → List Call
calls_with ls = map LodgingOf ls ++ (Closing ∷ [])

pub lodgings_back : (s : Sale) (k : Kept) (ls : List Lodging) → lodgings_before_closing (meetings s (Taking k) (calls_with ls)) ≡ ls
lodgings_back s k [] = refl
lodgings_back s k (l ∷ ls) = ap (λ xs. l ∷ xs) (lodgings_back s (kept_after (verdict s k l) k l.envelope) ls)

module _ (s : Sale) (lawful : is_lawful_register s.register ≡ true) where
  register_rises : RisesFrom 0 s.register
  register_rises =
      let some = and_parts (leb 1 (length s.register)) (leb (length s.register) most_bidders && rises_from 0 s.register) lawful in
      rises 0 s.register (and_parts (leb (length s.register) most_bidders) (rises_from 0 s.register) some.1).1

  -- The room that these calls leave, and what it keeps.
  abbrev last : List Lodging → Contents
  last ls = after_all (new_room s) (calls_with ls)

  abbrev kept_by : List Lodging → Kept
  kept_by ls = kept_in (after s (Taking nothing) (calls_with ls))

  left : (ls : List Lodging) → Left s ls (page_of_room (last ls))
  left ls =
      let sale : sale_of (last ls) ≡ s = after_all_sale (new_room s) (calls_with ls) ∙ new_room_sale s in
      let stage : stage_of (last ls) ≡ after s (Taking nothing) (calls_with ls) =
      after_all_stage (new_room s) (calls_with ls) ∙ ap₂ (λ s r. after s r (calls_with ls)) (new_room_sale s) (new_room_stage s) in
      let kept : kept_for (last ls).holdings ≡ kept_by ls = sym (kept_in-stage_at (last ls).phase _) ∙ ap kept_in stage in
      record {
        kept = kept_by ls;
        is = page_is (last ls) (subst (λ s. RisesFrom 0 s.register) (sym sale) register_rises) ∙ ap₂ page_for sale kept;
        holds = subst (λ ls'. Holds s ls' (kept_by ls)) (lodgings_back s nothing ls) (keeps s (calls_with ls));
      }

  -- Of a sale with a lawful register: the same lodgings, in whatever order and however often, leave the same page.
  pub page_of_same_lodgings : (ls ms : List Lodging) → ((l : Lodging) → Among ls l ↔ Among ms l) → OneToAHead s ls
      → page_of_room (after_all (new_room s) (calls_with ls)) ≡ page_of_room (after_all (new_room s) (calls_with ms))
  page_of_same_lodgings ls ms same one =
      let l = left ls in
      let m = left ms in
      l.is ∙ ap (page_for s) (fun_ext (λ b. same_held s ls ms same one b (l.kept b) (m.kept b) (l.holds b) (m.holds b))) ∙ sym m.is
