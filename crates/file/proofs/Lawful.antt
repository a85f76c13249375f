-- The sale of an accepted file: its terms and its register keep to their limits, and its bidders rise.
use Rattle.std.proofs.Common.{◌≡◌, ℕ, ◌+◌, ◌<◌, ◌≤◌, Bool, true, false, cond, ◌&&◌, ltb, leb, List, [], length, Some, None, Ok, Err, codes, Option, Result, Ordering, refl, ap, subst, arith}
use Rattle.std.specs.Str.{bytes_eq}
use Rattle.engine.specs.declared.variants.Variant.{Variant}
use Rattle.std.proofs.lemmas.Bool.{ltb-true, leb-true, cond_both}
use Rattle.list.specs.Insertion.{has_equal, list_with}
use Rattle.list.specs.Order.{Rising, by_key, by_key_is_total}
use Rattle.list.specs.declared.faults.ListFault.{ListFault}
use Rattle.list.specs.declared.faults.ListFault.TheVariants.{EqualEntry, Full}
use Rattle.list.proofs.Laws.{length_inserted, rising_inserted, rising_empty}
use Rattle.room.specs.declared.register.RegisterEntry.{RegisterEntry}
use Rattle.room.specs.Sales.{Bytes, Sale}
use Rattle.file.specs.Contents.{Refusal, with_lot, with_register, and_then, enrolment, sale_of_items, sale_or_fault, items_in, sale_in, unknown_sale}
use Rattle.file.specs.Fields.{holds_comma, field, behind}
use Rattle.file.specs.Form.{Items, end, broken, item, lot_item, bidder_item, envelope_item, items_from, Verdict, refused, passed, said, line_must_say, lot_values, variant_of, bidder_values, is_key, verdict_on, after_verdict, at_the_end}
use Rattle.file.specs.Numbers.{number_of}
use Rattle.file.specs.steps.Sale.{IsUnbroken}
use Rattle.file.specs.Theorems.{AcceptedFilesKeepLimits}
use Rattle.file.specs.Hexadecimal.{written_bytes}
use Rattle.file.specs.Lines.{most_bytes, Lines, finished, torn, line, lines_in}
use Rattle.file.specs.declared.faults.FileFault.TheVariants.{TooLong, Form, TermsLength}
use Rattle.file.specs.declared.line.Section.{Section}
use Rattle.file.specs.declared.line.Section.TheVariants.{LotNames, LotValues, LotEnd, BidderNames, FirstBidder, Bidders, EnvelopeNames, Envelopes}
use Rattle.file.proofs.Sound.{AllWellFormed, items_well_formed}

abbrev order : RegisterEntry → RegisterEntry → Ordering
order = by_key (λ x. x.bidder)

-- what is kept from line to line
record Within (s : Sale) : Type 0 where
  terms : length s.terms ≤ 64
  few : length s.register ≤ 64
  rising : Rising order s.register

record Enrolls (e : RegisterEntry) (xs ys : List RegisterEntry) : Type 0 where
  more : length xs < length ys
  few : length ys ≤ 64
  rising : Rising order xs → Rising order ys

enrolls_by : (e : RegisterEntry) (xs ys : List RegisterEntry) (h t : Bool) → has_equal order e xs ≡ h → ltb (length xs) 64 ≡ t
    → cond h (Err EqualEntry) (cond t (Ok (list_with order e xs)) (Err Full)) ≡ Ok ys → Enrolls e xs ys
enrolls_by e xs ys true t p q r = absurd (let z : ◌≡◌ {A = ℕ} 0 1 = cc in omega arith)
enrolls_by e xs ys false false p q r = absurd (let z : ◌≡◌ {A = ℕ} 0 1 = cc in omega arith)
enrolls_by e xs ys false true p q r =
    let i : list_with order e xs ≡ ys = cc in
    let l = ltb-true (length xs) 64 q in
    record {
      more = omega (arith, length_inserted order e xs, ap length i);
      few = omega (arith, length_inserted order e xs, ap length i);
      rising = λ h. subst (Rising order) i (rising_inserted order (by_key_is_total (λ x. x.bidder)) e xs h p);
    }

enrolls : (e : RegisterEntry) (xs ys : List RegisterEntry) → enrolment e xs ≡ Ok ys → Enrolls e xs ys
enrolls e xs ys r = enrolls_by e xs ys (has_equal order e xs) (ltb (length xs) 64) refl refl r

keeps_on : (n : ℕ) (s : Sale) (R : Result (List RegisterEntry) ListFault) (go_on : List RegisterEntry → Result Sale Refusal) (t : Sale) (P : Type 0)
    → ((ys : List RegisterEntry) → R ≡ Ok ys → go_on ys ≡ Ok t → P) → and_then n s R go_on ≡ Ok t → P
keeps_on n s (Ok ys) go_on t P k e = k ys refl e
keeps_on n s (Err f) go_on t P k e = absurd (let z : ◌≡◌ {A = ℕ} 0 1 = cc in omega arith)

gathered_keeps : (is : Items) (s t : Sale) → AllWellFormed is → Within s → sale_of_items s is ≡ Ok t → Within t
unfolding sale_of_items
gathered_keeps end s t w k e = let q : s ≡ t = cc in subst Within q k
gathered_keeps (broken f) s t w k e = absurd (let z : ◌≡◌ {A = ℕ} 0 1 = cc in omega arith)
gathered_keeps (item (lot_item lot v terms) is) s t w k e =
    gathered_keeps is (with_lot lot v terms s) t w.1 (record { terms = leb-true (length terms) 64 w.0; few = k.few; rising = k.rising }) e
gathered_keeps (item (bidder_item n b key) is) s t w k e =
    keeps_on n s (enrolment (record { bidder = b; key = written_bytes key }) s.register) (λ register. sale_of_items (with_register register s) is) t (Within t)
    (λ ys r g. let h = enrolls (record { bidder = b; key = written_bytes key }) s.register ys r in
    gathered_keeps is (with_register ys s) t w.1 (record { terms = k.terms; few = h.few; rising = h.rising k.rising }) g) e
gathered_keeps (item (envelope_item n d) is) s t w k e = gathered_keeps is s t w.1 k e

grows : (is : Items) (s t : Sale) → sale_of_items s is ≡ Ok t → length s.register ≤ length t.register
unfolding sale_of_items
grows end s t e = let q : s ≡ t = cc in omega (arith, ap (λ x. length x.register) q)
grows (broken f) s t e = absurd (let z : ◌≡◌ {A = ℕ} 0 1 = cc in omega arith)
grows (item (lot_item lot v terms) is) s t e = grows is (with_lot lot v terms s) t e
grows (item (bidder_item n b key) is) s t e =
    keeps_on n s (enrolment (record { bidder = b; key = written_bytes key }) s.register) (λ register. sale_of_items (with_register register s) is) t (length s.register ≤ length t.register)
    (λ ys r g. let h = enrolls (record { bidder = b; key = written_bytes key }) s.register ys r in let u = grows is (with_register ys s) t g in omega (arith, h.more)) e
grows (item (envelope_item n d) is) s t e = grows is s t e

-- the sections before the first bidder
abbrev Early : Section → Type 0
Early LotNames = Unit {0}
Early LotValues = Unit {0}
Early LotEnd = Unit {0}
Early BidderNames = Unit {0}
Early FirstBidder = Unit {0}
Early Bidders = ⊥
Early EnvelopeNames = ⊥
Early Envelopes = ⊥

-- a line before the first bidder is refused, or leads to another such line, or is the first bidder
abbrev Leads : Verdict → Type 0
Leads (refused f) = Unit {0}
Leads (passed next) = Early next
Leads (said (lot_item lot v terms) next) = Early next
Leads (said (bidder_item n b key) next) = Unit {0}
Leads (said (envelope_item n d) next) = ⊥

leads_lot : (n : ℕ) (t : Bool) (o : Option ℕ) (v : Option Variant) (terms : List ℕ) → Leads (line_must_say (lot_values n t o v terms) LotEnd)
leads_lot n true (Some lot) (Some v) terms =
    cond_both (leb (length terms) 64) (Ok (lot_item lot v terms)) (Err (TermsLength n)) (λ r. Leads (line_must_say r LotEnd)) (λ e. tt) (λ e. tt)
leads_lot n true (Some lot) None terms = tt
leads_lot n true None v terms = tt
leads_lot n false o v terms = tt

leads_bidder : (n : ℕ) (t : Bool) (o : Option ℕ) (key : List ℕ) → Leads (line_must_say (bidder_values n t o key) Bidders)
leads_bidder n true (Some b) key = cond_both (is_key key) (Ok (bidder_item n b key)) (Err (Form n)) (λ r. Leads (line_must_say r Bidders)) (λ e. tt) (λ e. tt)
leads_bidder n true None key = tt
leads_bidder n false o key = tt

verdict_leads : (s : Section) (n : ℕ) (l : List ℕ) → Early s → Leads (verdict_on s n l)
verdict_leads LotNames n l h = cond_both (bytes_eq l (codes "lot,variant,terms")) (passed LotValues) (refused (Form n)) Leads (λ e. tt) (λ e. tt)
verdict_leads LotValues n l h = leads_lot n (holds_comma l && holds_comma (behind l)) (number_of (field l)) (variant_of (field (behind l))) (behind (behind l))
verdict_leads LotEnd n l h = cond_both (bytes_eq l []) (passed BidderNames) (refused (Form n)) Leads (λ e. tt) (λ e. tt)
verdict_leads BidderNames n l h = cond_both (bytes_eq l (codes "bidder,key")) (passed FirstBidder) (refused (Form n)) Leads (λ e. tt) (λ e. tt)
verdict_leads FirstBidder n l h = leads_bidder n (holds_comma l) (number_of (field l)) (behind l)
verdict_leads Bidders n l h = absurd h
verdict_leads EnvelopeNames n l h = absurd h
verdict_leads Envelopes n l h = absurd h

after_leads : (v : Verdict) (go_on : Section → Items) (s t : Sale) → Leads v
    → ((next : Section) (u : Sale) → Early next → sale_of_items u (go_on next) ≡ Ok t → 1 ≤ length t.register) → sale_of_items s (after_verdict v go_on) ≡ Ok t → 1 ≤ length t.register
unfolding sale_of_items
after_leads (refused f) go_on s t h ih e = absurd (let z : ◌≡◌ {A = ℕ} 0 1 = cc in omega arith)
after_leads (passed next) go_on s t h ih e = ih next s h e
after_leads (said (lot_item lot v terms) next) go_on s t h ih e = ih next (with_lot lot v terms s) h e
after_leads (said (bidder_item n b key) next) go_on s t h ih e =
    keeps_on n s (enrolment (record { bidder = b; key = written_bytes key }) s.register) (λ register. sale_of_items (with_register register s) (go_on next)) t (1 ≤ length t.register)
    (λ ys r g. let h = enrolls (record { bidder = b; key = written_bytes key }) s.register ys r in let u = grows (go_on next) (with_register ys s) t g in omega (arith, h.more)) e
after_leads (said (envelope_item n d) next) go_on s t h ih e = absurd h

end_early : (sec : Section) (n : ℕ) (s t : Sale) → Early sec → sale_of_items s (at_the_end sec n) ≡ Ok t → ⊥
unfolding sale_of_items
end_early LotNames n s t h e = let z : ◌≡◌ {A = ℕ} 0 1 = cc in omega arith
end_early LotValues n s t h e = let z : ◌≡◌ {A = ℕ} 0 1 = cc in omega arith
end_early LotEnd n s t h e = let z : ◌≡◌ {A = ℕ} 0 1 = cc in omega arith
end_early BidderNames n s t h e = let z : ◌≡◌ {A = ℕ} 0 1 = cc in omega arith
end_early FirstBidder n s t h e = let z : ◌≡◌ {A = ℕ} 0 1 = cc in omega arith
end_early Bidders n s t h e = h
end_early EnvelopeNames n s t h e = h
end_early Envelopes n s t h e = h

some_bidder : (ls : Lines) (sec : Section) (n : ℕ) (s t : Sale) → Early sec → sale_of_items s (items_from sec n ls) ≡ Ok t → 1 ≤ length t.register
unfolding sale_of_items items_from
some_bidder finished sec n s t h e = absurd (end_early sec n s t h e)
some_bidder torn sec n s t h e = absurd (let z : ◌≡◌ {A = ℕ} 0 1 = cc in omega arith)
some_bidder (line l ls) sec n s t h e =
    after_leads (verdict_on sec n l) (λ next. items_from next (n + 1) ls) s t (verdict_leads sec n l h) (λ next u k g. some_bidder ls next (n + 1) u t k g) e

-- an accepted file is gathered to its end
gathered_back : (r : Result Sale Refusal) (s : Sale) → sale_or_fault r ≡ Ok s → r ≡ Ok s
gathered_back (Ok t) s e = let q : t ≡ s = cc in ap Ok q
gathered_back (Err r) s e = absurd (let z : ◌≡◌ {A = ℕ} 0 1 = cc in omega arith)

pub accepted_gathers : (file : Bytes) (s : Sale) → sale_in file ≡ Ok s → sale_of_items unknown_sale (items_in file) ≡ Ok s
accepted_gathers file s e = gathered_back (sale_of_items unknown_sale (items_in file)) s e

-- so none of its lines is refused
gathered_unbroken : (is : Items) (s t : Sale) → sale_of_items s is ≡ Ok t → IsUnbroken is
unfolding sale_of_items
gathered_unbroken end s t e = tt
gathered_unbroken (broken f) s t e = absurd (let z : ◌≡◌ {A = ℕ} 0 1 = cc in omega arith)
gathered_unbroken (item (lot_item lot v terms) is) s t e = gathered_unbroken is (with_lot lot v terms s) t e
gathered_unbroken (item (bidder_item n b key) is) s t e =
    keeps_on n s (enrolment (record { bidder = b; key = written_bytes key }) s.register)
    (λ register. sale_of_items (with_register register s) is) t (IsUnbroken is)
    (λ ys r g. gathered_unbroken is (with_register ys s) t g) e
gathered_unbroken (item (envelope_item n d) is) s t e = gathered_unbroken is s t e

pub accepted_unbroken : (file : Bytes) (s : Sale) → sale_in file ≡ Ok s → IsUnbroken (items_in file)
accepted_unbroken file s e = gathered_unbroken (items_in file) unknown_sale s (accepted_gathers file s e)

said_some : (file : Bytes) (s : Sale) → sale_of_items unknown_sale (items_in file) ≡ Ok s → 1 ≤ length s.register
unfolding sale_of_items
said_some file s =
    cond_both (ltb most_bytes (length file)) (broken TooLong) (items_from LotNames 1 (lines_in file)) (λ is. sale_of_items unknown_sale is ≡ Ok s → 1 ≤ length s.register)
    (λ p e. absurd (let z : ◌≡◌ {A = ℕ} 0 1 = cc in omega arith)) (λ p e. some_bidder (lines_in file) LotNames 1 unknown_sale s tt e)

said_well_formed : (file : Bytes) → AllWellFormed (items_in file)
said_well_formed file = cond_both (ltb most_bytes (length file)) (broken TooLong) (items_from LotNames 1 (lines_in file)) AllWellFormed (λ e. tt) (λ e. items_well_formed LotNames 1 (lines_in file))

-- the sale of a file that is accepted
pub accepted_keeps_limits : AcceptedFilesKeepLimits
accepted_keeps_limits file s e =
    let g = accepted_gathers file s e in
    let w = gathered_keeps (items_in file) unknown_sale s (said_well_formed file) (record { terms = omega arith; few = omega arith; rising = rising_empty order }) g in
    record { terms = w.terms; some = said_some file s g; few = w.few; rising = w.rising }
