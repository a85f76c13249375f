-- A text of whose lines a sale is gathered is that of particulars.
use Rattle.std.proofs.Common.{◌≡◌, ℕ, ◌+◌, ◌<◌, ◌≤◌, Bool, true, false, cond, List, [], ◌∷◌, ◌++◌, map, length, Ok, Err, codes, Result, Ordering, sym, refl, ap, ◌∙◌, subst, arith}
use Rattle.std.specs.Str.{bytes_eq}
use Rattle.std.specs.List.{AllByRecursion}
use Rattle.std.proofs.lemmas.Slice.Eq.{bytes_eq-Decides}
use Rattle.engine.specs.declared.variants.Variant.{Variant}
use Rattle.list.specs.Insertion.{has_equal, list_with}
use Rattle.list.specs.Order.{by_key}
use Rattle.list.specs.declared.faults.ListFault.{ListFault}
use Rattle.room.specs.Sales.{Bytes, Sale}
use Rattle.room.specs.declared.register.RegisterEntry.{RegisterEntry}
use Rattle.file.specs.Contents.{Refusal, with_lot, with_register, and_then, enrolment, sale_of_items, unknown_sale}
use Rattle.file.specs.Form.{Item, Items, broken, item, lot_item, bidder_item, envelope_item, passed, refused, line_must_be, line_must_say, bidder_line_item, envelope_line_item, lot_line_item, verdict_on, after_verdict, at_the_end, items_from}
use Rattle.file.specs.Format.{Particulars, LawfulParticulars, LawfulBidder, LawfulEnvelope, hexadecimal, lot_line, bidder_line, lines_below, lines_of}
use Rattle.file.specs.Lines.{Lines, finished, torn, line}
use Rattle.file.specs.declared.faults.FileFault.{FileFault}
use Rattle.file.specs.declared.faults.FileFault.TheVariants.{Form}
use Rattle.file.specs.declared.line.Section.{Section}
use Rattle.file.specs.declared.line.Section.TheVariants.{LotNames, LotValues, LotEnd, BidderNames, FirstBidder, Bidders, EnvelopeNames, Envelopes}
use Rattle.file.proofs.Enrolments.{Enrollable, enrolled_back, few_distinct}
use Rattle.file.proofs.FormatItems.{bidder_back}
use Rattle.file.proofs.LineTexts.{lot_written, bidder_written, envelope_written, terms_clean}
use Rattle.file.proofs.Texts.{lines_as, NoTens}

abbrev order : RegisterEntry → RegisterEntry → Ordering
order = by_key (λ x. x.bidder)

-- nothing is gathered of a line that is refused
refused_gathers : (s t : Sale) (f : FileFault) → sale_of_items s (broken f) ≡ Ok t → ⊥
unfolding sale_of_items
refused_gathers s t f e = let z : ◌≡◌ {A = ℕ} 0 1 = cc in omega arith

-- a line that must have one text, and one that must say something
text_by : (text : Bytes) (next : Section) (n : ℕ) (l : Bytes) (go_on : Section → Items) (s t : Sale) (b : Bool) → bytes_eq l text ≡ b
    → sale_of_items s (after_verdict (cond b (passed next) (refused (Form n))) go_on) ≡ Ok t → (l ≡ text) × (sale_of_items s (go_on next) ≡ Ok t)
text_by text next n l go_on s t true h e = ((bytes_eq-Decides l text).0 h, e)
text_by text next n l go_on s t false h e = absurd (refused_gathers s t (Form n) e)

text_read : (text : Bytes) (next : Section) (n : ℕ) (l : Bytes) (go_on : Section → Items) (s t : Sale)
    → sale_of_items s (after_verdict (line_must_be text next n l) go_on) ≡ Ok t → (l ≡ text) × (sale_of_items s (go_on next) ≡ Ok t)
text_read text next n l go_on s t e = text_by text next n l go_on s t (bytes_eq l text) refl e

say_read : (r : Result Item FileFault) (next : Section) (go_on : Section → Items) (s t : Sale)
    → sale_of_items s (after_verdict (line_must_say r next) go_on) ≡ Ok t → (i : Item) × (r ≡ Ok i) × (sale_of_items s (item i (go_on next)) ≡ Ok t)
say_read (Ok i) next go_on s t e = (i, refl, e)
say_read (Err f) next go_on s t e = absurd (refused_gathers s t f e)

-- what is gathered behind each item
lot_gathers : (lot : ℕ) (v : Variant) (terms : Bytes) (i : Item) (is : Items) (s t : Sale) → i ≡ lot_item lot v terms
    → sale_of_items s (item i is) ≡ Ok t → sale_of_items (with_lot lot v terms s) is ≡ Ok t
unfolding sale_of_items
lot_gathers lot v terms i is s t e g = sym (ap (λ j. sale_of_items s (item j is)) e) ∙ g

envelope_gathers : (n : ℕ) (ds : Bytes) (i : Item) (is : Items) (s t : Sale) → i ≡ envelope_item n ds
    → sale_of_items s (item i is) ≡ Ok t → sale_of_items s is ≡ Ok t
unfolding sale_of_items
envelope_gathers n ds i is s t e g = sym (ap (λ j. sale_of_items s (item j is)) e) ∙ g

and_then_back : (n : ℕ) (s : Sale) (r : Result (List RegisterEntry) ListFault) (go_on : List RegisterEntry → Result Sale Refusal) (t : Sale)
    → and_then n s r go_on ≡ Ok t → (ys : List RegisterEntry) × (r ≡ Ok ys) × (go_on ys ≡ Ok t)
and_then_back n s (Ok ys) go_on t e = (ys, refl, e)
and_then_back n s (Err f) go_on t e = absurd (let z : ◌≡◌ {A = ℕ} 0 1 = cc in omega arith)

bidder_gathers : (n : ℕ) (b : RegisterEntry) (i : Item) (is : Items) (s t : Sale) → LawfulBidder b
    → i ≡ bidder_item n b.bidder (hexadecimal b.key)
    → sale_of_items s (item i is) ≡ Ok t
    → (has_equal order b s.register ≡ false) × (length s.register < 64) × (sale_of_items (with_register (list_with order b s.register) s) is ≡ Ok t)
unfolding sale_of_items
bidder_gathers n b i is s t h e g =
    let go_on : List RegisterEntry → Result Sale Refusal = λ register. sale_of_items (with_register register s) is in
    let k = and_then_back n s _ go_on t (sym (ap (λ j. sale_of_items s (item j is)) e) ∙ g) in
    let r = enrolled_back b s.register k.0 (sym (ap (λ x. enrolment x s.register) (bidder_back b h)) ∙ k.1) in
    (r.0, r.1, ap go_on r.2 ∙ k.2)

-- where a file may not end there is one more line
abbrev Unfinished : Section → Type 0
Unfinished LotNames = Unit {0}
Unfinished LotValues = Unit {0}
Unfinished LotEnd = Unit {0}
Unfinished BidderNames = Unit {0}
Unfinished FirstBidder = Unit {0}
Unfinished Bidders = Unit {0}
Unfinished EnvelopeNames = Unit {0}
Unfinished Envelopes = ⊥

unfinished_is_broken : (sec : Section) (n : ℕ) → Unfinished sec → at_the_end sec n ≡ broken (Form n)
unfinished_is_broken LotNames n u = refl
unfinished_is_broken LotValues n u = refl
unfinished_is_broken LotEnd n u = refl
unfinished_is_broken BidderNames n u = refl
unfinished_is_broken FirstBidder n u = refl
unfinished_is_broken Bidders n u = refl
unfinished_is_broken EnvelopeNames n u = refl
unfinished_is_broken Envelopes n u = absurd u

record OneMore (sec : Section) (n : ℕ) (ls : Lines) (s t : Sale) : Type 0 where
  first : Bytes
  rest : Lines
  are : ls ≡ line first rest
  gathers : sale_of_items s (after_verdict (verdict_on sec n first) (λ next. items_from next (n + 1) rest)) ≡ Ok t

one_more : (sec : Section) (n : ℕ) (ls : Lines) (s t : Sale) → Unfinished sec → sale_of_items s (items_from sec n ls) ≡ Ok t → OneMore sec n ls s t
unfolding items_from
one_more sec n finished s t u e = absurd (refused_gathers s t (Form n) (sym (ap (sale_of_items s) (unfinished_is_broken sec n u)) ∙ e))
one_more sec n torn s t u e = absurd (refused_gathers s t (Form n) e)
one_more sec n (line l ls) s t u e = record { first = l; rest = ls; are = refl; gathers = e }

-- the envelopes
record EnvelopesRead (above : List Bytes) (ls : Lines) : Type 0 where
  envelopes : List Bytes
  are : ls ≡ lines_as (above ++ map hexadecimal envelopes)
  lawful : AllByRecursion LawfulEnvelope envelopes

read_envelopes : (ls : Lines) (n : ℕ) (s t : Sale) → sale_of_items s (items_from Envelopes n ls) ≡ Ok t → EnvelopesRead [] ls
unfolding items_from
read_envelopes finished n s t e = record { envelopes = []; are = refl; lawful = tt }
read_envelopes torn n s t e = absurd (refused_gathers s t (Form n) e)
read_envelopes (line l ls) n s t e =
    let w = say_read (envelope_line_item n l) Envelopes (λ next. items_from next (n + 1) ls) s t e in
    let r = envelope_written n l w.0 w.1 in
    let k = read_envelopes ls (n + 1) s t (envelope_gathers n (hexadecimal r.envelope) w.0 (items_from Envelopes (n + 1) ls) s t r.says w.2) in
    record {
      envelopes = r.envelope ∷ k.envelopes;
      are = ap (λ z. line z ls) r.is ∙ ap (line (hexadecimal r.envelope)) k.are;
      lawful = (r.lawful, k.lawful);
    }

read_names : (ls : Lines) (n : ℕ) (s t : Sale) → sale_of_items s (items_from EnvelopeNames n ls) ≡ Ok t → EnvelopesRead (codes "envelope" ∷ []) ls
read_names ls n s t e =
    let m = one_more EnvelopeNames n ls s t tt e in
    let w = text_read (codes "envelope") Envelopes n m.first (λ next. items_from next (n + 1) m.rest) s t m.gathers in
    let k = read_envelopes m.rest (n + 1) s t w.1 in
    record { envelopes = k.envelopes; are = m.are ∙ ap (λ z. line z m.rest) w.0 ∙ ap (line (codes "envelope")) k.are; lawful = k.lawful }

-- the bidders, and the envelopes below them
record BiddersRead (xs : List RegisterEntry) (ls : Lines) : Type 0 where
  bidders : List RegisterEntry
  envelopes : List Bytes
  are : ls ≡ lines_as (lines_below bidders envelopes)
  enrollable : Enrollable xs bidders
  lawful : AllByRecursion LawfulBidder bidders
  lawful_envelopes : AllByRecursion LawfulEnvelope envelopes

Rest : Lines → ℕ → Sale → Type 0
Rest ls n t = (s : Sale) → sale_of_items s (items_from Bidders n ls) ≡ Ok t → BiddersRead s.register ls

bidder_more : (l : Bytes) (ls : Lines) (n : ℕ) (s t : Sale) → Rest ls (n + 1) t
    → sale_of_items s (after_verdict (line_must_say (bidder_line_item n l) Bidders) (λ next. items_from next (n + 1) ls)) ≡ Ok t
    → (r : BiddersRead s.register (line l ls)) × (1 ≤ length r.bidders)
unfolding Rest
bidder_more l ls n s t more e =
    let w = say_read (bidder_line_item n l) Bidders (λ next. items_from next (n + 1) ls) s t e in
    let b = bidder_written n l w.0 w.1 in
    let g = bidder_gathers n b.entry w.0 (items_from Bidders (n + 1) ls) s t b.lawful b.says w.2 in
    let k = more (with_register (list_with order b.entry s.register) s) g.2 in (
      record {
        bidders = b.entry ∷ k.bidders;
        envelopes = k.envelopes;
        are = ap (λ z. line z ls) b.is ∙ ap (line (bidder_line b.entry)) k.are;
        enrollable = (g.0, g.1, k.enrollable);
        lawful = (b.lawful, k.lawful);
        lawful_envelopes = k.lawful_envelopes;
      },
      omega arith,
    )

bidders_by : (l : Bytes) (ls : Lines) (n : ℕ) (s t : Sale) (b : Bool) → bytes_eq l [] ≡ b → Rest ls (n + 1) t
    → sale_of_items s (after_verdict (cond b (passed EnvelopeNames) (line_must_say (bidder_line_item n l) Bidders)) (λ next. items_from next (n + 1) ls)) ≡ Ok t
    → BiddersRead s.register (line l ls)
bidders_by l ls n s t true h more e =
    let k = read_names ls (n + 1) s t e in
    record {
      bidders = [];
      envelopes = k.envelopes;
      are = ap (λ z. line z ls) ((bytes_eq-Decides l []).0 h) ∙ ap (line []) k.are;
      enrollable = tt;
      lawful = tt;
      lawful_envelopes = k.lawful;
    }
bidders_by l ls n s t false h more e = (bidder_more l ls n s t more e).0

read_bidders : (ls : Lines) (n : ℕ) (t s : Sale) → sale_of_items s (items_from Bidders n ls) ≡ Ok t → BiddersRead s.register ls
unfolding items_from Rest
read_bidders finished n t s e = absurd (refused_gathers s t (Form n) e)
read_bidders torn n t s e = absurd (refused_gathers s t (Form n) e)
read_bidders (line l ls) n t s e = bidders_by l ls n s t (bytes_eq l []) refl (read_bidders ls (n + 1) t) e

read_first : (ls : Lines) (n : ℕ) (s t : Sale) → sale_of_items s (items_from FirstBidder n ls) ≡ Ok t
    → (r : BiddersRead s.register ls) × (1 ≤ length r.bidders)
unfolding items_from Rest
read_first finished n s t e = absurd (refused_gathers s t (Form n) e)
read_first torn n s t e = absurd (refused_gathers s t (Form n) e)
read_first (line l ls) n s t e = bidder_more l ls n s t (read_bidders ls (n + 1) t) e

-- the whole
pub record Read (ls : Lines) : Type 0 where
  pub particulars : Particulars
  pub lawful : LawfulParticulars particulars
  pub are : ls ≡ lines_as (lines_of particulars)

pub read_all : (ls : Lines) (t : Sale) → NoTens ls → sale_of_items unknown_sale (items_from LotNames 1 ls) ≡ Ok t → Read ls
read_all ls t clean e =
    let a = one_more LotNames 1 ls unknown_sale t tt e in
    let a₁ = text_read (codes "lot,variant,terms") LotValues 1 a.first (λ next. items_from next 2 a.rest) unknown_sale t a.gathers in
    let b = one_more LotValues 2 a.rest unknown_sale t tt a₁.1 in
    let b₁ = say_read (lot_line_item 2 b.first) LotEnd (λ next. items_from next 3 b.rest) unknown_sale t b.gathers in
    let lot = lot_written 2 b.first b₁.0 b₁.1 in
    let s = with_lot lot.lot lot.variant lot.terms unknown_sale in
    let c = one_more LotEnd 3 b.rest s t tt (lot_gathers lot.lot lot.variant lot.terms b₁.0 (items_from LotEnd 3 b.rest) unknown_sale t lot.says b₁.2) in
    let c₁ = text_read [] BidderNames 3 c.first (λ next. items_from next 4 c.rest) s t c.gathers in
    let d = one_more BidderNames 4 c.rest s t tt c₁.1 in
    let d₁ = text_read (codes "bidder,key") FirstBidder 4 d.first (λ next. items_from next 5 d.rest) s t d.gathers in
    let f = read_first d.rest 5 s t d₁.1 in
    let r = f.0 in
    let p : Particulars = record { lot = lot.lot; variant = lot.variant; terms = lot.terms; bidders = r.bidders; envelopes = r.envelopes } in
    let below : c.rest ≡ lines_as (codes "bidder,key" ∷ lines_below r.bidders r.envelopes) = d.are ∙ ap (λ z. line z d.rest) d₁.0
    ∙ ap (line (codes "bidder,key")) r.are in
    let lot_is = lot_line lot.lot lot.variant lot.terms in
    let values : a.rest ≡ lines_as (lot_is ∷ [] ∷ codes "bidder,key" ∷ lines_below r.bidders r.envelopes) =
    b.are ∙ ap (λ z. line z b.rest) lot.is ∙ ap (line lot_is) (c.are ∙ ap (λ z. line z c.rest) c₁.0 ∙ ap (line []) below) in
    let are : ls ≡ lines_as (lines_of p) = a.are ∙ ap (λ z. line z a.rest) a₁.0 ∙ ap (line (codes "lot,variant,terms")) values in
    let k = few_distinct r.bidders r.enrollable in
    record {
      particulars = p;
      lawful = record {
        lot = lot.small;
        short = lot.short;
        one_line = terms_clean lot.lot lot.variant lot.terms (subst NoTens are clean).1.0;
        some = f.1;
        few = k.0;
        different = k.1;
        bidders = r.lawful;
        envelopes = r.lawful_envelopes;
      };
      are = are;
    }
