-- What the lines of written particulars say.
use Rattle.std.proofs.Common.{◌≡◌, ℕ, ◌+◌, ◌≤◌, Bool, false, cond, List, [], ◌∷◌, map, length, Ok, codes, Result, refl, ap, ◌∙◌, inl, inr, arith, rules}
use Rattle.std.specs.Str.{bytes_eq}
use Rattle.std.specs.List.{AllByRecursion}
use Rattle.std.proofs.lemmas.Bool.{cases_Bool}
use Rattle.std.proofs.lemmas.Slice.Eq.{bytes_eq-Decides}
use Rattle.list.specs.Insertion.{list_with}
use Rattle.list.specs.Order.{by_key}
use Rattle.room.specs.Sales.{Bytes, Sale}
use Rattle.room.specs.declared.register.RegisterEntry.{RegisterEntry}
use Rattle.file.specs.Contents.{Refusal, with_register, and_then, enrolment, sale_of_items, envelopes_in}
use Rattle.file.specs.Form.{Item, Items, end, item, lot_item, bidder_item, envelope_item, passed, line_must_say, bidder_line_item, after_verdict, items_from}
use Rattle.file.specs.Format.{Particulars, LawfulParticulars, LawfulBidder, LawfulEnvelope, hexadecimal, bidder_line, lines_below, lines_of, file_of}
use Rattle.file.specs.FormatLaws.{sent_from}
use Rattle.file.specs.Hexadecimal.{written_bytes}
use Rattle.file.specs.Lines.{lines_in}
use Rattle.file.specs.declared.faults.FileFault.{FileFault}
use Rattle.file.specs.declared.line.Section.{Section}
use Rattle.file.specs.declared.line.Section.TheVariants.{LotNames, LotEnd, FirstBidder, Bidders, EnvelopeNames, Envelopes}
use Rattle.file.proofs.Enrolments.{Enrollable, register_with, enrolled_granted}
use Rattle.file.proofs.HexTexts.{written_bytes-hexadecimal, without_hexadecimal}
use Rattle.file.proofs.LineTexts.{lot_read, bidder_read, envelope_read, lot_line_clean, bidder_line_clean, bidder_line_some, without_above}
use Rattle.file.proofs.Texts.{Without, lines_as, lines-text_of}

-- the lines, as items
abbrev pub envelope_items : ℕ → List Bytes → Items
envelope_items n [] = end
envelope_items n (e ∷ es) = item (envelope_item n (hexadecimal e)) (envelope_items (n + 1) es)

abbrev pub bidder_items : ℕ → List RegisterEntry → List Bytes → Items
bidder_items n [] es = envelope_items (n + 1 + 1) es
bidder_items n (b ∷ bs) es = item (bidder_item n b.bidder (hexadecimal b.key)) (bidder_items (n + 1) bs es)

abbrev pub items_of : Particulars → Items
items_of p = item (lot_item p.lot p.variant p.terms) (bidder_items 5 p.bidders p.envelopes)

-- a line that says something
said_line : (r : Result Item FileFault) (i : Item) (next : Section) (go_on : Section → Items) → r ≡ Ok i
    → after_verdict (line_must_say r next) go_on ≡ item i (go_on next)
said_line r i next go_on e = rw e refl

envelopes_said : (n : ℕ) (es : List Bytes) → AllByRecursion LawfulEnvelope es
    → items_from Envelopes n (lines_as (map hexadecimal es)) ≡ envelope_items n es
unfolding items_from
envelopes_said n [] h = refl
envelopes_said n (e ∷ es) h =
    said_line _ (envelope_item n (hexadecimal e)) Envelopes (λ next. items_from next (n + 1) (lines_as (map hexadecimal es))) (envelope_read n e h.0)
    ∙ ap (item (envelope_item n (hexadecimal e))) (envelopes_said (n + 1) es h.1)

bidder_no_end : (e : RegisterEntry) → bytes_eq (bidder_line e) [] ≡ false
bidder_no_end e = elim (cases_Bool (bytes_eq (bidder_line e) [])) [
  | inl t ↦ let q = ap length ((bytes_eq-Decides (bidder_line e) []).0 t) in let s = bidder_line_some e in absurd (omega arith)
  | inr f ↦ f
]

cond_other : {X : Type 0} (t : Bool) (x y : X) → t ≡ false → cond t x y ≡ y
cond_other t x y e = rw e refl

bidders_said : (n : ℕ) (bs : List RegisterEntry) (es : List Bytes) → AllByRecursion LawfulBidder bs → AllByRecursion LawfulEnvelope es
    → items_from Bidders n (lines_as (lines_below bs es)) ≡ bidder_items n bs es
unfolding items_from
bidders_said n [] es h k = envelopes_said (n + 1 + 1) es k
bidders_said n (b ∷ bs) es h k =
    let go_on : Section → Items = λ next. items_from next (n + 1) (lines_as (lines_below bs es)) in
    ap (λ v. after_verdict v go_on)
    (cond_other (bytes_eq (bidder_line b) []) (passed EnvelopeNames) (line_must_say (bidder_line_item n (bidder_line b)) Bidders) (bidder_no_end b))
    ∙ said_line _ (bidder_item n b.bidder (hexadecimal b.key)) Bidders go_on (bidder_read n b h.0)
    ∙ ap (item (bidder_item n b.bidder (hexadecimal b.key))) (bidders_said (n + 1) bs es h.1 k)

first_said : (n : ℕ) (bs : List RegisterEntry) (es : List Bytes) → 1 ≤ length bs → AllByRecursion LawfulBidder bs
    → AllByRecursion LawfulEnvelope es
    → items_from FirstBidder n (lines_as (lines_below bs es)) ≡ bidder_items n bs es
unfolding items_from
first_said n [] es l h k = absurd (omega arith)
first_said n (b ∷ bs) es l h k =
    said_line _ (bidder_item n b.bidder (hexadecimal b.key)) Bidders (λ next. items_from next (n + 1) (lines_as (lines_below bs es))) (bidder_read n b h.0)
    ∙ ap (item (bidder_item n b.bidder (hexadecimal b.key))) (bidders_said (n + 1) bs es h.1 k)

module _ (p : Particulars) (h : LawfulParticulars p) where
  pub lines_said : items_from LotNames 1 (lines_as (lines_of p)) ≡ items_of p
  unfolding items_from
  lines_said =
      said_line _ (lot_item p.lot p.variant p.terms) LotEnd (λ next. items_from next 3 (lines_as ([] ∷ codes "bidder,key" ∷ lines_below p.bidders p.envelopes)))
      (lot_read 2 p.lot p.variant p.terms h.lot h.short)
      ∙ ap (item (lot_item p.lot p.variant p.terms)) (first_said 5 p.bidders p.envelopes h.some h.bidders h.envelopes)

  clean_envelopes : (es : List Bytes) → AllByRecursion LawfulEnvelope es → AllByRecursion (Without 10) (map hexadecimal es)
  clean_envelopes [] k = tt
  clean_envelopes (e ∷ es) k = (without_hexadecimal 10 e (omega arith) k.0.bytes, clean_envelopes es k.1)

  clean_below : (bs : List RegisterEntry) → AllByRecursion LawfulBidder bs → AllByRecursion (Without 10) (lines_below bs p.envelopes)
  clean_below [] k = (tt, (without_above 10 44 (codes "envelope") (omega arith) (search rules), clean_envelopes p.envelopes h.envelopes))
  clean_below (b ∷ bs) k = (bidder_line_clean b k.0, clean_below bs k.1)

  pub clean_lines : AllByRecursion (Without 10) (lines_of p)
  clean_lines = (
    without_above 10 44 (codes "lot,variant,terms") (omega arith) (search rules),
    (
      lot_line_clean p.lot p.variant p.terms h.lot h.one_line,
      (tt, (without_above 10 44 (codes "bidder,key") (omega arith) (search rules), clean_below p.bidders h.bidders)),
    ),
  )

  -- what the file says
  pub file_said : items_from LotNames 1 (lines_in (file_of p)) ≡ items_of p
  file_said = ap (items_from LotNames 1) (lines-text_of (lines_of p) clean_lines) ∙ lines_said

-- what is gathered from them
pub envelopes_gathered : (s : Sale) (n : ℕ) (es : List Bytes) → sale_of_items s (envelope_items n es) ≡ Ok s
unfolding sale_of_items
envelopes_gathered s n [] = refl
envelopes_gathered s n (e ∷ es) = envelopes_gathered s (n + 1) es

pub bidder_back : (b : RegisterEntry) → LawfulBidder b → record { bidder = b.bidder; key = written_bytes (hexadecimal b.key) } ≡ b
bidder_back b h = ap (λ k. record { bidder = b.bidder; key = k }) (written_bytes-hexadecimal b.key h.bytes)

pub bidders_gathered : (s : Sale) (n : ℕ) (bs : List RegisterEntry) (es : List Bytes) → AllByRecursion LawfulBidder bs
    → Enrollable s.register bs
    → sale_of_items s (bidder_items n bs es) ≡ Ok (with_register (register_with s.register bs) s)
unfolding sale_of_items
bidders_gathered s n [] es h k = envelopes_gathered s (n + 1 + 1) es
bidders_gathered s n (b ∷ bs) es h k =
    let go_on : List RegisterEntry → Result Sale Refusal = λ register. sale_of_items (with_register register s) (bidder_items (n + 1) bs es) in
    ap (λ e. and_then n s (enrolment e s.register) go_on) (bidder_back b h.0)
    ∙ ap (λ r. and_then n s r go_on) (enrolled_granted b s.register k.0 k.1)
    ∙ bidders_gathered (with_register (list_with (by_key (λ x. x.bidder)) b s.register) s) (n + 1) bs es h.1 k.2

pub envelopes_back : (n : ℕ) (es : List Bytes) → AllByRecursion LawfulEnvelope es → envelopes_in (envelope_items n es) ≡ sent_from n es
unfolding envelopes_in sent_from
envelopes_back n [] h = refl
envelopes_back n (e ∷ es) h = rw (written_bytes-hexadecimal e h.0.bytes, envelopes_back (n + 1) es h.1) refl

pub all_envelopes_back : (n : ℕ) (bs : List RegisterEntry) (es : List Bytes) → AllByRecursion LawfulEnvelope es
    → envelopes_in (bidder_items n bs es) ≡ sent_from (length bs + (n + 2)) es
unfolding envelopes_in
all_envelopes_back n [] es h = envelopes_back (n + 1 + 1) es h ∙ ap (λ k. sent_from k es) (omega arith)
all_envelopes_back n (b ∷ bs) es h = all_envelopes_back (n + 1) bs es h ∙ ap (λ k. sent_from k es) (omega arith)
