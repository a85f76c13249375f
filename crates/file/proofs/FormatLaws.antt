-- What the laws of the format come from: what is accepted, what is read of it, and that it is written in one way only.
use Rattle.std.proofs.Common.{◌≡◌, ℕ, ◌+◌, ◌≤◌, Bool, true, false, cond, ltb, List, [], ◌∷◌, length, Ok, Err, Result, sym, refl, ap, ◌∙◌, subst, arith}
use Rattle.std.specs.List.{AllByRecursion}
use Rattle.std.proofs.lemmas.Bool.{ltb-false, le-ltb}
use Rattle.engine.specs.declared.variants.Variant.TheVariants.{Dumbo}
use Rattle.list.specs.Order.{by_key}
use Rattle.list.proofs.Laws.{rising_empty}
use Rattle.room.specs.Sales.{Bytes, Sale}
use Rattle.room.specs.declared.register.RegisterEntry.{RegisterEntry}
use Rattle.file.specs.Contents.{FileContents, Sent, with_envelopes, with_lot, with_register, sale_of_items, sale_or_fault, envelopes_in, unknown_sale, items_in, sale_in, contents_in}
use Rattle.file.specs.Form.{Items, end, broken, item, lot_item, bidder_item, envelope_item, items_from}
use Rattle.file.specs.Format.{Particulars, LawfulParticulars, LawfulBidder, LawfulEnvelope, lines_of, file_of}
use Rattle.file.specs.FormatLaws.{IsAccepted, IsOfFormat, ContentsOf}
use Rattle.file.specs.Hexadecimal.{written_bytes}
use Rattle.file.specs.Lines.{most_bytes, lines_in}
use Rattle.file.specs.declared.faults.FileFault.{FileFault}
use Rattle.file.specs.declared.faults.FileFault.TheVariants.{TooLong}
use Rattle.file.specs.declared.line.Section.TheVariants.{LotNames}
use Rattle.file.proofs.Enrolments.{Enrollable, register_with, are_enrollable, all_new, bidders_permuted, register_rises}
use Rattle.file.proofs.FormatBack.{read_all}
use Rattle.file.proofs.FormatItems.{envelope_items, bidder_items, items_of, file_said, bidders_gathered, all_envelopes_back, bidder_back}
use Rattle.file.proofs.Lawful.{accepted_gathers}
use Rattle.file.proofs.HexTexts.{written_bytes-hexadecimal}
use Rattle.file.proofs.Texts.{text_back, no_tens}

-- the parts of what a file that is accepted gives
contents_by : (es : List Sent) (r : Result Sale FileFault) (c : FileContents) → with_envelopes es r ≡ Ok c → r ≡ Ok c.sale
contents_by es (Ok s) c e = let q : record { sale = s; envelopes = es } ≡ c = cc in ap (λ x. Ok x.sale) q
contents_by es (Err f) c e = absurd (let z : ◌≡◌ {A = ℕ} 0 1 = cc in omega arith)

short_by : (t : Bool) (is : Items) (s : Sale) → sale_of_items unknown_sale (cond t (broken TooLong) is) ≡ Ok s
    → (t ≡ false) × (sale_of_items unknown_sale is ≡ Ok s)
unfolding sale_of_items
short_by true is s e = absurd (let z : ◌≡◌ {A = ℕ} 0 1 = cc in omega arith)
short_by false is s e = (refl, e)

accepted_by : (file : Bytes) (c : FileContents) → contents_in file ≡ Ok c
    → (length file ≤ most_bytes) × (sale_of_items unknown_sale (items_from LotNames 1 (lines_in file)) ≡ Ok c.sale)
accepted_by file c e =
    let k = short_by (ltb most_bytes (length file)) (items_from LotNames 1 (lines_in file)) c.sale (accepted_gathers file c.sale (contents_by (envelopes_in (items_in file)) (sale_in file) c e)) in
    (ltb-false most_bytes (length file) k.0, k.1)

-- an accepted file is of the format
pub is_of_format : (file : Bytes) → IsAccepted file → IsOfFormat file
is_of_format file (c, e) =
    let k = accepted_by file c e in
    let r = read_all (lines_in file) c.sale (no_tens file) k.1 in
    (k.0, (r.particulars, r.lawful, text_back file (lines_of r.particulars) r.are))

-- what a file of the format gives
module _ (p : Particulars) (h : LawfulParticulars p) where
  abbrev pub given : FileContents
  given = record {
    sale = with_register (register_with [] p.bidders) (with_lot p.lot p.variant p.terms unknown_sale);
    envelopes = envelopes_in (items_of p);
  }

  all_enroll : Enrollable [] p.bidders
  all_enroll = let f = h.few in are_enrollable [] p.bidders (omega arith) (all_new p.bidders) h.different

  pub given_gathered : sale_of_items unknown_sale (items_of p) ≡ Ok given.sale
  unfolding sale_of_items
  given_gathered = bidders_gathered (with_lot p.lot p.variant p.terms unknown_sale) 5 p.bidders p.envelopes h.bidders all_enroll

  file_gives : length (file_of p) ≤ most_bytes → contents_in (file_of p) ≡ Ok given
  file_gives l =
      let said : items_in (file_of p) ≡ items_of p =
      ap (λ t. cond t (broken TooLong) (items_from LotNames 1 (lines_in (file_of p)))) (le-ltb most_bytes (length (file_of p)) l) ∙ file_said p h in
      ap (λ is. with_envelopes (envelopes_in is) (sale_or_fault (sale_of_items unknown_sale is))) said
      ∙ ap (λ r. with_envelopes (envelopes_in (items_of p)) (sale_or_fault r)) given_gathered

  given_of : ContentsOf p given
  unfolding envelopes_in
  given_of = record {
    lot = refl;
    variant = refl;
    terms = refl;
    bidders = bidders_permuted p.bidders;
    rising = register_rises [] p.bidders (rising_empty (by_key (λ x. x.bidder))) all_enroll;
    envelopes = all_envelopes_back 5 p.bidders p.envelopes h.envelopes;
  }

  pub contents_of : (c : FileContents) → contents_in (file_of p) ≡ Ok c → ContentsOf p c
  contents_of c e =
      let q : given ≡ c = let f = file_gives (accepted_by (file_of p) c e).0 in cc in
      subst (ContentsOf p) q given_of

pub is_accepted : (file : Bytes) → IsOfFormat file → IsAccepted file
is_accepted file (l, (p, h, e)) = (given p h, ap contents_in e ∙ file_gives p h (subst (λ f. length f ≤ most_bytes) e l))

-- the particulars, out of what a file says
abbrev bidders_out : Items → List RegisterEntry
bidders_out end = []
bidders_out (broken f) = []
bidders_out (item (lot_item lot v terms) is) = bidders_out is
bidders_out (item (bidder_item n b key) is) = record { bidder = b; key = written_bytes key } ∷ bidders_out is
bidders_out (item (envelope_item n ds) is) = bidders_out is

abbrev envelopes_out : Items → List Bytes
envelopes_out end = []
envelopes_out (broken f) = []
envelopes_out (item (lot_item lot v terms) is) = envelopes_out is
envelopes_out (item (bidder_item n b key) is) = envelopes_out is
envelopes_out (item (envelope_item n ds) is) = written_bytes ds ∷ envelopes_out is

abbrev no_particulars : Particulars
no_particulars = record { lot = 0; variant = Dumbo; terms = []; bidders = []; envelopes = [] }

abbrev particulars_out : Items → Particulars
particulars_out end = no_particulars
particulars_out (broken f) = no_particulars
particulars_out (item (lot_item lot v terms) is) =
    record { lot = lot; variant = v; terms = terms; bidders = bidders_out is; envelopes = envelopes_out is }
particulars_out (item (bidder_item n b key) is) = no_particulars
particulars_out (item (envelope_item n ds) is) = no_particulars

no_bidders : (n : ℕ) (es : List Bytes) → bidders_out (envelope_items n es) ≡ []
no_bidders n [] = refl
no_bidders n (e ∷ es) = no_bidders (n + 1) es

bidders_are : (n : ℕ) (bs : List RegisterEntry) (es : List Bytes) → AllByRecursion LawfulBidder bs → bidders_out (bidder_items n bs es) ≡ bs
bidders_are n [] es h = no_bidders (n + 1 + 1) es
bidders_are n (b ∷ bs) es h =
    ap (λ z. z ∷ bidders_out (bidder_items (n + 1) bs es)) (bidder_back b h.0)
    ∙ ap (λ z. b ∷ z) (bidders_are (n + 1) bs es h.1)

envelopes_are : (n : ℕ) (es : List Bytes) → AllByRecursion LawfulEnvelope es → envelopes_out (envelope_items n es) ≡ es
envelopes_are n [] h = refl
envelopes_are n (e ∷ es) h = rw (written_bytes-hexadecimal e h.0.bytes, envelopes_are (n + 1) es h.1) refl

all_envelopes_are : (n : ℕ) (bs : List RegisterEntry) (es : List Bytes) → AllByRecursion LawfulEnvelope es
    → envelopes_out (bidder_items n bs es) ≡ es
all_envelopes_are n [] es h = envelopes_are (n + 1 + 1) es h
all_envelopes_are n (b ∷ bs) es h = all_envelopes_are (n + 1) bs es h

particulars_are : (p : Particulars) → LawfulParticulars p → particulars_out (items_from LotNames 1 (lines_in (file_of p))) ≡ p
particulars_are p h =
    ap particulars_out (file_said p h)
    ∙ ap (λ bs. record { lot = p.lot; variant = p.variant; terms = p.terms; bidders = bs; envelopes = envelopes_out (bidder_items 5 p.bidders p.envelopes) })
    (bidders_are 5 p.bidders p.envelopes h.bidders)
    ∙ ap (λ es. record { lot = p.lot; variant = p.variant; terms = p.terms; bidders = p.bidders; envelopes = es })
    (all_envelopes_are 5 p.bidders p.envelopes h.envelopes)

pub written_alike : (p q : Particulars) → LawfulParticulars p → LawfulParticulars q → file_of p ≡ file_of q → p ≡ q
written_alike p q h k e =
    sym (particulars_are p h) ∙ ap (λ f. particulars_out (items_from LotNames 1 (lines_in f))) e ∙ particulars_are q k
