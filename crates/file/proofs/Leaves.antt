-- A file that is refused leaves the format in the line that is told.
use Rattle.std.proofs.Common.{◌≡◌, ℕ, ◌<◌, ◌≤◌, cond, List, [], ◌∷◌, ◌++◌, length, Ok, Err, Result, sym, refl, ap, ◌∙◌, inl, inr, ◌⊎◌, append_assoc, subst, arith}
use Rattle.std.specs.List.{AllByRecursion}
use Rattle.std.proofs.lemmas.Bool.{le-ltb, lt-ltb}
use Rattle.room.specs.Sales.{Bytes, Sale}
use Rattle.file.specs.Contents.{Sent, Refusal, with_envelopes, sale_of_items, sale_or_fault, envelopes_in, unknown_sale, items_in, sale_in, contents_in}
use Rattle.file.specs.Faults.{line_of}
use Rattle.file.specs.Form.{broken, items_from}
use Rattle.file.specs.Format.{Particulars, LawfulParticulars, lines_of, text_of}
use Rattle.file.specs.FormatLaws.{BeginFile, IsRefusedThough, LeavesFormat}
use Rattle.file.specs.Lines.{most_bytes, Lines, line, lines_in}
use Rattle.file.specs.declared.faults.FileFault.{FileFault}
use Rattle.file.specs.declared.faults.FileFault.TheVariants.{TooLong, Form}
use Rattle.file.specs.declared.line.Section.TheVariants.{LotNames}
use Rattle.file.proofs.FormatBack.{read_all}
use Rattle.file.proofs.FormatItems.{lines_said, clean_lines}
use Rattle.file.proofs.FormatLaws.{given, given_gathered}
use Rattle.file.proofs.Leaving.{Why, onto, walk}
use Rattle.file.proofs.Texts.{Without, lines_as, lines-ended, NoTens, no_tens, first_line, same_lines, no_tens_as}

-- the text behind lines
record TextBehind (bs : Bytes) (above : List Bytes) (ls : Lines) : Type 0 where
  rest : Bytes
  are : bs ≡ text_of above ++ rest
  left : lines_in rest ≡ ls

behind_lines : (bs : Bytes) (above : List Bytes) (ls : Lines) → lines_in bs ≡ onto above ls → TextBehind bs above ls
unfolding text_of
behind_lines bs [] ls e = record { rest = bs; are = refl; left = e }
behind_lines bs (l ∷ above) ls e =
    let d = first_line bs l (onto above ls) e in
    let k = behind_lines d.behind above ls d.rest in
    record { rest = k.rest; are = d.are ∙ ap (λ z. l ++ (10 ∷ z)) k.are ∙ sym (append_assoc l (10 ∷ text_of above) k.rest); left = k.left }

clean_onto : (above : List Bytes) (ls : Lines) → NoTens (onto above ls) → AllByRecursion (Without 10) above
clean_onto [] ls h = tt
clean_onto (l ∷ above) ls h = (h.0, clean_onto above ls h.1)

clean_append : (xs ys : List Bytes) → AllByRecursion (Without 10) xs → AllByRecursion (Without 10) ys
    → AllByRecursion (Without 10) (xs ++ ys)
clean_append [] ys h k = k
clean_append (x ∷ xs) ys h k = (h.0, clean_append xs ys h.1 k)

clean_at : (xs : List Bytes) (l : Bytes) (ys : List Bytes) → AllByRecursion (Without 10) (xs ++ (l ∷ ys)) → Without 10 l
clean_at [] l ys h = h.0
clean_at (x ∷ xs) l ys h = clean_at xs l ys h.1

-- lines of which a sale is gathered begin a file
begin_by : (above more : List Bytes) (t : Sale) → AllByRecursion (Without 10) above → AllByRecursion (Without 10) more
    → sale_of_items unknown_sale (items_from LotNames 1 (lines_as (above ++ more))) ≡ Ok t → BeginFile above
begin_by above more t h k e =
    let r = read_all (lines_as (above ++ more)) t (no_tens_as (above ++ more) (clean_append above more h k)) e in
    (r.particulars, r.lawful, (more, sym (same_lines (above ++ more) (lines_of r.particulars) r.are)))

-- and those of a file that is written give a sale
written_gathers : (p : Particulars) → LawfulParticulars p → (stop : Refusal)
    → sale_of_items unknown_sale (items_from LotNames 1 (lines_as (lines_of p))) ≡ Err stop → ⊥
written_gathers p h stop e =
    let g : sale_of_items unknown_sale (items_from LotNames 1 (lines_as (lines_of p))) ≡ Ok (given p h).sale =
    ap (sale_of_items unknown_sale) (lines_said p h) ∙ given_gathered p h in
    let z : ◌≡◌ {A = ℕ} 0 1 = cc in omega arith

why_by : (f : FileFault) (rest : Bytes) (left : Lines) → lines_in rest ≡ left → Why f left
    → (f ≡ Form (line_of f)) ⊎ ((l : Bytes) × (behind : Bytes) × (rest ≡ l ++ (10 ∷ behind)) × IsRefusedThough f l)
why_by f rest left e (inl h) = inl h
why_by f rest left e (inr (l, ls, q, k)) = let d = first_line rest l ls (e ∙ q) in inr (l, d.behind, d.are, k)

leaves_by : (file : Bytes) (stop : Refusal) → sale_of_items unknown_sale (items_from LotNames 1 (lines_in file)) ≡ Err stop
    → LeavesFormat file stop.fault
leaves_by file stop e =
    let w = walk (lines_in file) LotNames 1 unknown_sale stop (λ u. refl) e in
    let b = behind_lines file w.above w.rest w.are in
    record {
      above = w.above;
      rest = b.rest;
      are = b.are;
      number = let c = w.count in omega arith;
      begin = begin_by w.above w.more w.sale (clean_onto w.above w.rest (subst NoTens w.are (no_tens file))) w.clean w.completes;
      why = why_by stop.fault b.rest w.rest b.left w.why;
      breaks = λ l behind q begun.
          let same : lines_of begun.0 ≡ w.above ++ (l ∷ begun.2.0) = begun.2.1 ∙ append_assoc w.above (l ∷ []) begun.2.0 in
          let clean = clean_at w.above l begun.2.0 (subst (AllByRecursion (Without 10)) same (clean_lines begun.0 begun.1)) in
          let next : w.rest ≡ line l (lines_in behind) = sym b.left ∙ ap lines_in q ∙ lines-ended l behind clean in
          written_gathers begun.0 begun.1 stop
          (ap (λ ls. sale_of_items unknown_sale (items_from LotNames 1 (lines_as ls))) same ∙ w.stuck l (lines_in behind) next begun.2.0);
    }

refused_by : (es : List Sent) (r : Result Sale FileFault) (f : FileFault) → with_envelopes es r ≡ Err f → r ≡ Err f
refused_by es (Ok s) f e = absurd (let z : ◌≡◌ {A = ℕ} 0 1 = cc in omega arith)
refused_by es (Err g) f e = let q : g ≡ f = cc in ap Err q

-- why a sale is refused
fault_back : (r : Result Sale Refusal) (f : FileFault) → sale_or_fault r ≡ Err f → (stop : Refusal) × (r ≡ Err stop) × (stop.fault ≡ f)
fault_back (Ok s) f e = absurd (let z : ◌≡◌ {A = ℕ} 0 1 = cc in omega arith)
fault_back (Err stop) f e = (stop, refl, cc)

pub leaves : (file : Bytes) (f : FileFault) → length file ≤ most_bytes → contents_in file ≡ Err f → LeavesFormat file f
leaves file f l e =
    let said : items_in file ≡ items_from LotNames 1 (lines_in file) =
    ap (λ t. cond t (broken TooLong) (items_from LotNames 1 (lines_in file))) (le-ltb most_bytes (length file) l) in
    let back = fault_back (sale_of_items unknown_sale (items_in file)) f (refused_by (envelopes_in (items_in file)) (sale_in file) f e) in
    subst (λ g. LeavesFormat file g) back.2 (leaves_by file back.0 (sym (ap (sale_of_items unknown_sale) said) ∙ back.1))

pub too_long : (file : Bytes) → most_bytes < length file → contents_in file ≡ Err TooLong
unfolding sale_of_items
too_long file l =
    ap (λ t. with_envelopes (envelopes_in (cond t (broken TooLong) (items_from LotNames 1 (lines_in file)))) (sale_or_fault (sale_of_items unknown_sale (cond t (broken TooLong) (items_from LotNames 1 (lines_in file))))))
    (lt-ltb most_bytes (length file) l)
