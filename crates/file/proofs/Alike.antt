-- Files that are too long are refused alike, whatever follows the first bytes of them.
use Rattle.std.proofs.Common.{◌≡◌, ℕ, ◌+◌, cond, ltb, length, take, sym, ap, ◌∙◌, inl, inr, arith}
use Rattle.std.proofs.lemmas.Bool.{lt-ltb, cases_lt, cond-true}
use Rattle.std.proofs.lemmas.List.{take_all, length-take-le}
use Rattle.room.specs.Sales.{Bytes}
use Rattle.file.specs.Contents.{contents_in, with_envelopes, envelopes_in, sale_of_items, sale_or_fault, unknown_sale}
use Rattle.file.specs.Form.{Items, broken, items_from}
use Rattle.file.specs.Sale.{Tells}
use Rattle.file.specs.Lines.{most_bytes, lines_in}
use Rattle.file.specs.Report.{report_by, refusal_by}
use Rattle.file.specs.declared.faults.FileFault.TheVariants.{TooLong}
use Rattle.file.specs.declared.line.Section.TheVariants.{LotNames}
use Rattle.file.specs.declared.report.Report.{Report}

said_alike : (limit : ℕ) (refused : Items) (said : Bytes → Items) (file : Bytes)
    → cond (ltb limit (length (take (limit + 1) file))) refused (said (take (limit + 1) file)) ≡ cond (ltb limit (length file)) refused (said file)
said_alike limit refused said file =
    elim (cases_lt limit (length file)) [
      | inl long ↦
          cond-true _ _ _ (lt-ltb limit (length (take (limit + 1) file)) (omega (arith, length-take-le (limit + 1) file (omega arith))))
          ∙ sym (cond-true _ _ _ (lt-ltb limit (length file) long))
      | inr short ↦ ap (λ f. cond (ltb limit (length f)) refused (said f)) (take_all (limit + 1) file (omega arith))
    ]

pub contents_in-take : (file : Bytes) → contents_in (take (most_bytes + 1) file) ≡ contents_in file
contents_in-take file =
    ap (λ is. with_envelopes (envelopes_in is) (sale_or_fault (sale_of_items unknown_sale is))) (said_alike most_bytes (broken TooLong) (λ f. items_from LotNames 1 (lines_in f)) file)

-- so what a report tells of the first bytes it tells of the whole
pub tells_of_whole : (file : Bytes) (r : Report) → Tells (take (most_bytes + 1) file) r → Tells file r
tells_of_whole file r t =
    let same = contents_in-take file in
    record { prints = t.prints ∙ ap report_by same; refuses = t.refuses ∙ ap refusal_by same; held = λ c e. t.held c (same ∙ e) }
