-- The report of what a reader had left.
use Rattle.std.proofs.Common.{◌≡◌, ◌+◌, take, Some, None, Ok, Err, Option, Result, IfSome, IfOk, MatchResult, refl, subst}
use Rattle.room.specs.Sales.{Bytes}
use Rattle.file.specs.Sale.{Tells, TellsOf}
use Rattle.file.specs.Lines.{most_bytes}
use Rattle.file.specs.declared.report.Report.{Report}
use Rattle.file.specs.declared.report.SaleError.{SaleError}
use Rattle.file.proofs.Alike.{tells_of_whole}

-- what holds of a value that is answered holds of it once the errors were made the sale's
pub ok_mapped : {T D : Type 0} (r : Result T D) (o : T) (P : T → Type 0)
    → MatchResult r (λ x. ◌≡◌ {A = Result T SaleError} (Ok o) (Ok x)) (λ _. ⊥) → IfOk r P → P o
ok_mapped (Ok x) o P same p = let e : x ≡ o = cc in subst P e p
ok_mapped (Err e) o P wrong p = absurd wrong

-- a report of the first bytes that a reader had left is a report of all of them
pub tells_of_left : (left : Option Bytes) (text : Bytes) (r : Report) → IfSome left (λ bytes. text ≡ take (most_bytes + 1) bytes) → Tells text r → TellsOf left r
tells_of_left None text r first t = record { file = text; given = tt; tells = t }
tells_of_left (Some bytes) text r first t = record { file = bytes; given = refl; tells = tells_of_whole bytes r (subst (λ x. Tells x r) first t) }
