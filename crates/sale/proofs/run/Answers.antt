use Rattle.std.proofs.Common.{◌≡◌, [], Some, None, Err, Option, refl, sym, subst}
use Rattle.std.specs.Io.KnownBytes.{Appends}
use Rattle.std.proofs.KnownBytes.{Appends-nil}
use Rattle.room.specs.Sales.{Bytes}
use Rattle.file.specs.Sale.{BreaksOff, HoldsSale}
use Rattle.file.specs.declared.report.SaleError.{SaleError}
use Rattle.file.specs.declared.report.SaleError.TheVariants.{Memory, Reading, Writing}
use Rattle.sale.proofs.run.Goals as goal

-- where nothing was written, no more than a beginning of the report was
nothing_written : (left before after : Option Bytes) → after ≡ before → BreaksOff left before after
nothing_written None before after e =
    record { file = []; given = tt; writes = record { count = 0; writes = subst (λ x. Appends before x []) (sym e) (Appends-nil before) } }
nothing_written (Some bytes) before after e =
    record { file = bytes; given = refl; writes = record { count = 0; writes = subst (λ x. Appends before x []) (sym e) (Appends-nil before) } }

broken_off : (left before after : Option Bytes) (e : SaleError) → HoldsSale left before after (Err e) → BreaksOff left before after
broken_off left before after (Memory e) h = nothing_written left before after h
broken_off left before after (Reading e) h = nothing_written left before after h
broken_off left before after (Writing e) h = h

pub returns-in-Err : goal.returns-in-Err
returns-in-Err g c =
    record { reported = λ n. absurd (n c.from-in-Err.ensures); broken_off = λ e. broken_off _ _ _ c.in-Err.e c.in-Err.ensures }
