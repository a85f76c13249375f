-- How a run of the program ends, by what its input had left and what its output held before and after, where these are known.
use Rattle.std.specs.Prelude.{◌≡◌, ◌≢◌, ℕ, Option}
use Rattle.room.specs.Sales.{Bytes}
use Rattle.file.specs.Sale.{WritesReport, BreaksOff}

-- With status 2 a beginning of the report of the whole input was printed at most, and with any other the report was printed and the status is that
-- of the report. Nothing else was printed.
pub record Ends (left before after : Option Bytes) (status : ℕ) : Type 0 where
  pub reported : status ≢ 2 → WritesReport left before after status
  pub broken_off : status ≡ 2 → BreaksOff left before after
