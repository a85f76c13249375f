-- The sale of a file: the room in which it is held, by all that it met since its making; what a report tells of it; and what holding it does, by
-- what its reader had left and what its writer held before and after, where these are known.
use Rattle.std.specs.Io.KnownBytes.{Appends}
use Rattle.std.specs.Prelude.{◌≡◌, ℕ, List, [], ◌∷◌, ◌++◌, map, ⊤, Ok, Err, vec_items, Option, Result}
use Rattle.room.specs.Calls.{Call, LodgingOf, Closing}
use Rattle.room.specs.Runs.{History, calls_of, Prints}
use Rattle.room.specs.Sales.{Bytes, Lodging}
use Rattle.file.specs.Contents.{FileContents, contents_in}
use Rattle.file.specs.Report.{lodging_of, page_in, report_of, refusal_of, status_of}
use Rattle.file.specs.Streams.{IsAllLeft, WritesSome}
use Rattle.file.specs.declared.report.Report.{Report}
use Rattle.file.specs.declared.report.SaleError.{SaleError}
use Rattle.file.specs.declared.report.SaleError.TheVariants.{Memory, Reading, Writing}

-- The lodgings of a file's envelopes.
abbrev pub lodgings_of : FileContents → List Lodging
lodgings_of c = map lodging_of c.envelopes

-- The calls upon the room of a file: its envelopes are lodged in their order, and then it is closed.
abbrev pub calls_in : FileContents → List Call
calls_in c = map LodgingOf (lodgings_of c) ++ (Closing ∷ [])

-- The sale of a file was held in a room: it was made of the file's lot, terms and register, above an engine of its variant, and has met the
-- lodgings of the file's envelopes in their order and then the closing, and nothing else.
pub record HeldIn (c : FileContents) (x : History) : Type 0 where
  pub made_of : x.sale ≡ c.sale
  pub met : calls_of x.meetings ≡ calls_in c

-- There is a room in which the sale of a file was held, and it prints the file's page.
abbrev pub WasHeld : FileContents → Type 0
WasHeld c = (x : History) × HeldIn c x × Prints x (page_in c)

-- What a report of a file tells: the bytes to print, and why the file is refused, if it is. The sale of an accepted file was held.
pub record Tells (file : Bytes) (r : Report) : Type 0 where
  pub prints : vec_items r.bytes ≡ report_of file
  pub refuses : r.refusal ≡ refusal_of file
  pub held : (c : FileContents) → contents_in file ≡ Ok c → WasHeld c

-- A report tells of the file that a reader had left, all of it.
pub record TellsOf (left : Option Bytes) (r : Report) : Type 0 where
  pub file : Bytes
  pub given : IsAllLeft left file
  pub tells : Tells file r

-- What reporting on that file answers: no failure to write, since nothing is written.
abbrev pub ReportsFrom : Option Bytes → Result Report SaleError → Type 0
ReportsFrom left (Ok r) = TellsOf left r
ReportsFrom left (Err (Memory e)) = ⊤
ReportsFrom left (Err (Reading e)) = ⊤
ReportsFrom left (Err (Writing e)) = ⊥

-- The report of the file that a reader had left was written, and nothing else, and the status is that of the file. The sale of an accepted file was
-- held.
pub record WritesReport (left before after : Option Bytes) (status : ℕ) : Type 0 where
  pub file : Bytes
  pub given : IsAllLeft left file
  pub writes : Appends before after (report_of file)
  pub ends : status ≡ status_of file
  pub held : (c : FileContents) → contents_in file ≡ Ok c → WasHeld c

-- A beginning of that report was written at most, and nothing else.
pub record BreaksOff (left before after : Option Bytes) : Type 0 where
  pub file : Bytes
  pub given : IsAllLeft left file
  pub writes : WritesSome before after (report_of file)

-- The sale of a file is held and its report written. Where memory does not suffice or the file cannot be read nothing is written, and where writing
-- fails a beginning of the report.
abbrev pub HoldsSale : Option Bytes → Option Bytes → Option Bytes → Result ℕ SaleError → Type 0
HoldsSale left before after (Ok status) = WritesReport left before after status
HoldsSale left before after (Err (Memory e)) = after ≡ before
HoldsSale left before after (Err (Reading e)) = after ≡ before
HoldsSale left before after (Err (Writing e)) = BreaksOff left before after
