-- What is printed of a sale file: where it is refused the fault and its line, otherwise the answer to each envelope and the page.
use Rattle.std.specs.Prelude.{ℕ, List, [], ◌∷◌, ◌++◌, Some, None, Ok, Err, codes, decimal, Option, Result}
use Rattle.room.specs.Calls.{Answer, LodgingOf, Closing, answer_to, room_after, page_of_room}
use Rattle.room.specs.Faults.{fault_number as room_number}
use Rattle.room.specs.Making.{new_room}
use Rattle.room.specs.Rooms.{Contents as Room}
use Rattle.room.specs.Sales.{Bytes, Sale, Lodging}
use Rattle.file.specs.Contents.{Sent, FileContents, contents_in}
use Rattle.file.specs.Faults.{fault_number, line_of}
use Rattle.file.specs.declared.faults.FileFault.{FileFault}

-- A line of two values, with a comma between them.
abbrev pub two_values : ℕ → ℕ → Bytes
two_values a b = decimal a ++ (44 ∷ (decimal b ++ (10 ∷ [])))

-- A refused file prints the number of its fault and the line, below their names.
abbrev pub refused_report : FileFault → Bytes
refused_report f = codes "refusal,line\n" ++ two_values (fault_number f) (line_of f)

-- The room of a sale, just made.
abbrev pub room_of_sale : Sale → Room
room_of_sale s = new_room s

-- The lodging of an envelope of a file.
abbrev pub lodging_of : Sent → Lodging
lodging_of e = record { envelope = e.envelope }

-- What an envelope is answered: 0 if it is accepted, else the number of the refusal.
abbrev pub answer_number : Answer → ℕ
answer_number (Ok n) = 0
answer_number (Err f) = room_number f

-- The envelopes are lodged in their order: the line of each with its answer.
unfoldable pub answer_lines : Room → List Sent → Bytes
answer_lines r [] = []
answer_lines r (e ∷ es) = two_values e.at (answer_number (answer_to r (LodgingOf (lodging_of e)))) ++ answer_lines (room_after r (LodgingOf (lodging_of e))) es

-- The room that they leave.
unfoldable pub room_after_all : Room → List Sent → Room
room_after_all r [] = r
room_after_all r (e ∷ es) = room_after_all (room_after r (LodgingOf (lodging_of e))) es

-- The page of a file: the one that the room of its sale prints once all its envelopes were lodged in their order and it was closed.
abbrev pub page_in : FileContents → Bytes
page_in c = page_of_room (room_after (room_after_all (room_of_sale c.sale) c.envelopes) Closing)

-- An accepted file prints its answers, an empty line, and the page.
abbrev pub accepted_report : FileContents → Bytes
accepted_report c = codes "line,answer\n" ++ (answer_lines (room_of_sale c.sale) c.envelopes ++ (10 ∷ page_in c))

abbrev pub report_by : Result FileContents FileFault → Bytes
report_by (Ok c) = accepted_report c
report_by (Err f) = refused_report f

-- The report of a file.
abbrev pub report_of : Bytes → Bytes
report_of file = report_by (contents_in file)

-- Why a file is refused, if it is.
abbrev pub refusal_by : Result FileContents FileFault → Option FileFault
refusal_by (Ok c) = None
refusal_by (Err f) = Some f

abbrev pub refusal_of : Bytes → Option FileFault
refusal_of file = refusal_by (contents_in file)

-- The exit status that goes with a report: 0 where the file is accepted, 1 where it is refused.
abbrev pub status_by : Option FileFault → ℕ
status_by None = 0
status_by (Some f) = 1

abbrev pub status_of : Bytes → ℕ
status_of file = status_by (refusal_of file)
