-- The steps of holding a sale: lodging an envelope, lodging all, and the whole.
use Rattle.std.specs.Prelude.{◌≡◌, ℕ, List, ◌++◌, map, Ok, Err, Vec, vec_items, Result}
use Rattle.engine.specs.declared.variants.Variant.{Variant}
use Rattle.room.specs.Calls.{Call, LodgingOf, Met, answer_to}
use Rattle.room.specs.Rooms.{contents_of}
use Rattle.room.specs.Runs.{Meeting, Runs, calls_of}
use Rattle.room.specs.Sales.{Bytes}
use Rattle.room.specs.declared.state.RoomState.{RoomState}
use Rattle.file.specs.Contents.{FileContents, Sent, contents_in}
use Rattle.file.specs.Form.{Items, end, broken, item}
use Rattle.file.specs.Report.{lodging_of, two_values, answer_number, answer_lines, room_after_all, accepted_report}
use Rattle.file.specs.Sale.{WasHeld}
use Rattle.file.specs.declared.sale.Stopped.{Stopped}
use Rattle.file.specs.declared.sale.Stopped.TheVariants.{Refused, Memory}

-- The call that an envelope is lodged by.
abbrev pub lodging_call : Sent → Call
lodging_call e = LodgingOf (lodging_of e)

-- An envelope was lodged, and its line printed with the answer, above an engine of a variant.
pub record LodgesOne (v : Variant) (out : Bytes) (s : RoomState) (e : Sent) (out' : Bytes) (s' : RoomState) : Type 0 where
  pub prints : out' ≡ out ++ two_values e.at (answer_number (answer_to (contents_of v s) (lodging_call e)))
  pub meets : Met v s (lodging_call e) (answer_to (contents_of v s) (lodging_call e)) s'

-- Envelopes es were gone through until es' are left, above an engine of a variant. What is printed, with the answers to the envelopes left, comes
-- to the same as before, and so does the room that they leave; and the room's place has met the lodgings of the envelopes gone through, and
-- nothing else.
pub record GoesThrough (v : Variant) (out : Bytes) (s : RoomState) (es : List Sent) (out' : Bytes) (s' : RoomState) (es' : List Sent) : Type 0 where
  pub prints : out' ++ answer_lines (contents_of v s') es' ≡ out ++ answer_lines (contents_of v s) es
  pub leaves : room_after_all (contents_of v s') es' ≡ room_after_all (contents_of v s) es
  pub meetings : List Meeting
  pub runs : Runs v s meetings s'
  pub lodges : calls_of meetings ++ map lodging_call es' ≡ map lodging_call es

-- No line is refused.
abbrev pub IsUnbroken : Items → Type 0
IsUnbroken end = Unit {0}
IsUnbroken (broken f) = ⊥
IsUnbroken (item i is) = IsUnbroken is

-- Bytes are what an accepted file prints, and its sale was held.
pub record Reports (c : FileContents) (out : Bytes) : Type 0 where
  pub prints : out ≡ accepted_report c
  pub held : WasHeld c

-- A call that does its work or stops for want of memory, and refuses nothing.
abbrev pub OrLacksMemory : {X : Type 0} → Result X Stopped → (X → Type 0) → Type 0
OrLacksMemory (Ok x) P = P x
OrLacksMemory (Err (Refused f)) P = ⊥
OrLacksMemory (Err (Memory e)) P = Unit {0}

-- The sale of a file is held and its report made, or the file is refused, or memory does not suffice. R is where the report's bytes are allocated.
abbrev pub HoldsFile : {R : Type 0} → Bytes → Result (Vec ℕ R) Stopped → Type 0
HoldsFile file (Ok out) = (c : FileContents) × (contents_in file ≡ Ok c) × Reports c (vec_items out)
HoldsFile file (Err (Refused f)) = contents_in file ≡ Err f
HoldsFile file (Err (Memory e)) = Unit {0}
