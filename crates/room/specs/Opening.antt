-- Opening a room: what it writes to the places lent to it.
use Rattle.std.specs.Prelude.{◌≡◌, List, ◌++◌, length, drop, replicate}
use Rattle.fault.specs.Checks.{by_answer}
use Rattle.engine.specs.declared.variants.Variant.{Variant}
use Rattle.room.specs.Sales.{Bytes}
use Rattle.room.specs.Rooms.{contents_of}
use Rattle.room.specs.Calls.{Answer, Sizes, Opening, Met, sheet_of, page_of_room}
use Rattle.room.specs.declared.sheet.SheetEntry.{SheetEntry}
use Rattle.room.specs.declared.state.RoomState.{RoomState}

-- What the places lent to an opening hold: the sheet, the page and the work area.
pub record Lent : Type 0 where
  pub sheet : List SheetEntry
  pub page : Bytes
  pub work : Bytes

abbrev pub sizes_of : Lent → Sizes
sizes_of o = record { sheet = length o.sheet; page = length o.page; work = length o.work }

-- Places after others were written over the first of them: those behind are unchanged.
abbrev pub place_with : {X : Type 0} → List X → List X → List X
place_with new old = new ++ drop (length new) old

-- What opening promises: what every call promises, and of the places lent to it that a granted opening writes sheet and page, that a
-- refused one leaves them, and that the work area is all zero afterwards in any case, whatever its length.
pub record Opened (v : Variant) (before : RoomState) (given : Lent) (a : Answer) (given_back : Lent) (after : RoomState) : Type 0 where
  pub meets : Met v before (Opening (sizes_of given)) a after
  pub sheet : given_back.sheet ≡ by_answer a (place_with (sheet_of (contents_of v before)) given.sheet) given.sheet
  pub page : given_back.page ≡ by_answer a (place_with (page_of_room (contents_of v before)) given.page) given.page
  pub work : given_back.work ≡ replicate (length given.work) 0
