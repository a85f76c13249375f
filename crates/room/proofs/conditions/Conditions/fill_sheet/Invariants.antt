use Rattle.std.proofs.Common.{◌≡◌, ◌≤◌, length, take}
use Rattle.std.specs.List.{AllByRecursion}
use Rattle.room.specs.Opening.{place_with}
use Rattle.room.specs.Slots.{sheet_in}
use Rattle.room.proofs.CodeSheets.{Fits}
use Rattle.room.proofs.conditions.Conditions.fill_sheet.Given as goal

abbrev pub invariant-loop-slot : goal.invariant-loop-slot
invariant-loop-slot g l =
    let s = sheet_in (g.E.Engine.kind l.self.engine.now) l.self.lot l.self.terms.now (take l.slot-index l.slots) in
    record {
      count : l.listed.count ≡ length s;
      places : l.listed.places.now ≡ place_with s l.initial.listed.places.now;
      same_places : l.listed.places.ghost_name ≡ l.initial.listed.places.ghost_name;
      fit : AllByRecursion Fits (take l.slot-index l.slots);
      few : l.listed.count ≤ l.slot-index;
    }
