use Rattle.std.proofs.Common.{◌≡◌, ◌++◌, map, take, drop}
use Rattle.std.specs.List.{AllByRecursion}
use Rattle.room.specs.Slots.{new_slot}
use Rattle.room.proofs.CodeMaking.{Fits}
use Rattle.room.proofs.making.enroll.Given as goal

abbrev pub invariant-loop-i : goal.invariant-loop-i
invariant-loop-i l = record {
  slots : l.slots ≡ map new_slot (take l.i l.register) ++ drop l.i l.initial.slots;
  fit : AllByRecursion Fits (take l.i l.register);
}
