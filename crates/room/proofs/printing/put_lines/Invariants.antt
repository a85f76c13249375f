use Rattle.std.proofs.Common.{◌≡◌, ◌+◌, length, take}
use Rattle.std.specs.List.{flat_map}
use Rattle.room.specs.Page.{line, rows}
use Rattle.room.specs.Places.{place_with_at}
use Rattle.room.proofs.printing.put_lines.Given as goal

abbrev pub invariant-loop-i : goal.invariant-loop-i
invariant-loop-i l =
    (l.at ≡ l.start + length (flat_map line (rows l.lot (take l.i l.sheet))))
    × (l.page ≡ place_with_at l.initial.page l.start (flat_map line (rows l.lot (take l.i l.sheet))))
