-- Which calls a phase admits.
use Rattle.std.specs.Prelude.{[], ◌∷◌, Ok, Result}
use Rattle.fault.specs.Checks.{decision}
use Rattle.room.specs.Calls.{is_open, is_closed}
use Rattle.room.specs.declared.admission.Op.{Op}
use Rattle.room.specs.declared.admission.Op.TheVariants.{Lodge, Ask, Close, Open}
use Rattle.room.specs.declared.faults.RoomFault.{RoomFault}
use Rattle.room.specs.declared.faults.RoomFault.TheVariants.{Closed, NotClosed}
use Rattle.room.specs.declared.slots.Phase.{Phase}

-- Lodging and closing ask for an open room, opening for a closed one, and asking for neither.
abbrev pub admission : Phase → Op → Result (Unit {0}) RoomFault
admission p Lodge = decision ((is_open p, Closed) ∷ []) tt
admission p Ask = Ok tt
admission p Close = decision ((is_open p, Closed) ∷ []) tt
admission p Open = decision ((is_closed p, NotClosed) ∷ []) tt
