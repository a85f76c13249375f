use Rattle.room.proofs.theorems.call_laws_stand.Goals as goal
use Rattle.room.proofs.CallLaws.{call_laws}

pub returns : goal.returns
returns c = call_laws
