use Rattle.room.proofs.theorems.promise_stands.Goals as goal
use Rattle.room.proofs.Whole.{promised}

pub returns : goal.returns
returns c = promised
