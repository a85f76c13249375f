use Rattle.worked.proofs.worked_examples_stand.Goals as goal
use Rattle.worked.proofs.Worked.{worked}

pub returns : goal.returns
returns c = worked
