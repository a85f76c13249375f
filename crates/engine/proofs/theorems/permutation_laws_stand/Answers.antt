use Rattle.engine.proofs.Laws.{laws}
use Rattle.engine.proofs.theorems.permutation_laws_stand.Goals as goal

pub returns : goal.returns
returns c = laws
