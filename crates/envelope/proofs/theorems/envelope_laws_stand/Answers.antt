use Rattle.envelope.proofs.Whole.{laws}
use Rattle.envelope.proofs.theorems.envelope_laws_stand.Goals as goal

pub returns : goal.returns
returns c = laws
