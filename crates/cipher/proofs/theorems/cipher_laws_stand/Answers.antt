use Rattle.cipher.proofs.Laws.{laws}
use Rattle.cipher.proofs.theorems.cipher_laws_stand.Goals as goal

pub returns : goal.returns
returns c = laws
