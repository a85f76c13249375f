use Rattle.file.proofs.Lawful.{accepted_keeps_limits}
use Rattle.file.proofs.theorems.accepted_files_keep_limits.Goals as goal

pub returns : goal.returns
returns c = accepted_keeps_limits
