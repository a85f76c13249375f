use Rattle.std.proofs.Common.{◌≡◌, length}
use Rattle.file.proofs.Cuts.{Behind}
use Rattle.file.specs.Reader.{items_left}
use Rattle.file.proofs.reader.Reader.read.Given as goal

abbrev pub invariant-loop-self : goal.invariant-loop-self
invariant-loop-self l = (items_left l.self ≡ items_left l.initial.self) × Behind l.initial.self.rest.now l.self.rest.now

abbrev pub decreases-loop-self : goal.decreases-loop-self
decreases-loop-self l = length l.self.rest.now
