use Rattle.std.proofs.Common.{◌≡◌, length}
use Rattle.file.specs.Contents.{items_in}
use Rattle.file.specs.Reader.{items_left}
use Rattle.file_tests.specs.Walking.{end_of}
use Rattle.file_tests.proofs.walking.read_through.Given as goal

abbrev pub invariant-loop-said : goal.invariant-loop-said
invariant-loop-said l = end_of (items_left l.reader) ≡ end_of (items_in l.text)

abbrev pub decreases-loop-said : goal.decreases-loop-said
decreases-loop-said l = length l.reader.rest.now
