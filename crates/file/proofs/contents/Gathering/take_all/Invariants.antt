use Rattle.std.proofs.Common.{◌≡◌, length}
use Rattle.file.specs.Contents.{sale_of_items, items_in}
use Rattle.file.specs.steps.Contents.{KeepsRest, sale_so_far}
use Rattle.file.specs.Reader.{items_left}
use Rattle.file.proofs.contents.Gathering.take_all.Given as goal

abbrev pub invariant-loop-line : goal.invariant-loop-line
invariant-loop-line l = record {
  gathers : sale_of_items (sale_so_far l.self) (items_left l.reader) ≡ sale_of_items (sale_so_far l.initial.self) (items_in l.text);
  keeps : KeepsRest l.initial.self l.self;
  same_places : l.self.places.ghost_name ≡ l.initial.self.places.ghost_name;
}

abbrev pub decreases-loop-line : goal.decreases-loop-line
decreases-loop-line l = length l.reader.rest.now
