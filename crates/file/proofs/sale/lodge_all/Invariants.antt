use Rattle.std.proofs.Common.{◌≡◌, length, vec_items}
use Rattle.file.specs.Contents.{items_in, envelopes_in}
use Rattle.file.specs.Reader.{items_left}
use Rattle.file.specs.steps.Sale.{IsUnbroken, GoesThrough}
use Rattle.file.proofs.sale.lodge_all.Given as goal

abbrev pub invariant-loop-line : goal.invariant-loop-line
invariant-loop-line g l = record {
  unbroken : IsUnbroken (items_left l.reader);
  through : GoesThrough (g.E.Engine.kind l.initial.room.engine) (vec_items l.initial.out) l.initial.room.inner.now (envelopes_in (items_in l.text))
      (vec_items l.out) l.room.inner.now (envelopes_in (items_left l.reader));
  same_engine : l.room.engine ≡ l.initial.room.engine;
  same_place : l.room.inner.ghost_name ≡ l.initial.room.inner.ghost_name;
}

abbrev pub decreases-loop-line : goal.decreases-loop-line
decreases-loop-line g l = length l.reader.rest.now
