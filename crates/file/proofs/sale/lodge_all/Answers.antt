use Rattle.std.proofs.Common.{◌≡◌, Some, None, Ok, Err, sym, refl, ap, ◌∙◌, subst}
use Rattle.file.specs.Reader.{items_left, first_of, item_of}
use Rattle.file.specs.steps.Sale.{IsUnbroken}
use Rattle.file.proofs.Sound.{left_well_formed, first_well_formed}
use Rattle.file.proofs.Takes.{gave}
use Rattle.file.proofs.Through.{through_start, through_item, ended_left, unbroken_rest, never_refused, through_all}
use Rattle.file.proofs.sale.lodge_all.Goals as goal

pub loop-line-init : goal.loop-line-init
loop-line-init g c = record {
  unbroken = subst IsUnbroken (sym c.new-reader.ensures) c.requires;
  through = through_start _ _ _ _ _ c.new-reader.ensures;
  same_engine = refl;
  same_place = refl;
}

pub lodge_said-requires : goal.lodge_said-requires
lodge_said-requires g c =
    first_well_formed (items_left c.loop-line.reader) (item_of c.in-Some.line) (gave _ _ _ (c.in_ok-line.was ∙ ap Ok c.in-Some.is) c.read.ensures.gives) (left_well_formed c.loop-line.reader)

pub loop-line-preserved : goal.loop-line-preserved
loop-line-preserved g c =
    let h = c.in_ok-lodge_said.ensures in
    let L = items_left c.loop-line.reader in
    let rest = items_left c.read.new.self in
    let i = item_of c.in-Some.line in
    let first : Some (Ok i) ≡ first_of L = gave _ _ _ (c.in_ok-line.was ∙ ap Ok c.in-Some.is) c.read.ensures.gives in
    record {
      unbroken = subst IsUnbroken (sym c.read.ensures.leaves) (unbroken_rest L c.loop-line.invariant.unbroken);
      through = through_item _ _ _ _ _ c.args.room.now.inner.now c.loop-line.room.inner.now c.lodge_said.new.room.inner.now _ L rest i (ap g.E.Engine.kind c.loop-line.invariant.same_engine)
          c.loop-line.invariant.through first c.read.ensures.leaves (h.0 rest);
      same_engine = h.1 ∙ c.loop-line.invariant.same_engine;
      same_place = h.2 ∙ c.loop-line.invariant.same_place;
    }

pub returns-in_err-line : goal.returns-in_err-line
returns-in_err-line g c =
    let f = c.in_err-line.field-0.0 in
    let L = items_left c.loop-line.reader in
    let first : Some (Err f) ≡ first_of L = gave _ _ _ c.in_err-line.was c.read.ensures.gives in
    absurd (never_refused L f first c.loop-line.invariant.unbroken)

pub returns : goal.returns
returns g c =
    let n : c.read.result ≡ Ok None = cc in
    let L = items_left c.loop-line.reader in
    let first : None ≡ first_of L = gave _ _ _ n c.read.ensures.gives in
    (through_all _ _ _ _ _ _ L (ended_left L first) c.loop-line.invariant.through, c.loop-line.invariant.same_engine, c.loop-line.invariant.same_place)
