use Rattle.std.proofs.Common.{◌≡◌, Some, None, Ok, Err, sym, ap, ◌∙◌, rules}
use Rattle.file.specs.Contents.{sale_of_items, sale_by, sale_or_fault, sale_left}
use Rattle.file.specs.steps.Contents.{sale_so_far}
use Rattle.file.specs.Reader.{items_left, first_of, item_of}
use Rattle.file.proofs.Sound.{left_well_formed, first_well_formed}
use Rattle.file.proofs.Takes.{gave, over_first, over_broken, over_ended, keeps_on}
use Rattle.file.proofs.contents.Gathering.take_all.Goals as goal

pub take_in-requires : goal.take_in-requires
take_in-requires c =
    first_well_formed (items_left c.loop-line.reader) (item_of c.in-Some.line) (gave _ _ _ (c.in_ok-line.was ∙ ap Ok c.in-Some.is) c.read.ensures.gives) (left_well_formed c.loop-line.reader)

pub loop-line-preserved : goal.loop-line-preserved
loop-line-preserved c =
    let i = item_of c.in-Some.line in
    let L = items_left c.loop-line.reader in
    let rest = items_left c.read.new.self in
    let g : Some (Ok i) ≡ first_of L = gave _ _ _ (c.in_ok-line.was ∙ ap Ok c.in-Some.is) c.read.ensures.gives in
    record {
      gathers = sym (c.in_ok-take_in.ensures.gathers rest) ∙ over_first (sale_of_items (sale_so_far c.loop-line.self)) L rest i _ g c.read.ensures.leaves c.loop-line.invariant.gathers;
      keeps = keeps_on _ _ _ c.loop-line.invariant.keeps c.take_in.ensures.keeps;
      same_places = c.take_in.ensures.same_places ∙ c.loop-line.invariant.same_places;
    }

pub returns-in_err-line : goal.returns-in_err-line
unfolding sale_of_items
returns-in_err-line c =
    let f = c.in_err-line.field-0.0 in
    let e : c.from_residual.result ≡ Err f = search rules in
    let L = items_left c.loop-line.reader in
    let g : Some (Err f) ≡ first_of L = gave _ _ _ c.in_err-line.was c.read.ensures.gives in
    let whole = over_broken (sale_of_items (sale_so_far c.loop-line.self)) L f _ g c.loop-line.invariant.gathers in
    record {
      sale = ap (λ r. sale_by r c.loop-line.self.places.now) e ∙ ap sale_or_fault whole;
      left = ap sale_left whole;
      few = rw e tt;
      keeps = c.loop-line.invariant.keeps;
      same_places = c.loop-line.invariant.same_places;
    }

pub returns-in_err-take_in : goal.returns-in_err-take_in
returns-in_err-take_in c =
    let f = c.in_err-take_in.field-0.0 in
    let e : c.from_residual-in_err-take_in.result ≡ Err f = search rules in
    let i = item_of c.in-Some.line in
    let L = items_left c.loop-line.reader in
    let rest = items_left c.read.new.self in
    let g : Some (Ok i) ≡ first_of L = gave _ _ _ (c.in_ok-line.was ∙ ap Ok c.in-Some.is) c.read.ensures.gives in
    let whole = sym (c.in_err-take_in.ensures.gathers rest) ∙ over_first (sale_of_items (sale_so_far c.loop-line.self)) L rest i _ g c.read.ensures.leaves c.loop-line.invariant.gathers in
    record {
      sale = ap (λ r. sale_by r c.take_in.new.self.places.now) e ∙ ap sale_or_fault whole;
      left = ap sale_left whole;
      few = rw e tt;
      keeps = keeps_on _ _ _ c.loop-line.invariant.keeps c.take_in.ensures.keeps;
      same_places = c.take_in.ensures.same_places ∙ c.loop-line.invariant.same_places;
    }

pub returns : goal.returns
unfolding sale_of_items
returns c =
    let n : c.read.result ≡ Ok None = cc in
    let L = items_left c.loop-line.reader in
    let g : None ≡ first_of L = gave _ _ _ n c.read.ensures.gives in
    let whole = over_ended (sale_of_items (sale_so_far c.loop-line.self)) L _ g c.loop-line.invariant.gathers in
    record {
      sale = ap sale_or_fault whole;
      left = ap sale_left whole;
      few = c.loop-line.self.few;
      keeps = c.loop-line.invariant.keeps;
      same_places = c.loop-line.invariant.same_places;
    }
