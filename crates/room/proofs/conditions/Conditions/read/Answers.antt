use Rattle.std.proofs.Common.{ap, ◌∙◌, rules, of_calls}
use Rattle.std.proofs.lemmas.Result.{err_from_is_err_and}
use Rattle.envelope.proofs.ReadingLaws.{bid_in, reads_bid}
use Rattle.room.specs.Reading.{bid_read}
use Rattle.room.proofs.CodeReading.{none_read}
use Rattle.room.proofs.conditions.Conditions.read.Goals as goal

pub returns-in_err-bid : goal.returns-in_err-bid
returns-in_err-bid g c =
    let p = err_from_is_err_and c.from_residual.result c.from_residual.ensures.1 in
    let e = c.args.envelope.now in
    let v = g.E.Engine.kind c.args.self.now.engine.now in
    let w = c.variant-variant.result in
    let read = reads_bid w e c.parts_of.result c.and_then.result c.parts_of.ensures (search (rules, of_calls)) ∙ ap (λ u. bid_in u e) c.variant-variant.ensures.answer in
    let none = c.in_err-bid.ensures.ok_part in
    rw (p.1, p.2) (ap bid_read (rw none at c.in_err-bid.ensures.value) ∙ none_read v c.args.self.now.lot e c.and_then.result read none)
