use Rattle.std.proofs.Common.{length, take, ap, arith}
use Rattle.std.proofs.lemmas.List.{length-take}
use Rattle.room.specs.Page.{page}
use Rattle.room.specs.Slots.{sheet_in}
use Rattle.room.proofs.CodeChecks.{same_value}
use Rattle.room.proofs.CodeSheets.{over_taken, page_fits}
use Rattle.room.proofs.state.RoomState.print.Goals as goal

pub put_page-requires : goal.put_page-requires
put_page-requires g c =
    let v = g.E.Engine.kind c.args.engine.now in
    let r = c.args.self.now in
    let s = sheet_in v r.lot (take r.terms_bytes r.terms) (take r.count r.slots) in
    let b = length-take r.count r.slots in
    let few = r.few in
    let f = page_fits v r.lot (take r.terms_bytes r.terms) (take r.count r.slots) (omega arith) (omega arith) c.in_ok-n.ensures.fit in
    let e = ap (λ z. length (page r.lot z)) (over_taken s c.args.sheet.now c.fill_sheet.new.sheet c.in_ok-n.n (same_value _ _ c.in_ok-n.ensures.count) c.in_ok-n.ensures.sheet) in
    omega (arith, c.requires.page)
