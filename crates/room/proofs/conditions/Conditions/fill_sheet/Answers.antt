use Rattle.std.proofs.Common.{◌≡◌, ◌<◌, length, get_or, refl, ap, ◌∙◌, arith}
use Rattle.room.proofs.CodeChecks.{same_value}
use Rattle.room.proofs.CodeSlots.{no_slot}
use Rattle.room.proofs.CodeSheets.{Fits, fits_more, sheet_step, comes_last}
use Rattle.room.proofs.conditions.Conditions.fill_sheet.Goals as goal

pub put_entry-requires-clause-last : goal.put_entry-requires-clause-last
put_entry-requires-clause-last g c =
    comes_last (g.E.Engine.kind c.args.self.now.engine.now) c.args.self.now.lot c.args.self.now.terms.now c.args.slots.now c.loop-slot.slot-index c.loop-slot.listed.count _
    c.loop-slot.listed.places.now c.new-listed.result.places.now c.requires.rising c.loop-slot-test.true refl c.loop-slot.invariant.count c.loop-slot.invariant.places

pub loop-slot-preserved : goal.loop-slot-preserved
loop-slot-preserved g c =
    let v = g.E.Engine.kind c.args.self.now.engine.now in
    let xs = c.args.slots.now in
    let i = c.loop-slot.slot-index in
    let n = c.loop-slot.listed.count in
    let held = c.loop-slot.invariant in
    let put = c.in_ok-put_entry.ensures in
    let small : Fits (get_or xs i no_slot) = omega arith in
    let lent : c.new-listed.result.places.now ≡ c.args.sheet.now = ap (λ l. l.places.now) c.new-listed.ensures in
    let room : n < length c.new-listed.result.places.now = omega (arith, ap length lent, held.few, c.loop-slot-test.true, c.requires.places) in
    let p = sheet_step v c.args.self.now.lot c.args.self.now.terms.now xs i n _ _ c.loop-slot.listed.places.now c.new-listed.result.places.now c.loop-slot-test.true refl (same_value _ _ c.in_ok-amount_of.ensures) held.count held.places room held.few in
    record {
      count = put.count ∙ p.0;
      places = put.places ∙ p.1;
      same_places = put.same_places ∙ held.same_places;
      fit = fits_more xs i c.loop-slot-test.true held.fit small;
      few = omega (arith, put.count, p.2);
    }
