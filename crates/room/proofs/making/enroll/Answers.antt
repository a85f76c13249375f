use Rattle.std.proofs.Common.{set, ◌∙◌, ap₂, arith}
use Rattle.room.proofs.CodeSlots.{slots_more}
use Rattle.room.proofs.CodeMaking.{nobody, fits_more}
use Rattle.room.proofs.making.enroll.Goals as goal

pub loop-i-preserved : goal.loop-i-preserved
loop-i-preserved c =
    let rs = c.args.register.now in
    let i = c.loop-i.i in
    record {
      slots = ap₂ (λ ss y. set ss i y) c.loop-i.invariant.slots c.new.ensures ∙ slots_more rs c.args.slots.now i nobody c.loop-i-test.true c.requires;
      fit = fits_more rs i c.loop-i-test.true c.loop-i.invariant.fit (omega arith);
    }
