use Rattle.std.proofs.lemmas.Iterator.Adapters.{YieldsList-from_rev_slice}
use Rattle.std.proofs.lemmas.Iterator.Consumers.{YieldsList-turn}
use Rattle.std.proofs.lemmas.List.{length_push}
use Rattle.std.proofs.Common.{length}
use Rattle.binary.proofs.NumberLaws.{bool_byte_bit, value_more, value_lt}
use Rattle.engine.proofs.bits.number.Goals as goal

pub loop-b-preserved : goal.loop-b-preserved
loop-b-preserved c =
    let l = c.loop-b in
    let t = YieldsList-turn (YieldsList-from_rev_slice c.args.bits.now cc) l.yielded _ l.yielded_by _ _ c.in-Some.b c.in-Some.is c.next.ensures.steps in
    rw (c.from.ensures, bool_byte_bit, length_push l.yielded c.in-Some.b) (
      value_more c.args.bits.now (length l.yielded) l.n c.in-Some.b.now t.0 t.1 l.invariant.0,
      value_lt c.in-Some.b.now (length l.yielded) l.n l.invariant.1,
    )
