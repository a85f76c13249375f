use Rattle.std.proofs.Common.{◌<◌, length, take, ap, ◌∙◌, arith, rules}
use Rattle.std.proofs.lemmas.Iterator.{YieldsList-from_slice, YieldsList-from_take}
use Rattle.std.proofs.lemmas.Iterator.Consumers.{YieldsList-turn, YieldsList-end}
use Rattle.std.proofs.lemmas.List.{take_all, length_push}
use Rattle.std.specs.Int.Digits.{number_from_digits}
use Rattle.big_endian.proofs.Laws.{grow, bounded, one_more}
use Rattle.big_endian.proofs.number_of.Goals as goal

pub overflow_mul-n : goal.overflow_mul-n
overflow_mul-n c =
    let t = YieldsList-turn (YieldsList-from_take 16 (YieldsList-from_slice c.args.bytes.now cc) cc) c.loop-b.yielded _ c.loop-b.yielded_by _ _ c.in-Some.b c.in-Some.is c.next.ensures.steps in
    let h = bounded c.args.bytes.now c.loop-b.n (length c.loop-b.yielded) t.0 c.loop-b.invariant.1 in
    search rules

pub overflow_add-n : goal.overflow_add-n
overflow_add-n c =
    let t = YieldsList-turn (YieldsList-from_take 16 (YieldsList-from_slice c.args.bytes.now cc) cc) c.loop-b.yielded _ c.loop-b.yielded_by _ _ c.in-Some.b c.in-Some.is c.next.ensures.steps in
    let h = bounded c.args.bytes.now c.loop-b.n (length c.loop-b.yielded) t.0 c.loop-b.invariant.1 in
    search rules

pub loop-b-preserved : goal.loop-b-preserved
loop-b-preserved c =
    let t = YieldsList-turn (YieldsList-from_take 16 (YieldsList-from_slice c.args.bytes.now cc) cc) c.loop-b.yielded _ c.loop-b.yielded_by _ _ c.in-Some.b c.in-Some.is c.next.ensures.steps in
    let b : c.in-Some.b.now < 256 = search rules in
    rw (c.from.ensures, length_push c.loop-b.yielded c.in-Some.b) (
      one_more (take 16 c.args.bytes.now) (length c.loop-b.yielded) c.loop-b.n c.in-Some.b.now t.0 t.1 c.loop-b.invariant.0,
      grow c.loop-b.n c.in-Some.b.now (length c.loop-b.yielded) c.loop-b.invariant.1 b,
    )

pub returns : goal.returns
returns c =
    let t = YieldsList-end (YieldsList-from_take 16 (YieldsList-from_slice c.args.bytes.now cc) cc) c.loop-b.yielded _ c.loop-b.yielded_by _ _ c.in-None.is c.next.ensures.steps in
    c.loop-b.invariant.0 ∙ ap (number_from_digits 256) (take_all (length c.loop-b.yielded) (take 16 c.args.bytes.now) (omega (arith, t.1)))
