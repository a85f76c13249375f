use Rattle.std.proofs.Common.{◌≡◌, ◌+◌, ◌*◌, ◌≤◌, length, refl, ◌∙◌, arith}
use Rattle.binary.proofs.MadeLaws.{filled_more, filled_end}
use Rattle.binary.proofs.NumberLaws.{value_part}
use Rattle.binary.specs.Bits.{byte_of, block}
use Rattle.engine.proofs.bits.pack.Goals as goal

pub loop-k-preserved : goal.loop-k-preserved
loop-k-preserved g c =
    let bits = c.args.bits.now in
    let k = c.loop-k.k in
    let inside : 8 * k + 8 ≤ length bits = omega arith in
    let byte : c.number.result ≡ byte_of bits k = c.number.ensures.0 ∙ value_part bits (8 * k) (8 * k + 8) 8 refl inside in
    filled_more (byte_of bits) c.loop-k.out k c.number.result (omega arith) byte c.loop-k.invariant

pub returns : goal.returns
unfolding block
returns g c = filled_end 0 (byte_of c.args.bits.now) c.loop-k.out _ c.loop-k.k (omega arith) (omega arith) c.loop-k.invariant
