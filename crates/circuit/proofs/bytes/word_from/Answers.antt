use Rattle.std.proofs.Common.{◌≡◌, ◌+◌, ◌-◌, ◌*◌, ◌<◌, ap, ◌∙◌, arith}
use Rattle.binary.specs.Bits.{bit_of}
use Rattle.binary.proofs.RotationLaws.{bit_shr}
use Rattle.circuit.proofs.bytes.word_from.Goals as goal

pub returns : goal.returns
returns c k hk inside =
    let xs = c.args.xs.now in
    let p = c.args.p in
    let i = c.min-i.result in
    let least = c.min-i.ensures in
    let within : p - 8 * i + k < 48 = omega arith in
    let place : 8 * i + (p - 8 * i + k) ≡ p + k = omega arith in
    bit_shr c.six.result (p - 8 * i) k ∙ c.six.ensures (p - 8 * i + k) within ∙ ap (bit_of xs) place
