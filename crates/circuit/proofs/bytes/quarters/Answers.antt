use Rattle.std.proofs.Common.{◌≡◌, ◌+◌, ◌*◌, ◌/◌, ap, ◌∙◌, rules}
use Rattle.binary.specs.Bits.{bit, bit_of}
use Rattle.circuit.specs.Planes.{block_at}
use Rattle.circuit.proofs.bytes.quarters.Goals as goal

pub returns : goal.returns
returns g c i k hi hk =
    let e = c.from_fn.ensures i hi in
    let held : bit e.0 k ≡ bit_of (block_at (g.S.Spongent.WIDTH / 2) i c.args.blocks.now) (c.args.t * g.S.Spongent.WIDTH + k) = search rules in
    ap (λ b. b k) e.2 ∙ held
