use Rattle.std.proofs.Common.{arith}
use Rattle.circuit.proofs.Octets.{byte_joint}
use Rattle.circuit.proofs.bytes.byte_at.Goals as goal

pub returns : goal.returns
returns g c =
    let wide = g.met.S.Spongent.wide in
    rw c.WIDTH-m.ensures (byte_joint g.S.Spongent.WIDTH c.args.k c.args.ws.now (omega (arith, wide)) (omega (arith, wide)))
