use Rattle.std.proofs.Common.{arith}
use Rattle.circuit.specs.Planes.{of_block}
use Rattle.circuit.proofs.Layers.{gathered}
use Rattle.circuit.proofs.gather.gather.Goals as goal

pub returns : goal.returns
returns g c i =
    let at = g.W.Word.at in
    let wide = g.met.S.Spongent.wide in
    gathered g.S.Spongent.WIDTH (of_block at c.args.p i) (of_block at c.rows.result i) (of_block at c.unzip.result i) (omega (arith, wide)) (c.rows.ensures i) (c.unzip.ensures i)
