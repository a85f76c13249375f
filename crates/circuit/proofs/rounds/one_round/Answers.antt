use Rattle.std.proofs.Common.{◌∙◌, arith}
use Rattle.engine.specs.Spongent.{round, with_counter}
use Rattle.circuit.specs.Planes.{of_block}
use Rattle.circuit.proofs.Layers.{count_length, planes_hold}
use Rattle.circuit.proofs.rounds.one_round.Goals as goal

pub returns : goal.returns
unfolding round
returns g c i bs len h =
    let at = g.W.Word.at in
    let wide = g.met.S.Spongent.wide in
    planes_hold g.S.Spongent.WIDTH (of_block at c.add_counter.result i) (of_block at c.gather.result i) (of_block at c.substitute.result i) (with_counter c.args.c bs)
    (omega (arith, wide)) (count_length c.args.c bs ∙ len) (c.add_counter.ensures i bs len h) (c.gather.ensures i) (c.substitute.ensures i)
