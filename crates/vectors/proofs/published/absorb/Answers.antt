use Rattle.std.proofs.Common.{ap, ◌∙◌, arith}
use Rattle.engine.specs.Calls.{one_after}
use Rattle.vectors.proofs.Sponge.{xored_pair}
use Rattle.vectors.proofs.published.absorb.Goals as goal

pub returns-clause-state : goal.returns-clause-state
returns-clause-state g c =
    c.one.ensures.block ∙ ap (one_after (g.E.Engine.kind c.args.engine.now)) (xored_pair c.args.state.now c.args.first c.args.second (omega (arith, c.told-state)))
