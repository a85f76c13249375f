use Rattle.std.proofs.Common.{rules}
use Rattle.engine.specs.Spongent.{with_counter, substitute, move, round}
use Rattle.engine.proofs.spongent.one_round.Goals as goal

pub returns : goal.returns
unfolding round with_counter substitute move
returns g c = search rules
