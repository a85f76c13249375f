use Rattle.std.proofs.Common.{refl, arith}
use Rattle.list.proofs.Shifts.{stored_at}
use Rattle.list.proofs.ordered.store_at.Goals as goal

pub returns : goal.returns
returns g c = stored_at c.args.places.now c.args.at c.args.end c.args.e _ c.rotate_right.new.self (omega arith) (omega arith) refl c.rotate_right.ensures.after
