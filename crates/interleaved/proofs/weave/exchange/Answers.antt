use Rattle.interleaved.proofs.Exchanges.{bit_exchange}
use Rattle.interleaved.proofs.weave.exchange.Goals as goal

pub returns : goal.returns
returns c p h e = bit_exchange 32 c.args.x c.args.k c.args.m p h e
