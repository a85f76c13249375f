use Rattle.std.proofs.Common.{refl}
use Rattle.interleaved.specs.Moves.{unweave_source}
use Rattle.interleaved.proofs.Exchanges.{unmoved, exchange_from, places}
use Rattle.interleaved.proofs.weave.unweave.Goals as goal

pub returns : goal.returns
returns c =
    let a = exchange_from 14 0x0000CCCC c.exchange-a.result (unmoved c.args.x) c.exchange-a.ensures refl refl in
    let b = exchange_from 2 0x0C0C0C0C c.exchange-b.result a c.exchange-b.ensures refl refl in
    let d = exchange_from 7 0x00AA00AA c.exchange-c.result b c.exchange-c.ensures refl refl in
    places unweave_source (exchange_from 1 0x22222222 c.exchange.result d c.exchange.ensures refl refl) refl
