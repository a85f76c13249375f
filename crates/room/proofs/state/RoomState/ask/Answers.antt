use Rattle.std.proofs.Common.{refl, arith}
use Rattle.std.proofs.lemmas.Result.{err_from_is_err_and}
use Rattle.room.proofs.CodeLodging.{ask_unknown, ask_known}
use Rattle.room.proofs.state.RoomState.ask.Goals as goal

pub returns-in_err-i : goal.returns-in_err-i
returns-in_err-i c v =
    let p = err_from_is_err_and c.from_residual-in_err-i.result c.from_residual-in_err-i.ensures.1 in
    rw (p.1, p.2, c.in_err-i.ensures.1) (ask_unknown v c.args.self.now c.args.bidder c.in_err-i.ensures.0)

pub returns : goal.returns
returns c v = ask_known v c.args.self.now c.args.bidder c.in_ok-i.i _ c.in_ok-i.ensures refl (omega arith)
