use Rattle.std.proofs.Common.{◌<◌, get_or, set, refl, arith}
use Rattle.std.proofs.ByRecursion.{All-from_get_or}
use Rattle.std.proofs.lemmas.List.{set-get_or}
use Rattle.std.proofs.lemmas.Result.{err_from_is_err_and}
use Rattle.envelope.specs.Parts.{bid_seen}
use Rattle.room.proofs.CodeSlots.{no_slot, still_rise, same_bidder}
use Rattle.room.proofs.CodeLodging.{head_read, tag_read, way_head, way_unknown, met_open, met_closed, met_stale, met_bid}
use Rattle.room.proofs.state.RoomState.lodge.Goals as goal

pub invariant_of-self-then-bid-last-clause-rising : goal.invariant_of-self-then-bid-last-clause-rising
invariant_of-self-then-bid-last-clause-rising g c =
    let r = c.args.self.now in
    still_rise r.count c.in_ok-i.i _ r.slots refl r.rising

pub invariant_of-self-2-clause-rising : goal.invariant_of-self-2-clause-rising
invariant_of-self-2-clause-rising g c =
    let r = c.args.self.now in
    let i = c.in_ok-i.i in
    let x = get_or r.slots i no_slot in
    still_rise r.count i _ (set r.slots i x) (same_bidder c.keep.result (get_or (set r.slots i x) i no_slot) _ (bid_seen c.in_ok-bid.bid) c.keep.ensures.slot) (still_rise r.count i x r.slots refl r.rising)

pub returns-in_err-admits : goal.returns-in_err-admits
returns-in_err-admits g c =
    let p = err_from_is_err_and c.from_residual.result c.from_residual.ensures.1 in
    rw (p.1, p.2) (met_closed _ c.args.self.now _ _ c.in_err-admits.ensures)

pub returns-in_err-bid : goal.returns-in_err-bid
returns-in_err-bid g c =
    let p = err_from_is_err_and c.from_residual-in_err-bid.result c.from_residual-in_err-bid.ensures.1 in
    rw (p.1, p.2) (met_open _ c.args.self.now _ _ _ _ _ c.in_ok-admits.ensures refl refl refl (way_head _ _ _ _ _ _ c.in_err-bid.ensures))

pub returns-in_err-i : goal.returns-in_err-i
returns-in_err-i g c =
    let p = err_from_is_err_and c.from_residual-in_err-i.result c.from_residual-in_err-i.ensures.1 in
    rw (p.1, p.2, c.in_err-i.ensures.1) (met_open _ c.args.self.now _ _ _ _ _ c.in_ok-admits.ensures refl refl refl (way_unknown _ _ _ _ _ _ (head_read _ _ _ _ c.in_ok-bid.ensures) c.in_err-i.ensures.0))

pub returns-then-bid-last : goal.returns-then-bid-last
returns-then-bid-last g c =
    let r = c.args.self.now in
    met_stale _ r _ _ _ c.in_ok-i.i _ c.in_ok-admits.ensures (head_read _ _ _ _ c.in_ok-bid.ensures) c.in_ok-i.ensures (set-get_or r.slots c.in_ok-i.i no_slot)
    (omega arith) refl (omega (arith, c.if-bid-last.true))

pub keep-requires : goal.keep-requires
keep-requires g c = tag_read _ _ _ _ c.in_ok-bid.ensures

pub returns : goal.returns
returns g c =
    let r = c.args.self.now in
    met_bid _ r _ _ _ c.in_ok-i.i _ c.in_ok-admits.ensures c.in_ok-bid.ensures c.in_ok-i.ensures (set-get_or r.slots c.in_ok-i.i no_slot)
    (omega arith) _ _ refl (omega (arith, c.if-bid-last.false))
    (All-from_get_or (λ b. b < 256) c.args.envelope.now 0 (λ i l. (c.type_inv.envelope i).fits)) c.keep.ensures.answer c.keep.ensures.slot
