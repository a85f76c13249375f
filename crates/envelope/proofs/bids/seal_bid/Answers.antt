use Rattle.std.proofs.Common.{◌≤◌, arith, rules}
use Rattle.envelope.proofs.TermsLaws.{terms_short}
use Rattle.envelope.proofs.BidLaws.{bid_written}
use Rattle.envelope.proofs.bids.seal_bid.Goals as goal

pub slice_bounds-put_envelope-end : goal.slice_bounds-put_envelope-end
slice_bounds-put_envelope-end g c =
    let short : c.bytes.result ≤ 64 = omega (arith, c.bytes.ensures, terms_short c.args.head.terms) in
    search rules

pub returns-clause-place : goal.returns-clause-place
returns-clause-place g c =
    let h = c.args.head in
    bid_written (g.E.Engine.kind c.args.engine.now) c.args.key.now h.terms h.fields.lot h.fields.bidder h.fields.sequence c.args.amount c.bytes.result
    c.args.note.now c.head_of.result c.letter_of-letter.result c.put.new.held _ c.args.place.now c.put_envelope.result
    c.put_envelope.ensures.granted c.head_of.ensures c.letter_of-letter.ensures c.put.ensures c.bytes.ensures c.put_envelope.ensures.place
