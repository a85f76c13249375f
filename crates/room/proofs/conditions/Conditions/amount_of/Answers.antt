use Rattle.std.proofs.Common.{◌≡◌, length, take, ap, ◌∙◌, rules}
use Rattle.cipher.specs.Mode.{tag_size}
use Rattle.room.proofs.CodeOffers.{amount_kept}
use Rattle.room.proofs.conditions.Conditions.amount_of.Goals as goal

pub returns : goal.returns
returns g c =
    let v = g.E.Engine.kind c.args.self.now.engine.now in
    let x = c.args.slot.now in
    let long : length x.letter ≡ 64 = search rules in
    let t : c.tag_bytes-t.result ≡ tag_size v = c.tag_bytes-t.ensures ∙ ap tag_size c.variant.ensures.answer in
    amount_kept v c.args.self.now.lot c.args.self.now.terms.now x long _ _ _ c.if-slot-eq0.false c.head_of-nonce.ensures (ap (λ k. take k x.tag) t) c.open_amount.ensures
