use Rattle.std.proofs.Common.{◌≡◌, ◌-◌, take, ap, ◌∙◌, arith, rules}
use Rattle.cipher.specs.Mode.{tag_size, enciphered_block, tag_sum, tag_from}
use Rattle.cipher.specs.Groups.{block_in}
use Rattle.cipher.proofs.Laws.{tag_held}
use Rattle.cipher.proofs.enciphering.Keyed.has_tag.Goals as goal

pub returns : goal.returns
unfolding tag_from
returns g c =
    let v = g.E.Engine.kind c.args.self.now.engine.now in
    let first = block_in v c.args.self.now.first in
    let size : c.tag_bytes.result - 0 ≡ tag_size v = omega (arith, c.tag_bytes.ensures ∙ ap tag_size c.variant.ensures.answer) in
    let right : take (c.tag_bytes.result - 0) c.tag.new.block ≡ tag_from v first c.args.nonce.now c.args.associated.now c.args.sealed.now =
    tag_held v c.tag.new.block (enciphered_block v first (tag_sum v first c.args.nonce.now c.args.associated.now c.args.sealed.now) 0 0) (c.tag_bytes.result - 0) size c.tag.ensures.block in
    search rules
