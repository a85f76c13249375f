use Rattle.std.proofs.Common.{◌≡◌, ◌-◌, length, sym, ap, ap₂, ◌∙◌, arith, rules}
use Rattle.engine.specs.Permutation.{block_size}
use Rattle.cipher.specs.Blocks.{padded_part}
use Rattle.cipher.specs.Masks.{first_mask}
use Rattle.cipher.specs.Mode.{streamed_text, sealed_text, enciphered_block, tag, tag_from, tag_size, tag_sum}
use Rattle.cipher.specs.Groups.{block_in}
use Rattle.cipher.proofs.Laws.{tag_held}
use Rattle.cipher.proofs.sealing.seal.Goals as goal

pub returns-clause-out : goal.returns-clause-out
unfolding sealed_text
returns-clause-out g c =
    let v = g.E.Engine.kind c.args.engine.now in
    let text = c.args.text.now in
    let keyed = c.in_ok-keyed.keyed in
    let nonce : c.in_ok-lawful.lawful.nonce.now ≡ c.args.nonce.now = search rules in
    let key : c.in_ok-lawful.lawful.key.now ≡ c.args.key.now = search rules in
    c.stream.ensures.out
    ∙ ap (λ e. streamed_text (g.E.Engine.kind e) (block_in (g.E.Engine.kind e) keyed.first) (padded_part (block_size (g.E.Engine.kind e)) c.in_ok-lawful.lawful.nonce.now) text) c.in_ok-keyed.ensures.0
    ∙ ap₂ (λ f m. streamed_text v f (padded_part (block_size v) m) text) (c.in_ok-keyed.ensures.1 ∙ ap (first_mask v) key) nonce

pub returns-clause-tag : goal.returns-clause-tag
unfolding tag tag_from
returns-clause-tag g c =
    let v = g.E.Engine.kind c.args.engine.now in
    let associated = c.args.associated.now in
    let keyed = c.in_ok-keyed.keyed in
    let m = c.in_ok-lawful.lawful.nonce.now in
    let nonce : m ≡ c.args.nonce.now = search rules in
    let key : c.in_ok-lawful.lawful.key.now ≡ c.args.key.now = search rules in
    let size : length c.args.tag.now ≡ tag_size v = search rules in
    let cut : length c.args.tag.now - 0 ≡ tag_size v = omega arith in
    let sealed = returns-clause-out g c in
    let block : block_in v c.tag.new.block ≡ enciphered_block v (first_mask v c.args.key.now) (tag_sum v (first_mask v c.args.key.now) c.args.nonce.now associated (sealed_text v c.args.key.now c.args.nonce.now c.args.text.now)) 0 0 =
    ap (λ e. block_in (g.E.Engine.kind e) c.tag.new.block) (sym c.in_ok-keyed.ensures.0) ∙ c.tag.ensures.block
    ∙ ap (λ e. enciphered_block (g.E.Engine.kind e) (block_in (g.E.Engine.kind e) keyed.first) (tag_sum (g.E.Engine.kind e) (block_in (g.E.Engine.kind e) keyed.first) m associated c.stream.new.out) 0 0) c.in_ok-keyed.ensures.0
    ∙ ap (λ f. enciphered_block v f (tag_sum v f m associated c.stream.new.out) 0 0) (c.in_ok-keyed.ensures.1 ∙ ap (first_mask v) key)
    ∙ ap₂ (λ y s. enciphered_block v (first_mask v c.args.key.now) (tag_sum v (first_mask v c.args.key.now) y associated s) 0 0) nonce sealed in
    c.copy_from_slice.ensures.after ∙ tag_held v c.tag.new.block _ (length c.args.tag.now - 0) cut block
