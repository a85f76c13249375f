use Rattle.std.proofs.Common.{◌≡◌, ap, ap₂, ◌∙◌}
use Rattle.big_endian.specs.Numbers.{bytes_of}
use Rattle.engine.specs.Permutation.{block_size}
use Rattle.cipher.specs.Blocks.{padded_part}
use Rattle.cipher.specs.Masks.{first_mask}
use Rattle.cipher.specs.Mode.{streamed_text, opened_text}
use Rattle.cipher.specs.Groups.{block_in}
use Rattle.cipher.proofs.Bytes.{bytes_given}
use Rattle.cipher.proofs.checked.Checked.open_by.Goals as goal

pub returns-clause-out : goal.returns-clause-out
unfolding opened_text
returns-clause-out g c =
    let v = g.E.Engine.kind c.args.engine.now in
    let t = c.args.self.now in
    let keyed = c.in_ok-new.field-0 in
    let key : c.to_be_bytes.result ≡ bytes_of 16 t.key = c.to_be_bytes.ensures ∙ bytes_given 16 t.key in
    let nonce : c.put_number.new.out ≡ bytes_of 12 t.nonce = c.put_number.ensures in
    c.stream.ensures.out
    ∙ ap (λ e. streamed_text (g.E.Engine.kind e) (block_in (g.E.Engine.kind e) keyed.first) (padded_part (block_size (g.E.Engine.kind e)) c.put_number.new.out) t.sealed.now) c.in_ok-new.ensures.0
    ∙ ap₂ (λ f m. streamed_text v f (padded_part (block_size v) m) t.sealed.now) (c.in_ok-new.ensures.1 ∙ ap (first_mask v) key) nonce
    ∙ ap (λ w. streamed_text w (first_mask w (bytes_of 16 t.key)) (padded_part (block_size w) (bytes_of 12 t.nonce)) t.sealed.now) c.requires.variant
