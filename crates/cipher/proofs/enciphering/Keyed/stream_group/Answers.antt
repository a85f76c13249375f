use Rattle.std.proofs.Common.{◌≡◌, ◌-◌, take, sym, ap, ap₂, ◌∙◌, arith, append-nil}
use Rattle.engine.specs.Permutation.{block_size}
use Rattle.cipher.specs.Blocks.{stream, xor_of, iterate}
use Rattle.cipher.specs.Masks.{phi1}
use Rattle.cipher.specs.Mode.{key_block}
use Rattle.cipher.specs.Groups.{block_in, group}
use Rattle.cipher.proofs.GroupLaws.{group_one}
use Rattle.cipher.proofs.enciphering.Keyed.stream_group.Goals as goal

pub returns-in_ok-key_block-clause-out : goal.returns-in_ok-key_block-clause-out
unfolding stream
returns-in_ok-key_block-clause-out g c =
    let v = g.E.Engine.kind c.args.self.now.engine.now in
    let n = block_size v in
    let part = c.args.part.now in
    let f = key_block v (block_in v c.args.running.now) (block_in v c.args.nonce.now) in
    let wide : c.block_bytes-n.result ≡ n = c.block_bytes-n.ensures ∙ ap block_size c.variant.ensures.answer in
    let cut : c.block_bytes-n.result - 0 ≡ n = omega arith in
    let one : group v part ≡ 1 = group_one v part (omega arith) in
    let block : take (c.block_bytes-n.result - 0) c.key_block.new.block ≡ stream f 1 0 =
    ap (λ m. take m c.key_block.new.block) cut ∙ c.key_block.ensures.block ∙ sym (append-nil (f 0)) in
    c.xor_into-else-part-n.ensures ∙ ap₂ xor_of c.copy_from_slice.ensures.after block ∙ ap (λ k. xor_of part (stream f k 0)) (sym one)

pub returns-in_ok-key_block-clause-running : goal.returns-in_ok-key_block-clause-running
unfolding iterate
returns-in_ok-key_block-clause-running g c =
    let v = g.E.Engine.kind c.args.self.now.engine.now in
    let wide : c.block_bytes-n.result ≡ block_size v = c.block_bytes-n.ensures ∙ ap block_size c.variant.ensures.answer in
    let one : 1 ≡ group v c.args.part.now = sym (group_one v c.args.part.now (omega arith)) in
    c.key_block.ensures.running ∙ ap (λ k. iterate (phi1 v) k (block_in v c.args.running.now)) one
