use Rattle.std.proofs.Common.{◌≡◌, ◌+◌, ◌-◌, ◌*◌, ◌≤◌, length, take, drop, ap, ◌∙◌, rules}
use Rattle.engine.specs.Permutation.{permutation, block_size}
use Rattle.engine.proofs.BlockLaws.{done_none, done_more}
use Rattle.engine.proofs.CallLaws.{replaced_granted}
use Rattle.engine.proofs.interface.Engine.four.Goals as goal

pub loop-i-init : goal.loop-i-init
loop-i-init g c = done_none (permutation (g.Self.Engine.kind c.args.self.now)) c.block_bytes-n.result c.args.blocks.now

pub loop-i-preserved : goal.loop-i-preserved
loop-i-preserved g c =
    let v = g.Self.Engine.kind c.args.self.now in
    let n = c.block_bytes-n.result in
    let i = c.loop-i.i in
    let part = take (i * n + n - i * n) (drop (i * n) c.loop-i.blocks) in
    let wide : n ≡ block_size v = c.block_bytes-n.ensures ∙ ap block_size c.variant.ensures.answer in
    let within : i * n + n ≤ length c.args.blocks.now = search rules in
    let whole : length part ≡ block_size v = search rules in
    done_more (permutation v) n i c.args.blocks.now c.loop-i.blocks c.one.new.block
    c.loop-i.auto.blocks within c.loop-i.invariant (c.one.ensures.block ∙ replaced_granted (block_size v) (permutation v) part whole)
