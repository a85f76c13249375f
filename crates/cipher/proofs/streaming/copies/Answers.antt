use Rattle.std.proofs.Common.{◌≡◌, ◌+◌, ◌*◌, ◌≤◌, length, take, refl, sym, ap, ◌∙◌, arith}
use Rattle.cipher.specs.Blocks.{stream}
use Rattle.cipher.proofs.StreamLaws.{laid_none, laid_more, rows}
use Rattle.cipher.proofs.RoomLaws.{laid_front}
use Rattle.cipher.proofs.streaming.copies.Goals as goal

pub loop-q-init : goal.loop-q-init
loop-q-init c = laid_none (λ _. c.args.block.now) (length c.args.block.now) c.args.blocks.now

pub loop-q-preserved : goal.loop-q-preserved
loop-q-preserved c =
    let x = c.args.block.now in
    let q = c.loop-q.q in
    let fits : q * length x + length x ≤ length c.args.blocks.now = omega (arith, rows q 4 (length x) (omega arith)) in
    laid_more (λ _. x) (length x) q c.args.blocks.now c.loop-q.blocks c.copy_from_slice.new.self (λ _. refl) fits c.loop-q.invariant c.copy_from_slice.ensures.after

pub returns : goal.returns
returns c =
    let x = c.args.block.now in
    let end : c.loop-q.q ≡ 4 = omega arith in
    ap (λ k. take (k * length x) c.loop-q.blocks) (sym end) ∙ laid_front (λ _. x) (length x) c.loop-q.q c.args.blocks.now c.loop-q.blocks (λ _. refl) c.loop-q.invariant
    ∙ ap (λ k. stream (λ _. x) k 0) end
