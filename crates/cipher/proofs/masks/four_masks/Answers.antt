use Rattle.std.proofs.Common.{◌≡◌, ℕ, List, ◌+◌, ◌-◌, ◌*◌, ◌≤◌, length, take, sym, refl, ap, ◌∙◌, arith, rules}
use Rattle.engine.specs.Permutation.{block_size}
use Rattle.cipher.specs.Blocks.{iterate, stream}
use Rattle.cipher.specs.Masks.{phi1, phi2, mask}
use Rattle.cipher.specs.Groups.{block_in}
use Rattle.cipher.proofs.StreamLaws.{repeated_more, laid_none, laid_more, rows}
use Rattle.cipher.proofs.MaskLaws.{mask_length}
use Rattle.cipher.proofs.RoomLaws.{held_length, laid_front, narrow}
use Rattle.cipher.proofs.masks.four_masks.Goals as goal

pub loop-q-init : goal.loop-q-init
unfolding iterate
loop-q-init c = record { running = refl; masks = laid_none (λ q. mask c.args.variant (block_in c.args.variant c.args.running.now) q c.args.j) c.block_bytes-n.result c.args.masks.now }

pub loop-q-preserved : goal.loop-q-preserved
unfolding mask iterate
loop-q-preserved c =
    let v = c.args.variant in
    let first = block_in v c.args.running.now in
    let n = c.block_bytes-n.result in
    let q = c.loop-q.q in
    let wide : n ≡ block_size v = c.block_bytes-n.ensures in
    let fits : q * n + n ≤ length c.args.masks.now = omega (arith, rows q 4 n (omega arith), narrow v) in
    let long : length first ≡ block_size v = held_length v c.args.running.now (search rules) in
    let cut : n - 0 ≡ block_size v = omega arith in
    record {
      running = c.phi1.ensures ∙ ap (phi1 v) c.loop-q.invariant.running ∙ repeated_more (phi1 v) q first;
      masks =
          laid_more (λ q. mask v first q c.args.j) n q c.args.masks.now c.loop-q.masks c.copy_from_slice.new.self
          (λ k. mask_length v first k c.args.j long ∙ sym wide) fits c.loop-q.invariant.masks
          (c.copy_from_slice.ensures.after ∙ ap (λ m. take m c.mask.result) cut ∙ c.mask.ensures ∙ ap (iterate (phi2 v) c.args.j) c.loop-q.invariant.running);
    }

pub returns-clause-masks : goal.returns-clause-masks
returns-clause-masks c =
    let v = c.args.variant in
    let first = block_in v c.args.running.now in
    let n = c.block_bytes-n.result in
    let end : c.loop-q.q ≡ 4 = omega arith in
    let wide : block_size v ≡ n = sym c.block_bytes-n.ensures in
    let long : length first ≡ block_size v = held_length v c.args.running.now (search rules) in
    let f : ℕ → List ℕ = λ q. mask v first q c.args.j in
    ap (λ m. take (4 * m) c.loop-q.masks) wide ∙ ap (λ k. take (k * n) c.loop-q.masks) (sym end)
    ∙ laid_front f n c.loop-q.q c.args.masks.now c.loop-q.masks (λ k. mask_length v first k c.args.j long ∙ wide) c.loop-q.invariant.masks
    ∙ ap (λ k. stream f k 0) end
