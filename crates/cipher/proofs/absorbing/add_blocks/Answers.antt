use Rattle.std.proofs.Common.{◌≡◌, ◌*◌, ◌/◌, ◌<◌, length, take, drop, sym, ap, ◌∙◌, one-mul, arith}
use Rattle.std.proofs.lemmas.Nat.{div_below}
use Rattle.std.specs.Slice.Iter.{chunks_exact_rest}
use Rattle.cipher.specs.Blocks.{sum_of_parts}
use Rattle.cipher.proofs.RoomLaws.{summed_rest}
use Rattle.cipher.proofs.absorbing.add_blocks.Goals as goal

pub loop-block-preserved : goal.loop-block-preserved
loop-block-preserved c =
    let n = c.args.n in
    let x = c.in-Some.block.now in
    let left = chunks_exact_rest c.next.new.self in
    let step = c.in-Some.ensures.steps in
    let long : length x ≡ n = step.1.1 ∙ c.loop-block.invariant.size in
    record {
      size = step.0 ∙ c.loop-block.invariant.size;
      sum =
          ap (λ b. sum_of_parts (λ q. take n (drop (q * n) left)) (length left / n) 0 b) c.xor_into.ensures
          ∙ sym (summed_rest n x left c.loop-block.sum c.requires long)
          ∙ ap (λ z. sum_of_parts (λ q. take n (drop (q * n) z)) (length z / n) 0 c.loop-block.sum) (sym step.1.0) ∙ c.loop-block.invariant.sum;
    }

pub returns : goal.returns
unfolding sum_of_parts
returns c =
    let n = c.args.n in
    let left = chunks_exact_rest c.loop-block.block-iterator in
    let few : length left < n = rw c.loop-block.invariant.size at c.in-None.ensures.steps.1.0 in
    let below : length left / n < 1 = div_below (length left) n 1 c.requires (omega (arith, one-mul n)) in
    let none : 0 ≡ length left / n = omega arith in
    ap (λ k. sum_of_parts (λ q. take n (drop (q * n) left)) k 0 c.loop-block.sum) none ∙ c.loop-block.invariant.sum
