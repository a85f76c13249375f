use Rattle.std.proofs.Common.{◌≡◌, ◌*◌, ◌/◌, length, take, drop}
use Rattle.std.specs.Slice.Iter.{chunks_exact_rest, chunks_exact_size}
use Rattle.cipher.specs.Blocks.{sum_of_parts}
use Rattle.cipher.proofs.absorbing.add_blocks.Given as goal

abbrev pub invariant-loop-block : goal.invariant-loop-block
invariant-loop-block l = record {
  size : chunks_exact_size l.block-iterator ≡ l.n;
  sum : sum_of_parts (λ q. take l.n (drop (q * l.n) (chunks_exact_rest l.block-iterator))) (length (chunks_exact_rest l.block-iterator) / l.n) 0 l.sum
      ≡ sum_of_parts (λ q. take l.n (drop (q * l.n) l.blocks)) (length l.blocks / l.n) 0 l.initial.sum;
}
