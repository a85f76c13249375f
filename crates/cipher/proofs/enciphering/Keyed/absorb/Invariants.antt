use Rattle.std.proofs.Common.{◌≡◌, ◌-◌, ◌*◌, ◌%◌, length, drop}
use Rattle.std.specs.Slice.Iter.{chunks_exact_rest, chunks_exact_size}
use Rattle.engine.specs.Permutation.{block_size}
use Rattle.cipher.specs.Blocks.{parts}
use Rattle.cipher.specs.Mode.{with_01, sum_with_parts}
use Rattle.cipher.specs.Groups.{block_in}
use Rattle.cipher.proofs.enciphering.Keyed.absorb.Given as goal

-- What is still to come gives from here what all gives from the start, and it ends in what is no whole chunk.
abbrev pub invariant-loop-part : goal.invariant-loop-part
invariant-loop-part g l = record {
  size : chunks_exact_size l.part-iterator ≡ 4 * block_size (g.E.Engine.kind l.self.engine.now);
  rest : l.rest ≡ drop (length (chunks_exact_rest l.part-iterator) - length (chunks_exact_rest l.part-iterator) % chunks_exact_size l.part-iterator) (chunks_exact_rest l.part-iterator);
  sum : sum_with_parts (g.E.Engine.kind l.self.engine.now) (block_in (g.E.Engine.kind l.self.engine.now) l.running) l.j (parts (block_size (g.E.Engine.kind l.self.engine.now)) (length (with_01 (chunks_exact_rest l.part-iterator)))) 0 (with_01 (chunks_exact_rest l.part-iterator)) (block_in (g.E.Engine.kind l.self.engine.now) l.sum)
      ≡ sum_with_parts (g.E.Engine.kind l.self.engine.now) (block_in (g.E.Engine.kind l.self.engine.now) l.initial.running) l.j (parts (block_size (g.E.Engine.kind l.self.engine.now)) (length (with_01 l.bytes))) 0 (with_01 l.bytes) (block_in (g.E.Engine.kind l.self.engine.now) l.initial.sum);
}
