use Rattle.std.proofs.Common.{◌≡◌, ◌+◌, ◌*◌, ◌++◌, length, take}
use Rattle.std.specs.Slice.Iter.{chunks_rest, chunks_size}
use Rattle.engine.specs.Permutation.{block_size}
use Rattle.cipher.specs.Mode.{streamed_text}
use Rattle.cipher.specs.Groups.{block_in}
use Rattle.cipher.proofs.enciphering.Keyed.stream.Given as goal

-- What is written, and then what is left of the text under the key stream from here, is all of it under the key stream.
abbrev pub invariant-loop-part : goal.invariant-loop-part
invariant-loop-part g l = record {
  size : chunks_size l.part-iterator ≡ 4 * block_size (g.E.Engine.kind l.self.engine.now);
  at : l.at + length (chunks_rest l.part-iterator) ≡ length l.text;
  out : take l.at l.out ++ streamed_text (g.E.Engine.kind l.self.engine.now) (block_in (g.E.Engine.kind l.self.engine.now) l.running) (block_in (g.E.Engine.kind l.self.engine.now) l.nonce_block) (chunks_rest l.part-iterator)
      ≡ streamed_text (g.E.Engine.kind l.self.engine.now) (block_in (g.E.Engine.kind l.self.engine.now) l.self.first) (block_in (g.E.Engine.kind l.self.engine.now) l.nonce_block) l.text;
}
