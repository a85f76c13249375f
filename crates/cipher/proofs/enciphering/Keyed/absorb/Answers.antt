use Rattle.std.proofs.Common.{◌∙◌}
use Rattle.std.specs.Slice.Iter.{chunks_exact_rest}
use Rattle.cipher.specs.Groups.{block_in}
use Rattle.cipher.proofs.SumLaws.{absorb_turn, rest_turn}
use Rattle.cipher.proofs.enciphering.Keyed.absorb.Goals as goal

pub loop-part-preserved : goal.loop-part-preserved
loop-part-preserved g c =
    let v = g.E.Engine.kind c.args.self.now.engine.now in
    let part = c.in-Some.part.now in
    let text = chunks_exact_rest c.loop-part.part-iterator in
    let left = chunks_exact_rest c.next.new.self in
    let step = c.in-Some.ensures.steps in
    record {
      size = step.0 ∙ c.loop-part.invariant.size;
      rest = rest_turn text part left c.remainder-rest.result.now _ _ step.1.0 step.1.1 step.0 c.loop-part.invariant.rest;
      sum =
          absorb_turn v (block_in v c.loop-part.running) (block_in v c.loop-part.sum) text part left (block_in v c.absorb_group.new.running) (block_in v c.absorb_group.new.sum) c.args.j
          step.1.0 (step.1.1 ∙ c.loop-part.invariant.size) c.absorb_group.ensures.running c.absorb_group.ensures.sum ∙ c.loop-part.invariant.sum;
    }
