use Rattle.std.proofs.Common.{◌≡◌, ◌+◌, ◌++◌, [], length, take, replicate, sym, refl, ap, ◌∙◌, append-nil, arith, rules}
use Rattle.std.proofs.lemmas.List.{length-append, nil_from_length, take_all}
use Rattle.std.specs.Slice.Iter.{chunks_rest}
use Rattle.engine.specs.Permutation.{block_size}
use Rattle.cipher.specs.Blocks.{padded_part, xor_of}
use Rattle.cipher.specs.Mode.{streamed_text}
use Rattle.cipher.specs.Groups.{block_in}
use Rattle.cipher.proofs.MaskLaws.{wide_nonce}
use Rattle.cipher.proofs.RoomLaws.{narrow, held_length, padded_held}
use Rattle.cipher.proofs.GroupLaws.{stream_turn}
use Rattle.cipher.proofs.enciphering.Keyed.stream.Goals as goal

pub loop-part-preserved : goal.loop-part-preserved
loop-part-preserved g c =
    let v = g.E.Engine.kind c.args.self.now.engine.now in
    let part = c.in-Some.part.now in
    let left = chunks_rest c.next.new.self in
    let text = chunks_rest c.loop-part.part-iterator in
    let room = c.copy_from_slice.new.self ++ replicate 13 0 in
    let step = c.in-Some.ensures.steps in
    let twelve : length c.copy_from_slice.new.self ≡ 12 = ap length c.copy_from_slice.ensures.after ∙ search rules in
    let long : length room ≡ 25 = length-append c.copy_from_slice.new.self (replicate 13 0) ∙ ap (λ k. k + 13) twelve in
    let size = c.loop-part.invariant.size in
    let all : length text ≡ length part + length left = ap length step.1.0 ∙ length-append part left in
    record {
      size = step.0 ∙ size;
      at = omega (arith, c.loop-part.invariant.at);
      out =
          stream_turn v (block_in v c.loop-part.running) (block_in v c.stream_group.new.running) (block_in v room) text part left c.loop-part.out c.stream_group.new.out _
          c.loop-part.at (length part) _ (held_length v room long) step.1.0 step.1.1 size refl (omega (arith, c.loop-part.invariant.at))
          c.stream_group.ensures.out c.stream_group.ensures.running c.loop-part.invariant.out;
    }

pub returns-clause-out : goal.returns-clause-out
unfolding streamed_text xor_of
returns-clause-out g c =
    let v = g.E.Engine.kind c.args.self.now.engine.now in
    let first = block_in v c.args.self.now.first in
    let room = c.copy_from_slice.new.self ++ replicate 13 0 in
    let out = c.loop-part.out in
    let text = chunks_rest c.loop-part.part-iterator in
    let twelve : length c.args.nonce.now ≡ 12 = search rules in
    let none : length text ≡ 0 = c.in-None.ensures.steps.1.0 in
    let empty : text ≡ [] = nil_from_length text none in
    let nonce : block_in v room ≡ padded_part (block_size v) c.args.nonce.now =
    padded_held v 13 c.args.nonce.now c.copy_from_slice.new.self (omega (arith, wide_nonce v)) (omega (arith, narrow v)) c.copy_from_slice.ensures.after in
    let whole : take c.loop-part.at out ≡ out = take_all c.loop-part.at out (omega (arith, c.loop-part.invariant.at)) in
    sym whole ∙ sym (append-nil (take c.loop-part.at out))
    ∙ ap (λ z. take c.loop-part.at out ++ streamed_text v (block_in v c.loop-part.running) (block_in v room) z) (sym empty)
    ∙ c.loop-part.invariant.out ∙ ap (λ x. streamed_text v first x c.args.text.now) nonce
