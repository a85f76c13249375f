use Rattle.std.proofs.Common.{◌≡◌, ℕ, ◌++◌, length, List, ap, arith, rules}
use Rattle.cipher.specs.Mode.{tag_size, tag, sealed_text}
use Rattle.envelope.proofs.BidLaws.{sealing_leaves, enveloped_parts}
use Rattle.envelope.proofs.bids.put_envelope.Goals as goal

pub returns-clause-place : goal.returns-clause-place
returns-clause-place g c =
    let v = g.E.Engine.kind c.args.engine.now in
    let key = c.args.key.now in
    let nonce = c.args.nonce.now in
    let terms = c.args.terms.now in
    let letter = c.args.letter.now in
    let out = c.split_at_mut-sealed.result.0.now in
    let place = c.split_at_mut-sealed.result.1.now in
    let sealed : List ℕ = sealed_text v key nonce letter in
    let ln : length nonce ≡ 12 = search rules in
    let ll : length letter ≡ 64 = search rules in
    let lo : length out ≡ 64 = c.split_at_mut-sealed.ensures.front_len in
    let lp : length place ≡ tag_size v = omega (arith, c.split_at_mut-head.ensures.back_len, c.split_at_mut-sealed.ensures.back_len, c.requires.place) in
    enveloped_parts v key terms nonce letter c.seal.new.out c.seal.new.tag _ (ap (λ h. h ++ (c.seal.new.out ++ c.seal.new.tag)) c.copy_from_slice.ensures.after)
    (sealing_leaves v key nonce terms letter out place c.seal.new.out sealed out c.seal.result c.seal.ensures.answer c.seal.ensures.out
    c.requires.key ln c.requires.terms ll lo lp)
    (sealing_leaves v key nonce terms letter out place c.seal.new.tag (tag v key nonce terms sealed) place c.seal.result c.seal.ensures.answer c.seal.ensures.tag
    c.requires.key ln c.requires.terms ll lo lp)
