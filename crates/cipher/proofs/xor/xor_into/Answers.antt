use Rattle.std.proofs.Common.{◌≡◌, ◌-◌, ◌<◌, get_or, take, set, sym, ap, ◌∙◌, add-one, arith}
use lib.Bits.{bit_xor}
use Rattle.std.proofs.lemmas.List.{get_or-take, length-take}
use Rattle.cipher.proofs.XorLaws.{xored_nil, xored_more, xored_all}
use Rattle.cipher.proofs.xor.xor_into.Goals as goal

pub loop-k-init : goal.loop-k-init
loop-k-init c = sym (xored_nil c.args.target.now)

pub loop-k-preserved : goal.loop-k-preserved
loop-k-preserved c =
    let k = c.loop-k.k in
    let s = c.args.source.now in
    let n = c.min-n.result in
    let few : k < n = omega (arith, length-take (n - 0) s) in
    let e : get_or (take (n - 0) s) k 0 ≡ get_or s k 0 = get_or-take (n - 0) s k 0 (omega arith) in
    ap (λ z. set c.loop-k.target k (bit_xor (get_or c.loop-k.target k 0) z)) e
    ∙ rw add-one (ap (λ z. set z k (bit_xor (get_or z k 0) (get_or s k 0))) c.loop-k.invariant ∙ xored_more k c.args.target.now s (omega arith) (omega arith))

pub returns : goal.returns
returns c = c.loop-k.invariant ∙ xored_all c.loop-k.k c.args.target.now c.args.source.now (omega (arith, length-take (c.min-n.result - 0) c.args.source.now))
