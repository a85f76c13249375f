use Rattle.std.proofs.Common.{◌≡◌, ℕ, ◌+◌, ◌*◌, get_or, sym, ap, ◌∙◌, zero-add, arith, rules}
use Rattle.binary.specs.Bits.{bit}
use Rattle.interleaved.proofs.Weaving.{woven_is, joined, bit_of_joined}
use Rattle.interleaved.proofs.weave.gather.Goals as goal

pub returns : goal.returns
returns c =
    let xs = c.args.blocks.now in
    let g : ℕ → ℕ = λ i. get_or xs (25 * i + c.args.l) 0 in
    let first : c.byte_at.result ≡ g 0 = c.byte_at.ensures ∙ ap (λ p. get_or xs p 0) (sym (zero-add c.args.l)) in
    let whole : c.from_le_bytes.result ≡ joined 4 g = omega (arith, c.from_le_bytes.ensures, first, c.byte_at-2.ensures, c.byte_at-3.ensures, c.byte_at-4.ensures) in
    woven_is g c.from_le_bytes.result c.weave.result (search rules) (λ p h. ap (λ n. bit n p) whole ∙ bit_of_joined 4 g p (λ i. search rules) h) c.weave.ensures
