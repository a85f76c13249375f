use Rattle.std.proofs.Common.{false, ap, ◌∙◌, rules}
use Rattle.binary.proofs.MadeLaws.{made_from_fn}
use Rattle.binary.specs.Bits.{bit_of, bits, list_from_fn}
use Rattle.engine.proofs.bits.unpack.Goals as goal

pub returns : goal.returns
unfolding bits
returns g c =
    made_from_fn _ _ (bit_of c.args.block.now) g.row.BITS false _ (λ i y q l called. search rules) c.from_fn.ensures.items
    ∙ ap (λ n. list_from_fn n (bit_of c.args.block.now)) c.requires
