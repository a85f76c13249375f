use Rattle.std.proofs.Common.{◌≡◌, false, length, sym, ap, ◌∙◌, rules}
use Rattle.binary.proofs.MadeLaws.{made_from_fn}
use Rattle.binary.specs.Bits.{list_from_fn}
use Rattle.engine.proofs.bits.apply.Goals as goal

pub returns : goal.returns
returns g c =
    let long : length c.args.old.now ≡ g.row.BITS = search rules in
    let rule = g.L.BitLayer.rule c.args.layer.now c.args.old.now in
    made_from_fn _ _ rule g.row.BITS false _ (λ i y q l called. search rules) c.from_fn.ensures.items ∙ ap (λ n. list_from_fn n rule) (sym long)
