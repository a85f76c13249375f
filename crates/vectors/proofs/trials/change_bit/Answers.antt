use Rattle.std.proofs.Common.{sym, arith, eqb-true}
use Rattle.std.proofs.lemmas.List.{set_past}
use Rattle.vectors.proofs.trials.change_bit.Goals as goal

-- An empty slice has no place to change.
pub returns-then-is_empty : goal.returns-then-is_empty
returns-then-is_empty c =
    sym (set_past c.args.bytes.now _ _ (omega (arith, eqb-true _ _ (sym c.if-is_empty.ensures))))
