use Rattle.std.proofs.Common.{refl}
use Rattle.file.proofs.Through.{through_other, through_envelope}
use Rattle.file.proofs.sale.lodge_said.Goals as goal

pub returns-in_ok-lodge_line : goal.returns-in_ok-lodge_line
returns-in_ok-lodge_line g c =
    let h = c.in_ok-lodge_line.ensures in
    (through_envelope _ _ _ _ _ c.args.said _ _ c.in-Envelope.is h.0, h.1, h.2)

pub returns-in_default : goal.returns-in_default
returns-in_default g c = (through_other _ _ _ c.args.said c.in_default.not-Envelope, refl, refl)
