use Rattle.std.proofs.Common.{sym}
use Rattle.file.proofs.sale.hold.Goals as goal

pub hold_by-requires-clause-accepted : goal.hold_by-requires-clause-accepted
hold_by-requires-clause-accepted c = sym c.in_ok-sale.ensures.sale

pub hold_by-requires-in-Jumbo-clause-accepted : goal.hold_by-requires-in-Jumbo-clause-accepted
hold_by-requires-in-Jumbo-clause-accepted c = sym c.in_ok-sale.ensures.sale

pub hold_by-requires-in-Delirium-clause-accepted : goal.hold_by-requires-in-Delirium-clause-accepted
hold_by-requires-in-Delirium-clause-accepted c = sym c.in_ok-sale.ensures.sale
