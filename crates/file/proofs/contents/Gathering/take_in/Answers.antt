use Rattle.std.proofs.Common.{ap, ◌∙◌}
use Rattle.file.specs.Contents.{sale_of_items}
use Rattle.file.specs.steps.Contents.{sale_so_far}
use Rattle.file.specs.Form.{item}
use Rattle.file.specs.Reader.{item_of}
use Rattle.file.proofs.Takes.{bidder_gathers}
use Rattle.file.proofs.contents.Gathering.take_in.Goals as goal

pub returns-in-Lot-clause-gathers : goal.returns-in-Lot-clause-gathers
unfolding sale_of_items
returns-in-Lot-clause-gathers c is = ap (λ l. sale_of_items (sale_so_far c.args.self.now) (item (item_of l) is)) c.in-Lot.is

pub returns-in-Bidder-clause-gathers : goal.returns-in-Bidder-clause-gathers
unfolding sale_of_items
returns-in-Bidder-clause-gathers c is =
    ap (λ l. sale_of_items (sale_so_far c.args.self.now) (item (item_of l) is)) c.in-Bidder.is
    ∙ bidder_gathers _ _ (sale_so_far c.args.self.now) _ _ c.enroll.ensures.answer c.enroll.ensures.register is

pub returns-in-Envelope-clause-gathers : goal.returns-in-Envelope-clause-gathers
unfolding sale_of_items
returns-in-Envelope-clause-gathers c is = ap (λ l. sale_of_items (sale_so_far c.args.self.now) (item (item_of l) is)) c.in-Envelope.is
