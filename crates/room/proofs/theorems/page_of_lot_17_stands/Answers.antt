use Rattle.room.proofs.theorems.page_of_lot_17_stands.Goals as goal
use Rattle.room.proofs.Lot17.{page_of_lot_17}

pub returns : goal.returns
returns c = page_of_lot_17
