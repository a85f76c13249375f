-- Slots that rise.
use Rattle.std.specs.Prelude.{List, map}
use Rattle.std.specs.List.Sorted.{IsStrictlyIncreasing}
use Rattle.room.specs.declared.slots.Slot.{Slot}

-- Slots rise by bidder when each has a lower bidder than the next one.
abbrev pub RiseByBidder : List Slot → Type 0
RiseByBidder xs = IsStrictlyIncreasing (map (λ x. x.bidder) xs)
