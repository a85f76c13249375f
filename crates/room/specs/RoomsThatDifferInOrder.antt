-- Rooms that have met the same lodgings in different orders.
use Rattle.std.specs.Prelude.{◌≡◌, ℕ, ◌<◌, ◌↔◌, [], ◌∷◌, ◌≢◌}
use Rattle.engine.specs.declared.variants.Variant.{Variant}
use Rattle.room.specs.Sales.{Lodging, Among, OneToAHead}
use Rattle.room.specs.Runs.{History, IsClosed, lodgings, GenuineIn, Stands, calls_of}

-- Two closed rooms of a variant, alike, in which two different genuine envelopes were lodged in opposite orders: so they have met different lists
-- with the same lodgings. No two of these share a head, and a bidder stands with an amount above 0.
pub record RoomsThatDifferInOrder (v : Variant) : Type 0 where
  pub x : History
  pub y : History
  pub of_the_variant : x.sale.variant ≡ v
  pub x_closed : IsClosed x
  pub y_closed : IsClosed y
  pub alike : x.sale ≡ y.sale
  pub first : Lodging
  pub second : Lodging
  pub two : first.envelope ≢ second.envelope
  pub first_genuine : GenuineIn x first
  pub second_genuine : GenuineIn x second
  pub in_order : lodgings x ≡ first ∷ second ∷ []
  pub in_reverse : lodgings y ≡ second ∷ first ∷ []
  pub lists_differ : calls_of x.meetings ≢ calls_of y.meetings
  pub same_lodgings : (l : Lodging) → Among (lodgings x) l ↔ Among (lodgings y) l
  pub one_to_a_head : OneToAHead x.sale (lodgings x)
  pub bidder : ℕ
  pub amount : ℕ
  pub above_0 : 0 < amount
  pub stands : Stands x bidder amount
