-- The rooms of lot 17 in which bidders 3, 5, 8 and 9 stand with certain amounts, and the page that each of them prints.
use Rattle.std.specs.Prelude.{◌≡◌, [], ◌∷◌, map, codes}
use Rattle.engine.specs.declared.variants.Variant.{Variant}
use Rattle.room.specs.Sales.{Bytes}
use Rattle.room.specs.Runs.{History, IsClosed, Stands, Prints}

-- The page of lot 17.
abbrev pub page_17 : Bytes
page_17 = codes "lot,bidder,amount\n17,3,250000\n17,5,250000\n17,8,310000\n"

-- A closed room of lot 17 with bidders 3, 5, 8 and 9, of which 3 and 5 stand with 250000, 8 with 310000, and 9 with 0, as after a withdrawal.
pub record IsRoomOfLot17 (x : History) : Type 0 where
  pub is_closed : IsClosed x
  pub lot : x.sale.lot ≡ 17
  pub bidders : map (λ e. e.bidder) x.sale.register ≡ 3 ∷ 5 ∷ 8 ∷ 9 ∷ []
  pub bidder_3 : Stands x 3 250000
  pub bidder_5 : Stands x 5 250000
  pub bidder_8 : Stands x 8 310000
  pub bidder_9 : Stands x 9 0

-- There is one above an engine of a variant.
pub record RoomOfLot17 (v : Variant) : Type 0 where
  pub x : History
  pub of_the_variant : x.sale.variant ≡ v
  pub of_lot_17 : IsRoomOfLot17 x

pub record PageOfLot17 : Type 0 where
  -- Every such room prints that page and no other, whatever variant, terms and keys it has.
  pub rooms_of_lot_17_print_it :
      (x : History) → IsRoomOfLot17 x → (p : Bytes) → Prints x p → p ≡ page_17
  -- There is such a room of each variant.
  pub there_are_rooms_of_lot_17 : (v : Variant) → RoomOfLot17 v
