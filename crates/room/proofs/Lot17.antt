-- The page of lot 17: rooms print it, and there are such rooms.
use Rattle.std.proofs.Common.{◌≡◌, zero, suc, List, [], ◌∷◌, map, refl, ap, ◌∙◌, arith}
use Rattle.std.specs.List.Sorted.{IsStrictlyIncreasing}
use Rattle.std.specs.Fmt.{digits}
use Rattle.engine.specs.declared.variants.Variant.{Variant}
use Rattle.room.specs.Page.{names, line, page}
use Rattle.room.specs.Sales.{Bytes}
use Rattle.room.specs.Runs.{History, Prints}
use Rattle.room.specs.Lot17.{page_17, IsRoomOfLot17, RoomOfLot17, PageOfLot17}
use Rattle.room.specs.declared.sheet.SheetEntry.{SheetEntry}
use Rattle.room.proofs.Standings.{above_0, AmountsStand, page_above_0}
use Rattle.room.proofs.RoomsWith.{CanStand, room_with}

-- The amounts of the bidders.
abbrev amounts_17 : List SheetEntry
amounts_17 =
    record { bidder = 3; amount = 250000 } ∷ record { bidder = 5; amount = 250000 } ∷ record { bidder = 8; amount = 310000 }
    ∷ record { bidder = 9; amount = 0 } ∷ []

page_text : page 17 (above_0 amounts_17) ≡ page_17
unfolding page names line digits
page_text = refl

lot_17 : (x : History) → IsRoomOfLot17 x → (p : Bytes) → Prints x p → p ≡ page_17
lot_17 x r p h =
    let they_stand : AmountsStand x amounts_17 = record {
      bidders = r.bidders;
      stand = (r.bidder_3, (r.bidder_5, (r.bidder_8, (r.bidder_9, tt))));
    } in
    page_above_0 x r.is_closed amounts_17 they_stand p h ∙ ap (λ lot. page lot (above_0 amounts_17)) r.lot ∙ page_text

in_order : IsStrictlyIncreasing (3 ∷ 5 ∷ 8 ∷ 9 ∷ [])
in_order zero l = omega arith
in_order (suc zero) l = omega arith
in_order (suc (suc zero)) l = omega arith
in_order (suc (suc (suc k))) l = absurd (omega arith)

lawful_amounts : CanStand amounts_17
lawful_amounts = record {
  some = omega arith;
  few = omega arith;
  rising = in_order;
  bidders = (omega arith, (omega arith, (omega arith, (omega arith, tt))));
  affordable = (omega arith, (omega arith, (omega arith, (omega arith, tt))));
}

room_of_lot_17 : (v : Variant) → RoomOfLot17 v
room_of_lot_17 v =
    let r = room_with v 17 [] amounts_17 (omega arith) (omega arith) lawful_amounts in
    record {
      x = r.x;
      of_the_variant = ap (λ s. s.variant) r.of_the_sale;
      of_lot_17 = record {
        is_closed = r.is_closed;
        lot = ap (λ s. s.lot) r.of_the_sale;
        bidders = ap (λ s. map (λ e. e.bidder) s.register) r.of_the_sale ∙ r.bidders;
        bidder_3 = r.listed_stand.0;
        bidder_5 = r.listed_stand.1.0;
        bidder_8 = r.listed_stand.1.1.0;
        bidder_9 = r.listed_stand.1.1.1.0;
      };
    }

pub page_of_lot_17 : PageOfLot17
page_of_lot_17 = record { rooms_of_lot_17_print_it = lot_17; there_are_rooms_of_lot_17 = room_of_lot_17 }
