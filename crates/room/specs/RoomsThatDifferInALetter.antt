-- Rooms that have met the same but for a letter, and print different pages.
use Rattle.std.specs.Prelude.{◌≡◌, ◌≢◌}
use Rattle.std.specs.List.{AllZip}
use Rattle.engine.specs.declared.variants.Variant.{Variant}
use Rattle.room.specs.Sales.{Bytes}
use Rattle.room.specs.Sealings.{SameButForALetter}
use Rattle.room.specs.Runs.{History, IsClosed, Prints, calls_of}

-- Two closed rooms of a variant, alike, that have met lists which differ only in sealed letters, and that print different pages.
pub record RoomsThatDifferInALetter (v : Variant) : Type 0 where
  pub x : History
  pub y : History
  pub of_the_variant : x.sale.variant ≡ v
  pub x_closed : IsClosed x
  pub y_closed : IsClosed y
  pub alike : x.sale ≡ y.sale
  pub only_letters_differ :
      AllZip (SameButForALetter x.sale) (calls_of x.meetings) (calls_of y.meetings)
  pub pages_differ : (p q : Bytes) → Prints x p → Prints y q → p ≢ q
