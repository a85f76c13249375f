-- What the slots of a place stand for, and what lodging does to them.
use Rattle.std.specs.Prelude.{◌≡◌, ℕ, ◌<◌, List, [], map, length, replicate, ◌≢◌, slice_index_or}
use Rattle.engine.specs.declared.variants.Variant.{Variant}
use Rattle.envelope.specs.Letters.{letter_bytes}
use Rattle.room.specs.Limits.{most_tag_bytes}
use Rattle.room.specs.Sales.{Bytes}
use Rattle.room.specs.Rooms.{Contents, holding_of}
use Rattle.room.specs.Calls.{sheet_entries}
use Rattle.room.specs.declared.register.RegisterEntry.{RegisterEntry}
use Rattle.room.specs.declared.sheet.SheetEntry.{SheetEntry}
use Rattle.room.specs.declared.slots.Phase.{Phase}
use Rattle.room.specs.declared.slots.Phase.TheVariants.{Closed}
use Rattle.room.specs.declared.slots.Slot.{Slot}

-- The room whose slots in use are these.
abbrev pub room_of : Variant → ℕ → Bytes → Phase → List Slot → Contents
room_of v lot terms p xs =
    record { variant = v; lot = lot; terms = terms; phase = p; holdings = map (holding_of v lot) xs }

-- The slot of a registered bidder from whom nothing was accepted yet.
abbrev pub new_slot : RegisterEntry → Slot
new_slot x = record {
  bidder = x.bidder;
  key = x.key;
  sequence = 0;
  letter = replicate letter_bytes 0;
  tag = replicate most_tag_bytes 0;
}

-- The slot at i is the first one of a bidder, or no slot is.
abbrev pub IsFirst : List Slot → ℕ → ℕ → Type 0
IsFirst xs b i =
    (i < length xs) × ((d : Slot) → (slice_index_or xs i d).bidder ≡ b)
    × ((k : ℕ) (d : Slot) → k < i → (slice_index_or xs k d).bidder ≢ b)

abbrev pub HasNone : List Slot → ℕ → Type 0
HasNone xs b = (k : ℕ) (d : Slot) → k < length xs → (slice_index_or xs k d).bidder ≢ b

-- The sheet of slots: each bidder whose amount is above 0.
abbrev pub sheet_in : Variant → ℕ → Bytes → List Slot → List SheetEntry
sheet_in v lot terms xs = sheet_entries (room_of v lot terms Closed []) (map (holding_of v lot) xs)
