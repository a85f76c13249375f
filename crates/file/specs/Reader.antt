-- What a reader of a sale file gives, and what is left for it to give.
use Rattle.std.specs.Prelude.{◌≡◌, ℕ, ◌<◌, ◌≤◌, length, drop, Some, None, Ok, Err, Option, Result}
use Rattle.file.specs.Form.{Item, lot_item, bidder_item, envelope_item, Items, end, broken, item, items_from}
use Rattle.file.specs.Lines.{Lines, lines_in}
use Rattle.file.specs.declared.faults.FileFault.{FileFault}
use Rattle.file.specs.declared.line.Line.{Line}
use Rattle.file.specs.declared.line.Line.TheVariants.{Lot, Bidder, Envelope}
use Rattle.file.specs.declared.line.Section.{Section}
use Rattle.file.specs.declared.reader.Reader.{Reader}

-- What a line says, borrowed parts as bytes.
abbrev pub item_of : Line → Item
item_of (Lot lot variant terms) = lot_item lot variant terms.now
item_of (Bidder n bidder key) = bidder_item n bidder key.now
item_of (Envelope n digits) = envelope_item n digits.now

abbrev pub item_said : Result Line FileFault → Result Item FileFault
item_said (Ok l) = Ok (item_of l)
item_said (Err f) = Err f

-- What lines say from number n on, where the first must be of a section; or why none of them is read.
abbrev pub items_if : Result Section FileFault → ℕ → Lines → Items
items_if (Ok section) n ls = items_from section n ls
items_if (Err f) n ls = broken f

-- What is left for a reader to give: what the lines say that it has not read yet.
unfoldable pub items_left : Reader → Items
items_left r = items_if r.wants r.line (lines_in r.rest.now)

-- What a reader gave, borrowed parts as bytes.
abbrev pub given_item : Option (Result Line FileFault) → Option (Result Item FileFault)
given_item None = None
given_item (Some r) = Some (item_said r)

-- The first that is left to give, and what is left behind it. A line that is refused stays refused.
abbrev pub first_of : Items → Option (Result Item FileFault)
first_of end = None
first_of (broken f) = Some (Err f)
first_of (item i is) = Some (Ok i)

abbrev pub rest_of : Items → Items
rest_of end = end
rest_of (broken f) = broken f
rest_of (item i is) = is

-- Some of the bytes that were left to read are passed, and the others are left.
abbrev pub Moves : Reader → Reader → Type 0
Moves before after = (k : ℕ) × (0 < k) × (k ≤ length before.rest.now) × (after.rest.now ≡ drop k before.rest.now)

-- A reader that gave a line goes on in the same text, behind that line.
abbrev pub GoesOn : Option (Result Line FileFault) → Reader → Reader → Type 0
GoesOn None before after = Unit {0}
GoesOn (Some (Err f)) before after = Unit {0}
GoesOn (Some (Ok l)) before after = Moves before after

-- What one call of a reader does: it gives the first that was left, leaves the rest, and goes on.
pub record GivesNext (before : Reader) (r : Option (Result Line FileFault)) (after : Reader) : Type 0 where
  pub gives : given_item r ≡ first_of (items_left before)
  pub leaves : items_left after ≡ rest_of (items_left before)
  pub goes_on : GoesOn r before after
