-- The page: the line of names, then the line of each row, every line closed by byte 10.
use Rattle.std.specs.Prelude.{ℕ, List, [], ◌∷◌, ◌++◌, map, codes, decimal}
use Rattle.std.specs.List.{flat_map}
use Rattle.room.specs.declared.printing.Row.{Row}
use Rattle.room.specs.declared.sheet.SheetEntry.{SheetEntry}

-- The line of names: lot,bidder,amount.
unfoldable pub names : List ℕ
names = codes "lot,bidder,amount\n"

-- What the line of a sheet entry says, and the rows of a sheet, one for each entry.
abbrev pub row_of : ℕ → SheetEntry → Row
row_of lot x = record { lot = lot; bidder = x.bidder; amount = x.amount }

abbrev pub rows : ℕ → List SheetEntry → List Row
rows lot sheet = map (row_of lot) sheet

-- The line of a row: lot, bidder and amount in decimal digits without leading zeros, with commas between them.
unfoldable pub line : Row → List ℕ
line r = decimal r.lot ++ (44 ∷ (decimal r.bidder ++ (44 ∷ (decimal r.amount ++ (10 ∷ [])))))

-- The page of a lot and a sheet.
unfoldable pub page : ℕ → List SheetEntry → List ℕ
page lot sheet = names ++ flat_map line (rows lot sheet)
