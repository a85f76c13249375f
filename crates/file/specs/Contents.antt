-- The contents of a sale file: its lot, variant and terms, its register by rising bidder, and its envelopes with their lines.
use Rattle.std.specs.Prelude.{ℕ, if◌then◌else◌, List, [], ◌∷◌, length, take, Ok, Err, Result, nat_lt}
use Rattle.engine.specs.declared.variants.Variant.{Variant}
use Rattle.engine.specs.declared.variants.Variant.TheVariants.{Dumbo}
use Rattle.list.specs.Insertion.{has_equal, list_with}
use Rattle.list.specs.Order.{by_key}
use Rattle.list.specs.declared.faults.ListFault.{ListFault}
use Rattle.list.specs.declared.faults.ListFault.TheVariants.{EqualEntry, Full}
use Rattle.file.specs.Lines.{most_bytes, lines_in}
use Rattle.file.specs.Hexadecimal.{written_bytes}
use Rattle.file.specs.Form.{Items, end, broken, item, lot_item, bidder_item, envelope_item, items_from}
use Rattle.file.specs.declared.contents.Gathered.{Gathered}
use Rattle.file.specs.declared.faults.FileFault.{FileFault}
use Rattle.file.specs.declared.faults.FileFault.TheVariants.{TooLong, List as ByList}
use Rattle.file.specs.declared.line.Section.TheVariants.{LotNames}
use Rattle.room.specs.Sales.{Bytes, Sale}
use Rattle.room.specs.declared.register.RegisterEntry.{RegisterEntry}

-- An envelope, and the line that it stands in.
pub record Sent : Type 0 where
  pub at : ℕ
  pub envelope : Bytes

-- What a file holds: what its room is made of, and its envelopes.
pub record FileContents : Type 0 where
  pub sale : Sale
  pub envelopes : List Sent

-- The register with one more bidder, at its place in the order: an equal bidder is refused first, then the 65th.
abbrev pub enrolment : RegisterEntry → List RegisterEntry → Result (List RegisterEntry) ListFault
enrolment e register =
    if has_equal (by_key (λ x. x.bidder)) e register then Err EqualEntry
    else if nat_lt (length register) 64 then Ok (list_with (by_key (λ x. x.bidder)) e register)
    else Err Full

-- A sale with other values of the lot, and with another register.
abbrev pub with_lot : ℕ → Variant → Bytes → Sale → Sale
with_lot lot variant terms s = record { variant = variant; lot = lot; terms = terms; register = s.register }

abbrev pub with_register : List RegisterEntry → Sale → Sale
with_register register s = record { variant = s.variant; lot = s.lot; terms = s.terms; register = register }

-- Where a file is refused: why, and the sale that was gathered before.
pub record Refusal : Type 0 where
  pub fault : FileFault
  pub before : Sale

-- What comes of line n's bidder, s being the sale before it: the register goes on, or the list's fault refuses the line.
abbrev pub and_then : ℕ → Sale → Result (List RegisterEntry) ListFault → (List RegisterEntry → Result Sale Refusal)
    → Result Sale Refusal
and_then n s (Ok register) go_on = go_on register
and_then n s (Err f) go_on = Err (record { fault = ByList n f; before = s })

-- The sale that a file's lines say, gathered line by line up to the end or to a line that is refused: s is what was gathered so far.
unfoldable pub sale_of_items : Sale → Items → Result Sale Refusal
sale_of_items s end = Ok s
sale_of_items s (broken f) = Err (record { fault = f; before = s })
sale_of_items s (item (lot_item lot variant terms) is) = sale_of_items (with_lot lot variant terms s) is
sale_of_items s (item (bidder_item n bidder key) is) =
    and_then n s (enrolment (record { bidder = bidder; key = written_bytes key }) s.register)
    (λ register. sale_of_items (with_register register s) is)
sale_of_items s (item (envelope_item n digits) is) = sale_of_items s is

-- What was gathered, read in two ways: the sale or why there is none; and the sale as far as it was gathered.
abbrev pub sale_or_fault : Result Sale Refusal → Result Sale FileFault
sale_or_fault (Ok s) = Ok s
sale_or_fault (Err r) = Err r.fault

abbrev pub sale_left : Result Sale Refusal → Sale
sale_left (Ok s) = s
sale_left (Err r) = r.before

-- The envelopes that a file's lines say.
unfoldable pub envelopes_in : Items → List Sent
envelopes_in end = []
envelopes_in (broken f) = []
envelopes_in (item (lot_item lot variant terms) is) = envelopes_in is
envelopes_in (item (bidder_item n bidder key) is) = envelopes_in is
envelopes_in (item (envelope_item n digits) is) = record { at = n; envelope = written_bytes digits } ∷ envelopes_in is

-- What a file says, from its first line on: one that has too many bytes is refused at once.
abbrev pub items_in : Bytes → Items
items_in file = if nat_lt most_bytes (length file) then broken TooLong else items_from LotNames 1 (lines_in file)

-- Before the first line nothing is known: no bidders, and the other fields are set by the line of the lot, which comes first.
abbrev pub unknown_sale : Sale
unknown_sale = record { variant = Dumbo; lot = 0; terms = []; register = [] }

-- The sale of a file, or the fault of the first line that breaks a rule.
abbrev pub sale_in : Bytes → Result Sale FileFault
sale_in file = sale_or_fault (sale_of_items unknown_sale (items_in file))

-- The bidders enrolled up to the file's end, or up to the line that is refused.
abbrev pub bidders_in : Bytes → List RegisterEntry
bidders_in file = (sale_left (sale_of_items unknown_sale (items_in file))).register

-- A sale with the file's envelopes.
abbrev pub with_envelopes : List Sent → Result Sale FileFault → Result FileContents FileFault
with_envelopes es (Ok s) = Ok (record { sale = s; envelopes = es })
with_envelopes es (Err f) = Err f

-- The contents of a file, or the fault that refuses it.
abbrev pub contents_in : Bytes → Result FileContents FileFault
contents_in file = with_envelopes (envelopes_in (items_in file)) (sale_in file)

-- The sale that was gathered, with its register.
abbrev pub sale_of : Gathered → List RegisterEntry → Sale
sale_of g register = record { variant = g.variant; lot = g.lot; terms = g.terms.now; register = register }

-- The same, the register being in the first of the places.
abbrev pub sale_by : Result Gathered FileFault → List RegisterEntry → Result Sale FileFault
sale_by (Ok g) places = Ok (sale_of g (take g.count places))
sale_by (Err f) places = Err f
