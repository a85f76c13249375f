-- The form of a sale file: which line may follow which, and what each of them says.
use Rattle.std.specs.Prelude.{ℕ, ◌+◌, ◌%◌, Bool, true, false, if◌then◌else◌, ◌&&◌, [], length, Some, None, Ok, Err, codes, Option, Result, ◌==◌, nat_le, nat_lt}
use Rattle.std.specs.Str.{bytes_eq}
use Rattle.engine.specs.declared.variants.Variant.{Variant}
use Rattle.engine.specs.declared.variants.Variant.TheVariants.{Dumbo, Jumbo, Delirium}
use Rattle.room.specs.Sales.{Bytes}
use Rattle.file.specs.Lines.{Lines, finished, torn, line}
use Rattle.file.specs.Fields.{holds_comma, field, behind}
use Rattle.file.specs.Numbers.{number_of}
use Rattle.file.specs.Hexadecimal.{all_hex_digits}
use Rattle.file.specs.declared.faults.FileFault.{FileFault}
use Rattle.file.specs.declared.faults.FileFault.TheVariants.{Form, TermsLength}
use Rattle.file.specs.declared.line.Section.{Section}
use Rattle.file.specs.declared.line.Section.TheVariants.{LotNames, LotValues, LotEnd, BidderNames, FirstBidder, Bidders, EnvelopeNames, Envelopes}

-- What a line says: the lot with its variant and terms; or, at a line's number, a bidder and the digits of its key, or the digits of an envelope.
pub data Item : Type 0 where
  lot_item : ℕ → Variant → Bytes → Item
  bidder_item : ℕ → ℕ → Bytes → Item
  envelope_item : ℕ → Bytes → Item

-- A variant by its name.
abbrev pub variant_of : Bytes → Option Variant
variant_of name =
    if bytes_eq name (codes "dumbo") then Some Dumbo
    else if bytes_eq name (codes "jumbo") then Some Jumbo
    else if bytes_eq name (codes "delirium") then Some Delirium
    else None

-- Line n as the values of the lot: a number, a variant, and the terms from behind the second comma to the line's end, at most 64 bytes.
abbrev pub lot_values : ℕ → Bool → Option ℕ → Option Variant → Bytes → Result Item FileFault
lot_values n true (Some lot) (Some variant) terms =
    if nat_le (length terms) 64 then Ok (lot_item lot variant terms) else Err (TermsLength n)
lot_values n true (Some lot) None terms = Err (Form n)
lot_values n true None variant terms = Err (Form n)
lot_values n false lot variant terms = Err (Form n)

abbrev pub lot_line_item : ℕ → Bytes → Result Item FileFault
lot_line_item n l = lot_values n (holds_comma l && holds_comma (behind l)) (number_of (field l)) (variant_of (field (behind l))) (behind (behind l))

-- Line n as a bidder: a number, and behind the comma 32 hexadecimal digits.
abbrev pub is_key : Bytes → Bool
is_key digits = length digits == 32 && all_hex_digits digits

abbrev pub bidder_values : ℕ → Bool → Option ℕ → Bytes → Result Item FileFault
bidder_values n true (Some bidder) key = if is_key key then Ok (bidder_item n bidder key) else Err (Form n)
bidder_values n true None key = Err (Form n)
bidder_values n false bidder key = Err (Form n)

abbrev pub bidder_line_item : ℕ → Bytes → Result Item FileFault
bidder_line_item n l = bidder_values n (holds_comma l) (number_of (field l)) (behind l)

-- Line n as an envelope: an even number, at least 2, of hexadecimal digits.
abbrev pub is_envelope : Bytes → Bool
is_envelope l = nat_lt 0 (length l) && (length l % 2 == 0 && all_hex_digits l)

abbrev pub envelope_line_item : ℕ → Bytes → Result Item FileFault
envelope_line_item n l = if is_envelope l then Ok (envelope_item n l) else Err (Form n)

-- What becomes of a line: it is refused, or it is as it must be and says nothing, or it says something; and what must follow it.
pub data Verdict : Type 0 where
  refused : FileFault → Verdict
  passed : Section → Verdict
  said : Item → Section → Verdict

-- A line that must have one text.
abbrev pub line_must_be : Bytes → Section → ℕ → Bytes → Verdict
line_must_be text next n l = if bytes_eq l text then passed next else refused (Form n)

-- A line that must say something.
abbrev pub line_must_say : Result Item FileFault → Section → Verdict
line_must_say (Ok item) next = said item next
line_must_say (Err f) next = refused f

-- The lines in their order: the names of the lot's values and these, an empty line, the names of a bidder's values, one or more bidders, an
-- empty line, the name of the envelopes, and these.
abbrev pub verdict_on : Section → ℕ → Bytes → Verdict
verdict_on LotNames n l = line_must_be (codes "lot,variant,terms") LotValues n l
verdict_on LotValues n l = line_must_say (lot_line_item n l) LotEnd
verdict_on LotEnd n l = line_must_be [] BidderNames n l
verdict_on BidderNames n l = line_must_be (codes "bidder,key") FirstBidder n l
verdict_on FirstBidder n l = line_must_say (bidder_line_item n l) Bidders
verdict_on Bidders n l = if bytes_eq l [] then passed EnvelopeNames else line_must_say (bidder_line_item n l) Bidders
verdict_on EnvelopeNames n l = line_must_be (codes "envelope") Envelopes n l
verdict_on Envelopes n l = line_must_say (envelope_line_item n l) Envelopes

-- What a file says, line by line, up to its end or to the first line that is refused.
pub data Items : Type 0 where
  end : Items
  broken : FileFault → Items
  item : Item → Items → Items

-- What a file says from a line on, by what is judged of the line.
abbrev pub after_verdict : Verdict → (Section → Items) → Items
after_verdict (refused f) go_on = broken f
after_verdict (passed next) go_on = go_on next
after_verdict (said i next) go_on = item i (go_on next)

-- A file may end where an envelope could follow.
abbrev pub at_the_end : Section → ℕ → Items
at_the_end LotNames n = broken (Form n)
at_the_end LotValues n = broken (Form n)
at_the_end LotEnd n = broken (Form n)
at_the_end BidderNames n = broken (Form n)
at_the_end FirstBidder n = broken (Form n)
at_the_end Bidders n = broken (Form n)
at_the_end EnvelopeNames n = broken (Form n)
at_the_end Envelopes n = end

-- The lines from number n on are judged one after the other. A line that is missing, or not ended by byte 10, breaks the form.
unfoldable pub items_from : Section → ℕ → Lines → Items
items_from section n finished = at_the_end section n
items_from section n torn = broken (Form n)
items_from section n (line l ls) = after_verdict (verdict_on section n l) (λ next. items_from next (n + 1) ls)
