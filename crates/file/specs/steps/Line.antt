-- What the program makes of a line, as the verdict on it.
use Rattle.std.specs.Prelude.{◌≡◌, true, length, Some, None, Ok, Err, Option, Result, nat_le}
use Rattle.file.specs.Form.{is_key, is_envelope, Item, lot_item, bidder_item, envelope_item, Verdict, refused, passed, said}
use Rattle.file.specs.Reader.{item_of}
use Rattle.file.specs.declared.faults.FileFault.{FileFault}
use Rattle.file.specs.declared.line.Line.{Line}
use Rattle.file.specs.declared.line.Section.{Section}
use Rattle.file.specs.declared.line.Step.{Step}

-- What is made of a line that is admitted: it is passed where it says nothing.
abbrev pub admission_verdict : Option Line → Section → Verdict
admission_verdict None next = passed next
admission_verdict (Some l) next = said (item_of l) next

abbrev pub verdict_of : Result Step FileFault → Verdict
verdict_of (Err f) = refused f
verdict_of (Ok step) = admission_verdict step.said step.next

-- What a line that is admitted says: terms within their limit, and the digits of a key or an envelope.
abbrev pub WellFormed : Item → Type 0
WellFormed (lot_item lot v terms) = nat_le (length terms) 64 ≡ true
WellFormed (bidder_item n b key) = is_key key ≡ true
WellFormed (envelope_item n digits) = is_envelope digits ≡ true
