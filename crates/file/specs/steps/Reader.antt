-- One step of a reader: past a line that is as it must be, and not at all where one is refused.
use Rattle.std.specs.Prelude.{◌≡◌, Some, None, Ok, Err, Option, Result}
use Rattle.file.specs.Form.{Items, broken, item}
use Rattle.file.specs.Reader.{item_of, Moves}
use Rattle.file.specs.declared.faults.FileFault.{FileFault}
use Rattle.file.specs.declared.line.Line.{Line}
use Rattle.file.specs.declared.reader.Reader.{Reader}

-- What was left before a line that was refused, or said nothing, or said something.
abbrev pub items_left_after : Result (Option Line) FileFault → Items → Items
items_left_after (Err f) is = broken f
items_left_after (Ok None) is = is
items_left_after (Ok (Some l)) is = item (item_of l) is

-- A reader that refuses a line stays where it is, and moves otherwise.
abbrev pub Steps : Result (Option Line) FileFault → Reader → Reader → Type 0
Steps (Err f) before after = after ≡ before
Steps (Ok said) before after = Moves before after
