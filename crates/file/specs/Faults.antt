-- What each fault of a sale file tells: its number, its layer, and the line as its place. A fault of the list, the cipher or the room is held whole.
use Rattle.std.specs.Prelude.{ℕ}
use Rattle.fault.specs.declared.Layer.{Layer}
use Rattle.fault.specs.declared.Layer.TheVariants.{File}
use Rattle.fault.specs.declared.Place.{Place}
use Rattle.fault.specs.declared.Place.TheVariants.{Line}
use Rattle.cipher.specs.Faults.{fault_number as cipher_number}
use Rattle.list.specs.Faults.{fault_number as list_number}
use Rattle.room.specs.Faults.{fault_number as room_number}
use Rattle.file.specs.declared.faults.FileFault.{FileFault}
use Rattle.file.specs.declared.faults.FileFault.TheVariants.{TooLong, Form, TermsLength, List, Cipher, Room}

-- 23 for a file that is too long, 22 for a line that breaks the form, 15 for terms that are too long, and what the list says of a bidder. The cipher
-- and the room refuse no file: their faults have a case each so that `?` can pass them up.
abbrev pub fault_number : FileFault → ℕ
fault_number TooLong = 23
fault_number (Form at) = 22
fault_number (TermsLength at) = 15
fault_number (List at cause) = list_number cause
fault_number (Cipher cause) = cipher_number cause
fault_number (Room cause) = room_number cause

abbrev pub fault_layer : FileFault → Layer
fault_layer f = File

-- The line that is refused; a file that is too long is refused at line 0, and so is one that the cipher or the room refused.
abbrev pub line_of : FileFault → ℕ
line_of TooLong = 0
line_of (Form at) = at
line_of (TermsLength at) = at
line_of (List at cause) = at
line_of (Cipher cause) = 0
line_of (Room cause) = 0

abbrev pub fault_place : FileFault → Place
fault_place f = Line (line_of f)
