-- What each fault of the envelope layer tells: its number, its layer and its place. A fault of the cipher is held whole.
use Rattle.std.specs.Prelude.{ℕ}
use Rattle.fault.specs.declared.Layer.{Layer}
use Rattle.fault.specs.declared.Layer.TheVariants.{Envelope}
use Rattle.fault.specs.declared.Place.{Place}
use Rattle.fault.specs.declared.Place.TheVariants.{Zero}
use Rattle.cipher.specs.Faults.{fault_number as cipher_number}
use Rattle.envelope.specs.declared.faults.EnvelopeFault.{EnvelopeFault}
use Rattle.envelope.specs.declared.faults.EnvelopeFault.TheVariants.{TermsLength, HeadsSpent, EnvelopeLength, NoteLength, AmountAboveLimit, Cipher}

abbrev pub fault_number : EnvelopeFault → ℕ
fault_number TermsLength = 15
fault_number HeadsSpent = 19
fault_number EnvelopeLength = 8
fault_number NoteLength = 20
fault_number AmountAboveLimit = 21
fault_number (Cipher f) = cipher_number f

abbrev pub fault_layer : EnvelopeFault → Layer
fault_layer f = Envelope

abbrev pub fault_place : EnvelopeFault → Place
fault_place f = Zero
