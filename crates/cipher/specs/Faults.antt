-- What each fault of the cipher tells: its number, its layer and its place. A fault of an engine is held whole.
use Rattle.std.specs.Prelude.{ℕ}
use Rattle.fault.specs.declared.Layer.{Layer}
use Rattle.fault.specs.declared.Layer.TheVariants.{Cipher}
use Rattle.fault.specs.declared.Place.{Place}
use Rattle.fault.specs.declared.Place.TheVariants.{Zero}
use Rattle.engine.specs.Faults.{fault_number as engine_number}
use Rattle.cipher.specs.declared.faults.CipherFault.{CipherFault}
use Rattle.cipher.specs.declared.faults.CipherFault.TheVariants.{KeyLength, NonceLength, AssociatedDataLength, TextLength, TagLength, OutputLength, WrongTag, Engine}

abbrev pub fault_number : CipherFault → ℕ
fault_number KeyLength = 1
fault_number NonceLength = 2
fault_number AssociatedDataLength = 3
fault_number TextLength = 4
fault_number TagLength = 5
fault_number OutputLength = 6
fault_number WrongTag = 7
fault_number (Engine f) = engine_number f

abbrev pub fault_layer : CipherFault → Layer
fault_layer f = Cipher

abbrev pub fault_place : CipherFault → Place
fault_place f = Zero
