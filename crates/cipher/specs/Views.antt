-- The program's checked texts and answers as plain values.
use Rattle.std.specs.Prelude.{◌≡◌, ℕ, List, Ok, Err, Result}
use denote.Ref.{Bor}
use Rattle.cipher.specs.Calls.{CheckedText}
use Rattle.cipher.specs.declared.checked.Checked.{Checked}
use Rattle.cipher.specs.declared.faults.CipherFault.{CipherFault}
use Rattle.cipher.specs.declared.sizes.Lawful.{Lawful}

-- A checked text of the program.
abbrev pub text_of : Checked → CheckedText
text_of t = record { variant = t.variant; key = t.key; nonce = t.nonce; sealed = t.sealed.now }

-- The answer of the check of a key, with the key.
abbrev pub key_seen : Result (Bor (List ℕ)) CipherFault → Result (List ℕ) CipherFault
key_seen (Ok k) = Ok k.now
key_seen (Err f) = Err f

-- The answer of the checks of sizes, with key and nonce.
abbrev pub lawful_seen : Result Lawful CipherFault → Result (List ℕ × List ℕ) CipherFault
lawful_seen (Ok l) = Ok (l.key.now, l.nonce.now)
lawful_seen (Err f) = Err f

-- The answer of a check.
abbrev pub check_seen : Result Checked CipherFault → Result CheckedText CipherFault
check_seen (Ok t) = Ok (text_of t)
check_seen (Err f) = Err f

-- The answer of an opening, without the checked text that a refusal gives back.
abbrev pub open_seen : Result (Unit {0}) (CipherFault × Checked) → Result (Unit {0}) CipherFault
open_seen (Ok u) = Ok u
open_seen (Err e) = Err e.0

-- A refused opening gives back the checked text t.
abbrev pub GivesBack : CheckedText → Result (Unit {0}) (CipherFault × Checked) → Type 0
GivesBack t (Ok u) = Unit {0}
GivesBack t (Err e) = text_of e.1 ≡ t
