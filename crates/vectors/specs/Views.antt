-- The program's records as plain values.
use Rattle.std.specs.Prelude.{◌≡◌, ◌⊎◌, ℕ, List, map, Ok, Err, Result}
use denote.Ref.{Bor}
use Rattle.hex.specs.declared.error.FromHexError.{FromHexError}
use Rattle.hex.specs.declared.error.FromHexError.TheVariants.{InvalidHexCharacter, OddLength, InvalidStringLength, OutOfMemory}
use Rattle.vectors.specs.KnownAnswers.{KnownAnswer}
use Rattle.vectors.specs.Layout.{Readings}
use Rattle.vectors.specs.declared.records.Record.{Record}
use Rattle.vectors.specs.declared.records.Answers.{Answers}
use Rattle.vectors.specs.declared.records.RecordFault.{RecordFault}
use Rattle.vectors.specs.declared.records.RecordFault.TheVariants.{Value, Memory}

-- The known answer that a record holds.
abbrev pub known_answer : Record → KnownAnswer
known_answer r =
    record { number = r.number; key = r.key.items; nonce = r.nonce.items; text = r.text.items; associated = r.associated.items; sealed = r.sealed.items; tag = r.tag.items }

-- What the program read of a file.
abbrev pub readings_seen : Answers → Readings
readings_seen a = record { answers = map known_answer a.records.items; faults = a.faults.items }

-- The texts that are lent.
abbrev pub texts : List (Bor (List ℕ)) → List (List ℕ)
texts ls = map (λ (l : Bor (List ℕ)). l.now) ls

-- The fault of a value that is not written as bytes.
abbrev pub fault_of : FromHexError → RecordFault
fault_of OutOfMemory = Memory
fault_of OddLength = Value
fault_of InvalidStringLength = Value
fault_of (InvalidHexCharacter c i) = Value

-- The program gives what is said, unless memory did not suffice.
abbrev pub IsReading : {A B : Type 0} → (A → B) → Result A RecordFault → Result B RecordFault → Type 0
IsReading view (Ok x) said = said ≡ Ok (view x)
IsReading view (Err f) said = (f ≡ Memory) ⊎ (said ≡ Err f)
