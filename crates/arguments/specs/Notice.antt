-- What a program tells in place of a run, by the kind of fault that its words have.
use Rattle.std.specs.Prelude.{◌≡◌, ◌⊎◌, ◌==◌, ℕ, [], ◌∷◌, Result, MatchResult, if◌then◌else◌}
use Rattle.std.specs.Prelude.{Bool, Err, None, Ok, Option, Some, true, false}
use Rattle.clap.specs.Words.{IsAmong, Kinds, Text, kind_of}
use Rattle.clap.specs.declared.error.kind.ErrorKind.{ErrorKind}
use Rattle.clap.specs.declared.error.kind.ErrorKind.TheVariants as kind
use Rattle.arguments.specs.declared.Stream.{Stream}
use Rattle.arguments.specs.declared.Stream.TheVariants.{Output, Errors}
use Rattle.arguments.specs.declared.Notice.{Notice}

-- help or the version was asked for
abbrev pub is_request : ErrorKind → Bool
is_request kind.DisplayHelp = true
is_request kind.DisplayVersion = true
is_request _ = false

-- what kind of fault a notice tells of
abbrev pub fault_told : Notice → ErrorKind
fault_told n = kind_of n.error

-- what was asked for goes to standard output, and anything else to standard error
abbrev pub stream_of : ErrorKind → Stream
stream_of k = if is_request k then Output else Errors

-- status 0 is for what was asked for, and 2 for anything else
abbrev pub status_of : ErrorKind → ℕ
status_of k = if is_request k then 0 else 2

-- a run is made where the words have no fault; a notice tells of a fault that they have, or that memory lacks
abbrev pub TellsFault : {T : Type 0} → Kinds → Result T Notice → Type 0
TellsFault kinds r = MatchResult r (λ _. kinds ≡ [])
    (λ n. (fault_told n ≡ kind.OutOfMemory) ⊎ IsAmong (fault_told n) kinds)

-- a notice tells of this fault, or that memory lacks
abbrev pub Tells : ErrorKind → Notice → Type 0
Tells k n = (fault_told n ≡ kind.OutOfMemory) ⊎ (fault_told n ≡ k)

-- the word begins as an option does, with a hyphen (45)
abbrev pub begins_with_hyphen : Text → Bool
begins_with_hyphen [] = false
begins_with_hyphen (x ∷ xs) = x == 45

-- the status with which a program ends by its arguments, if they end it
abbrev pub status_by : {T : Type 0} → Result T Notice → Option ℕ
status_by (Ok v) = None
status_by (Err n) = Some (status_of (fault_told n))
