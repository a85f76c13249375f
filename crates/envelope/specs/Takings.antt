-- What a pen gives over any list of takings, granted or refused.
use Rattle.std.specs.Prelude.{◌≡◌, ℕ, List, [], ◌∷◌, Ok, Err, Result, ◌≢◌}
use Rattle.std.specs.List.{AllByRecursion}
use Rattle.envelope.specs.Heads.{head}
use Rattle.envelope.specs.Pens.{pen_state, Taken}
use Rattle.envelope.specs.declared.heads.Head.{Head}
use Rattle.envelope.specs.declared.pens.Pen.{Pen}
use Rattle.envelope.specs.declared.faults.EnvelopeFault.{EnvelopeFault}

-- A pen just made for a lot and terms.
abbrev pub IsNewPen : ℕ → List ℕ → Pen → Type 0
IsNewPen lot terms p = pen_state p ≡ record { lot = lot; terms = terms; given = 0 }

-- Takings from a pen, each from what the one before left, with their answers in order, and the pen that is left at the end.
pub data Takings : Pen → List (Result Head EnvelopeFault) → Pen → Type 0 where
  none : {p : Pen} → Takings p [] p
  more : {p q r : Pen} {bidder : ℕ} {a : Result Head EnvelopeFault} {rest : List (Result Head EnvelopeFault)} → Taken p bidder a q → Takings q rest r → Takings p (a ∷ rest) r

-- The heads among the answers.
abbrev pub heads_given : List (Result Head EnvelopeFault) → List Head
heads_given [] = []
heads_given (Ok h ∷ rest) = h ∷ heads_given rest
heads_given (Err f ∷ rest) = heads_given rest

-- The bytes of a head.
abbrev pub nonce : Head → List ℕ
nonce h = head h.fields.lot h.fields.bidder h.fields.sequence

-- No two of the heads have equal bytes.
abbrev pub NoTwoEqual : List Head → Type 0
NoTwoEqual [] = Unit {0}
NoTwoEqual (h ∷ hs) = AllByRecursion (λ other. nonce h ≢ nonce other) hs × NoTwoEqual hs
