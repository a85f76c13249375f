-- Pens: they hand out heads for one lot under its terms, and one counter gives sequences 1, 2, 3 and on for all bidders.
use Rattle.std.specs.Prelude.{◌≡◌, ℕ, ◌+◌, List, [], ◌∷◌, length, Ok, Err, Result, nat_le, nat_lt}
use Rattle.fault.specs.Checks.{decision, by_answer}
use Rattle.envelope.specs.Terms.{most_terms_bytes, bytes_of_terms}
use Rattle.envelope.specs.declared.heads.Head.{Head}
use Rattle.envelope.specs.declared.pens.Pen.{Pen}
use Rattle.envelope.specs.declared.faults.EnvelopeFault.{EnvelopeFault}
use Rattle.envelope.specs.declared.faults.EnvelopeFault.TheVariants.{TermsLength, HeadsSpent}

-- The last sequence that a pen gives.
abbrev pub last_sequence : ℕ
last_sequence = 4294967295

-- A pen as plain values: its lot, its terms, and the last sequence that it gave, 0 at first.
pub record PenState : Type 0 where
  pub lot : ℕ
  pub terms : List ℕ
  pub given : ℕ

abbrev pub pen_state : Pen → PenState
pen_state p = record { lot = p.lot; terms = bytes_of_terms p.terms; given = p.given }

-- Making a pen: terms of at most 64 bytes.
abbrev pub pen_answer : ℕ → List ℕ → Result PenState EnvelopeFault
pen_answer lot terms = decision ((nat_le (length terms) most_terms_bytes, TermsLength) ∷ []) (record { lot = lot; terms = terms; given = 0 })

abbrev pub pen_seen : Result Pen EnvelopeFault → Result PenState EnvelopeFault
pen_seen (Ok p) = Ok (pen_state p)
pen_seen (Err f) = Err f

-- The next head of a pen, and the pen once that is taken.
abbrev pub next_head : Pen → ℕ → Head
next_head p bidder = record { fields = record { lot = p.lot; bidder = bidder; sequence = p.given + 1 }; terms = p.terms }

abbrev pub next_pen : Pen → Pen
next_pen p = record { lot = p.lot; terms = p.terms; given = p.given + 1 }

-- Taking a head: refused once the last sequence is given.
abbrev pub take_answer : Pen → ℕ → Result Head EnvelopeFault
take_answer p bidder = decision ((nat_lt p.given last_sequence, HeadsSpent) ∷ []) (next_head p bidder)

-- What taking a head for a bidder promises of the pen before, the answer and the pen after. A refusal leaves the pen as it was.
pub record Taken (before : Pen) (bidder : ℕ) (answer : Result Head EnvelopeFault) (after : Pen) : Type 0 where
  pub answers : answer ≡ take_answer before bidder
  pub pen_after : after ≡ by_answer answer (next_pen before) before
