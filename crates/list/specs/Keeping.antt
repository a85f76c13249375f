-- What every insertion keeps: the order of the list, and the entries that it had.
use Rattle.std.specs.Prelude.{◌≡◌, ℕ, ◌+◌, ◌⊎◌, List, length, Result, MatchResult}
use Rattle.std.specs.declared.cmp.Ordering.{Ordering}
use Rattle.std.specs.List.{ContainsAt}
use Rattle.list.specs.declared.faults.ListFault.{ListFault}
use Rattle.list.specs.Order.{Rising}

-- If the entries rose before, they rise afterwards.
abbrev pub RisingStaysRising : {X : Type 0} → (X → X → Ordering) → List X → List X → Type 0
RisingStaysRising order before after = Rising order before → Rising order after

-- Afterwards there are the entries from before, all of them, and the new one e, and no others.
pub record GainsOneEntry {X : Type 0} (e : X) (before after : List X) : Type 0 where
  pub every_entry_kept : (x : X) → ContainsAt before x → ContainsAt after x
  pub has_the_new_one : ContainsAt after e
  pub has_no_others : (x : X) → ContainsAt after x → ContainsAt before x ⊎ (e ≡ x)
  pub is_one_longer : length after ≡ length before + 1

-- Where e was to be inserted and r was answered: a grant adds e alone, and a refusal leaves the entries as they were.
abbrev pub KeepsEveryEntry : {X : Type 0} → X → List X → List X → Result ℕ ListFault → Type 0
KeepsEveryEntry e before after r = MatchResult r (λ count. GainsOneEntry e before after) (λ why. after ≡ before)
