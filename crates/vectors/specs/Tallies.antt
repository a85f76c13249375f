-- Counts of trials.
use Rattle.std.specs.Prelude.{Bool, List, length, count_by}
use Rattle.vectors.specs.declared.tallies.Tally.{Tally}

-- How many trials there are, and how many of them agreed.
abbrev pub tally : List Bool → Tally
tally trials = record { tried = length trials; agreed = count_by (λ agreed. agreed) trials }
