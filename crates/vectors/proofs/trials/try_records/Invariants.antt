use Rattle.std.proofs.Common.{◌≡◌, ◌++◌, map, drop}
use Rattle.vectors.specs.KnownAnswers.{agreement, sample, disagreeing_numbers}
use Rattle.vectors.specs.Views.{known_answer}
use Rattle.vectors.proofs.trials.try_records.Given as goal

abbrev pub invariant-loop-known : goal.invariant-loop-known
invariant-loop-known g l =
    let v = g.E.Engine.kind l.engine in
    let answers = map known_answer l.records in
    let rest = sample l.step l.few (drop l.known-index answers) in
    (l.outcomes.items ++ map (agreement v) rest ≡ map (agreement v) (sample l.step 0 answers))
    × (l.disagreeing.items ++ disagreeing_numbers v rest ≡ disagreeing_numbers v (sample l.step 0 answers))
