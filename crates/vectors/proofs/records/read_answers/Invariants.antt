use Rattle.std.proofs.Common.{◌≡◌, map}
use Rattle.std.specs.List.{filter_map}
use Rattle.std.specs.Result.{result_ok, result_err}
use Rattle.vectors.specs.Views.{known_answer}
use Rattle.vectors.proofs.Groups.{said_by}
use Rattle.vectors.proofs.records.read_answers.Given as goal

abbrev pub invariant-loop-group : goal.invariant-loop-group
invariant-loop-group l =
    (map known_answer l.answers.records.items ≡ filter_map result_ok (said_by l.variant l.yielded))
    × (l.answers.faults.items ≡ filter_map result_err (said_by l.variant l.yielded))
