use Rattle.std.proofs.Common.{Ok, Result, map, rules}
use Rattle.arguments.specs.declared.Notice.{Notice}
use Rattle.arguments.proofs.NoArguments.{told_of_help, told_of_no_word, told_of_stranger}
use Rattle.arguments.proofs.read_no_arguments.Goals as goal

-- a run, as it is answered
abbrev run : Result (Unit {0}) Notice
run = Ok tt

pub returns-in_err-_none-clause-run : goal.returns-in_err-_none-clause-run
returns-in_err-_none-clause-run g c =
    told_of_no_word c.args.name.now (map g.S.AsStr.text c.args.words.now) c.from_residual.result (search rules)

pub returns-in_err-_none-clause-help : goal.returns-in_err-_none-clause-help
returns-in_err-_none-clause-help g c =
    told_of_help c.args.name.now (map g.S.AsStr.text c.args.words.now) c.from_residual.result (search rules)

pub returns-in_err-_none-clause-refusal : goal.returns-in_err-_none-clause-refusal
returns-in_err-_none-clause-refusal g c =
    told_of_stranger c.args.name.now (map g.S.AsStr.text c.args.words.now) c.from_residual.result (search rules)

pub returns-clause-help : goal.returns-clause-help
returns-clause-help g c = told_of_help c.args.name.now (map g.S.AsStr.text c.args.words.now) run (search rules)

pub returns-clause-refusal : goal.returns-clause-refusal
returns-clause-refusal g c = told_of_stranger c.args.name.now (map g.S.AsStr.text c.args.words.now) run (search rules)
