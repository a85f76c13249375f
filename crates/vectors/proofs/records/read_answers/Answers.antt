use Rattle.std.proofs.Common.{◌≡◌, ℕ, ◌<◌, eqb, List, length, map, ap, ap₂, ◌∙◌, rules, tests}
use denote.Ref.{Bor}
use Rattle.std.specs.List.{filter_map, slice_split}
use Rattle.std.specs.Result.{result_ok, result_err}
use Rattle.std.specs.Str.Lines.{lines}
use Rattle.std.proofs.lemmas.Iterator.Consumers.{map_from_collect}
use Rattle.std.proofs.lemmas.Iterator.Splits.{YieldsList-from_lines}
use Rattle.std.proofs.lemmas.Result.{IfOk-at_ok}
use Rattle.vectors.specs.KnownAnswers.{KnownAnswer}
use Rattle.vectors.specs.Layout.{Readings}
use Rattle.vectors.specs.Views.{texts}
use Rattle.vectors.specs.declared.records.RecordFault.{RecordFault}
use Rattle.vectors.proofs.Groups.{Group, split_end, said_by-all, said-more}
use Rattle.vectors.proofs.records.read_answers.Goals as goal

pub loop-group-preserved-in-Continue-branch-2 : goal.loop-group-preserved-in-Continue-branch-2
loop-group-preserved-in-Continue-branch-2 c =
    let gs = c.loop-group.yielded in
    let g = c.in-Some.group in
    let some : 0 < length g.now = search rules in (
      said-more (result_ok {T = KnownAnswer} {E = RecordFault}) c.args.variant _ _ gs g c.loop-group.invariant.0 some c.in_ok-take.ensures.answers,
      said-more (result_err {T = KnownAnswer} {E = RecordFault}) c.args.variant _ _ gs g c.loop-group.invariant.1 some c.in_ok-take.ensures.faults,
    )

pub returns : goal.returns
returns c =
    let text = c.args.text.now in
    let items = c.in_ok-lines.lines.items in
    let whole : texts items ≡ lines text = IfOk-at_ok _ c.in_ok-lines.was (map_from_collect _ c.collect.ensures.ran (YieldsList-from_lines text c.lines.ensures.rest)) in
    let all : map (λ (group : Group). group.now) c.loop-group.yielded ≡ slice_split (λ (l : Bor (List ℕ)). eqb (length l.now) 0) items =
    split_end c.into_iter-group-iterator.result c.loop-group.group-iterator c.next.new.self c.split-group-items.result c.next.result c.loop-group.yielded (λ (l : Bor (List ℕ)). eqb (length l.now) 0) _ items
    c.loop-group.yielded_by c.in-None.is c.next.ensures.steps c.into_iter-group-iterator.ensures.into_iter_gives
    (c.split-group-items.ensures.rest ∙ c.deref.ensures.value) c.split-group-items.ensures.done c.split-group-items.ensures.closure (λ x r q k. search (rules, tests)) in
    let said = said_by-all c.args.variant text items c.loop-group.yielded whole all in
    let made : List KnownAnswer → List RecordFault → Readings = λ a f. record { answers = a; faults = f } in
    ap₂ made
    (c.loop-group.invariant.0 ∙ ap (filter_map (result_ok {T = KnownAnswer} {E = RecordFault})) said)
    (c.loop-group.invariant.1 ∙ ap (filter_map (result_err {T = KnownAnswer} {E = RecordFault})) said)
