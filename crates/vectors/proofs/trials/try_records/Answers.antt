use Rattle.std.proofs.Common.{◌≡◌, ℕ, ◌<◌, length, refl, sym, ap, ◌∙◌, arith, rules}
use Rattle.vectors.specs.KnownAnswers.{KnownAnswer, agreement}
use Rattle.vectors.specs.Tallies.{tally}
use Rattle.vectors.specs.Views.{known_answer}
use Rattle.vectors.proofs.Samples.{rest-pass, rest-try, rest-end, outcomes-kept, outcomes-pushed, outcomes-end, numbers-kept, numbers-passed, numbers-pushed, numbers-end}
use Rattle.vectors.proofs.trials.try_records.Goals as goal
use Rattle.vectors.proofs.trials.try_records.Goals.{then-few-gt0, else-few-gt0+in_ok-agreed+in_ok-push+then-not-agreed+in_ok-push-2, else-few-gt0+in_ok-agreed+in_ok-push+else-not-agreed}

pub loop-known-preserved : goal.loop-known-preserved
loop-known-preserved g c =
    let v = g.E.Engine.kind c.args.engine.now in
    let xs = c.args.records.now in
    let i = c.loop-known.known-index in
    let x = c.known-item.result in
    let number : KnownAnswer → ℕ = λ a. a.number in
    let lt : i < length xs = omega arith in
    elim c.if-few-gt0.branch [
      | then-few-gt0 w ↦
          let rest = rest-pass known_answer xs i c.args.step c.loop-known.few c.if-few-gt0.few x lt c.known-item.is w.if-few-gt0.true w.few-is in (
            outcomes-kept (agreement v) number _ _ _ _ _ rest (search rules) c.loop-known.invariant.0,
            numbers-kept (agreement v) number _ _ _ _ _ rest (search rules) c.loop-known.invariant.1,
          )
      | else-few-gt0+in_ok-agreed+in_ok-push+then-not-agreed+in_ok-push-2 w ↦
          let rest = rest-try known_answer xs i c.args.step c.loop-known.few c.if-few-gt0.few x lt c.known-item.is w.if-few-gt0.false (w.few-is ∙ w.saturating_sub-few.ensures) in
          let is : w.in_ok-agreed.agreed ≡ agreement v (known_answer x) = w.in_ok-agreed.ensures in (
            outcomes-pushed (agreement v) number _ _ _ _ _ (known_answer x) w.in_ok-agreed.agreed rest is (search rules) c.loop-known.invariant.0,
            numbers-pushed (agreement v) number _ _ _ _ _ (known_answer x) _ rest (sym is ∙ w.if-not-agreed.true) refl (search rules) c.loop-known.invariant.1,
          )
      | else-few-gt0+in_ok-agreed+in_ok-push+else-not-agreed w ↦
          let rest = rest-try known_answer xs i c.args.step c.loop-known.few c.if-few-gt0.few x lt c.known-item.is w.if-few-gt0.false (w.few-is ∙ w.saturating_sub-few.ensures) in
          let is : w.in_ok-agreed.agreed ≡ agreement v (known_answer x) = w.in_ok-agreed.ensures in (
            outcomes-pushed (agreement v) number _ _ _ _ _ (known_answer x) w.in_ok-agreed.agreed rest is (search rules) c.loop-known.invariant.0,
            numbers-passed (agreement v) number _ _ _ _ _ (known_answer x) rest (sym is ∙ w.if-not-agreed.false) (search rules) c.loop-known.invariant.1,
          )
    ]

pub returns-clause-tally : goal.returns-clause-tally
returns-clause-tally g c =
    let v = g.E.Engine.kind c.args.engine.now in
    let number : KnownAnswer → ℕ = λ a. a.number in
    let none = rest-end known_answer c.args.records.now c.loop-known.known-index c.args.step c.loop-known.few (omega arith) in
    c.of.ensures ∙ ap tally (c.deref.ensures.value ∙ outcomes-end (agreement v) number _ _ _ none c.loop-known.invariant.0)

pub returns-clause-disagreeing : goal.returns-clause-disagreeing
returns-clause-disagreeing g c =
    let v = g.E.Engine.kind c.args.engine.now in
    let number : KnownAnswer → ℕ = λ a. a.number in
    let none = rest-end known_answer c.args.records.now c.loop-known.known-index c.args.step c.loop-known.few (omega arith) in
    numbers-end (agreement v) number _ _ _ none c.loop-known.invariant.1
