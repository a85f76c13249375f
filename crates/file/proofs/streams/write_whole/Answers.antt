use Rattle.std.proofs.Common.{◌≡◌, ℕ, ◌+◌, Option, ◌++◌, take, drop, sym, ap, ◌∙◌, subst}
use Rattle.std.specs.Io.KnownBytes.{Appends}
use Rattle.std.proofs.KnownBytes.{Appends-trans, Appends-kept}
use Rattle.std.proofs.lemmas.List.{drop-drop, take_rest}
use lib.Seq.{take-add}
use Rattle.room.specs.Sales.{Bytes}
use Rattle.file.proofs.streams.write_whole.Goals as goal
use Rattle.file.proofs.streams.write_whole.Goals.{in-Ok, in-Err+else-ne}

-- one more write, that took n bytes
more : (a b c : Option Bytes) (text rest : Bytes) (done n : ℕ) → rest ≡ drop done text → Appends a b (take done text) → Appends b c (take n rest)
    → Appends a c (take (done + n) text)
more a b c text rest done n e so_far wrote =
    subst (Appends a c) (ap (λ l. take done text ++ take n l) e ∙ sym (take-add done n text)) (Appends-trans a b c _ _ so_far wrote)

pub loop-preserved : goal.loop-preserved
loop-preserved g c =
    elim c.match-write.branch [
      | in-Ok w ↦ (c.loop.invariant.0 + w.in-Ok.n, ap (λ r. r.now) w.rest-is ∙ take_rest c.loop.rest.now w.in-Ok.n ∙ ap (drop w.in-Ok.n) c.loop.invariant.1 ∙ drop-drop w.in-Ok.n c.loop.invariant.0 c.args.text.now, more _ _ _ _ _ _ _ c.loop.invariant.1 c.loop.invariant.2 w.in-Ok.ensures.bytes)
      | in-Err+else-ne w ↦ (c.loop.invariant.0, ap (λ r. r.now) w.rest-is ∙ c.loop.invariant.1, Appends-kept _ _ _ _ c.loop.invariant.2 w.in-Err.ensures.bytes)
    ]
