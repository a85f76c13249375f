use Rattle.std.proofs.Common.{◌≡◌, ◌<◌, ◌-◌, ◌*◌, ◌++◌, length, take, Ok, Result}
use Rattle.engine.specs.Permutation.{permutation}
use Rattle.engine.specs.declared.faults.EngineFault.{EngineFault}
use Rattle.vectors.specs.Published.{sponge_output, at_22_bytes}
use Rattle.vectors.proofs.published.squeeze.Given as goal

abbrev pub invariant-loop-k : goal.invariant-loop-k
invariant-loop-k g l =
    let v = g.E.Engine.kind l.engine in
    let r : Result (Unit {0}) EngineFault = Ok tt in
    (take (2 * l.k) l.digest ++ sponge_output (permutation v) (10 - l.k) l.state ≡ sponge_output (permutation v) 10 l.fn.state)
    × (length l.state ≡ 22) × (length l.digest ≡ 20) × (0 < l.k → at_22_bytes v tt ≡ r)
