use Rattle.std.proofs.Common.{◌≡◌, length}
use Rattle.engine.specs.Permutation.{permutation}
use Rattle.vectors.specs.Published.{sponge_state}
use Rattle.vectors.proofs.published.absorb_all.Given as goal

abbrev pub invariant-loop-rest : goal.invariant-loop-rest
invariant-loop-rest g l = let f = permutation (g.E.Engine.kind l.engine) in
    sponge_state f l.state l.rest ≡ sponge_state f l.fn.state l.fn.message × (length l.state ≡ 22)

abbrev pub decreases-loop-rest : goal.decreases-loop-rest
decreases-loop-rest g l = length l.rest
