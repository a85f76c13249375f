use Rattle.std.proofs.Common.{◌≡◌, ℕ, ◌*◌, Bool, List, length}
use Rattle.engine.specs.Spongent.{bits_after, counter}
use Rattle.circuit.specs.Planes.{of_block, Holds}
use Rattle.circuit.proofs.rounds.all_rounds.Given as goal

abbrev pub invariant-loop : goal.invariant-loop
invariant-loop g l =
    ((i : ℕ) (bs : List Bool) → length bs ≡ g.S.Spongent.WIDTH * 4 → Holds g.S.Spongent.WIDTH (of_block g.W.Word.at l.initial.q i) bs
    → Holds g.S.Spongent.WIDTH (of_block g.W.Word.at l.q i) (bits_after g.S.Spongent.FIRST l.counter bs))
    × (l.c ≡ counter g.S.Spongent.FIRST l.counter)
