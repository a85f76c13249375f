use Rattle.cipher.proofs.StreamLaws.{Laid}
use Rattle.cipher.proofs.streaming.copies.Given as goal

abbrev pub invariant-loop-q : goal.invariant-loop-q
invariant-loop-q l = Laid (λ _. l.block) l.n l.q l.initial.blocks l.blocks
