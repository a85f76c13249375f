use Rattle.std.proofs.Common.{ℕ, ◌*◌, List, [], ◌∷◌, length, ◌∙◌, arith}
use Rattle.binary.specs.Bits.{word}
use Rattle.binary.proofs.MadeLaws.{filled_more, filled_end}
use Rattle.circuit.specs.Packed.{packed_bit}
use Rattle.circuit.proofs.Octets.{stored}
use Rattle.circuit.proofs.bytes.store.Goals as goal

pub loop-k-preserved : goal.loop-k-preserved
loop-k-preserved g c =
    let p = c.args.p in
    let ws : List ℕ = p.a ∷ p.b ∷ p.c ∷ p.d ∷ 0 ∷ [] in
    filled_more (λ k. word (packed_bit g.S.Spongent.WIDTH ws) (8 * k) 8) c.loop-k.xs c.loop-k.k c.byte_at.result (omega arith) c.byte_at.ensures c.loop-k.invariant

pub returns : goal.returns
returns g c bs h =
    let p = c.args.p in
    let ws : List ℕ = p.a ∷ p.b ∷ p.c ∷ p.d ∷ 0 ∷ [] in
    let n = length c.args.xs.now in
    filled_end 0 (λ k. word (packed_bit g.S.Spongent.WIDTH ws) (8 * k) 8) c.loop-k.xs n c.loop-k.k (omega arith) (omega arith) c.loop-k.invariant
    ∙ stored g.S.Spongent.WIDTH n p.a p.b p.c p.d bs (omega (arith, g.met.S.Spongent.wide)) (omega arith) h
