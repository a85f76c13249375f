use Rattle.std.proofs.Common.{◌-◌, ◌*◌, ◌%◌, ◌^◌, ap, ◌∙◌, ap₂, arith}
use Rattle.binary.specs.Bits.{bit, differs}
use Rattle.circuit.proofs.Counters.{counter_holds}
use Rattle.circuit.proofs.rounds.add_counter.Goals as goal

pub returns : goal.returns
returns g c i bs len h =
    let at = g.W.Word.at in
    let m = g.S.Spongent.WIDTH in
    let wide = g.met.S.Spongent.wide in
    let p = c.args.p in
    counter_holds m c.args.c (omega (arith, wide)) (omega (arith, wide)) (omega arith) (at p.a i) (at p.b i) (at p.c i) (at p.d i) (at c.xor.result i) (at c.xor-2.result i) bs len
    (λ k l. c.xor.ensures i k l ∙ ap (differs (at p.a i k)) (c.all-first.ensures i k l))
    (λ k l. c.xor-2.ensures i k l ∙ ap (differs (at p.d i k)) (c.all-last.ensures i k l ∙ ap₂ (λ r n. bit ((r * 2 ^ (n - 8)) % 2 ^ 64) k) c.reverse_bits.ensures c.WIDTH.ensures))
    h
