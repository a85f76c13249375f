use Rattle.std.proofs.Common.{◌≡◌, ℕ, [], ◌∷◌, ◌∙◌}
use Rattle.circuit.specs.Planes.{word_bit, entry}
use Rattle.circuit.proofs.Fours.{by_four}
use Rattle.circuit.proofs.Circuits.{own, and_is, or_is, xor_is, not_is, right}
use Rattle.circuit.proofs.gates.substitute.Goals as goal

pub returns : goal.returns
returns g c i k t hk ht =
    let at = g.W.Word.at in
    let p = c.args.p in
    let a₀ = own (at p.a i k) in
    let b₀ = own (at p.b i k) in
    let c₀ = own (at p.c i k) in
    let d₀ = own (at p.d i k) in
    let n = not_is (c.not-t.ensures i k hk) c₀ in
    let a₁ = xor_is (c.xor-a.ensures i k hk) (xor_is (c.xor.ensures i k hk) d₀ (and_is (c.and.ensures i k hk) n b₀)) a₀ in
    let u = xor_is (c.xor-u.ensures i k hk) a₁ n in
    let b₁ = xor_is (c.xor-b.ensures i k hk) (xor_is (c.xor-2.ensures i k hk) (or_is (c.or.ensures i k hk) u d₀) b₀) c₀ in
    let c₁ = xor_is (c.xor-c.ensures i k hk) u (or_is (c.or-2.ensures i k hk) (not_is (c.not.ensures i k hk) b₁) d₀) in
    let d₁ = xor_is (c.xor-d.ensures i k hk) (xor_is (c.xor-3.ensures i k hk) (and_is (c.and-2.ensures i k hk) n c₁) d₀) (and_is (c.and-3.ensures i k hk) b₁ b₀) in
    let r = right (at p.a i k) (at p.b i k) (at p.c i k) (at p.d i k) in
    let P : ℕ → Type 0 = λ t. word_bit (at c.xor-a.result i ∷ at c.xor-b.result i ∷ at c.xor-c.result i ∷ at c.xor-d.result i ∷ []) t k ≡ entry (at p.a i k) (at p.b i k) (at p.c i k) (at p.d i k) t in
    by_four P (a₁.is ∙ r.0) (b₁.is ∙ r.1) (c₁.is ∙ r.2) (d₁.is ∙ r.3) t ht
