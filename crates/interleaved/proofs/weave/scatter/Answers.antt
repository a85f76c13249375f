use Rattle.std.proofs.Common.{◌≡◌, ℕ, ◌+◌, ◌*◌, ◌/◌, ◌%◌, ◌^◌, ◌<◌, List, get_or, set, ap, ◌∙◌, ap₂, arith, lit<}
use Rattle.interleaved.specs.Words.{byte_in}
use Rattle.interleaved.proofs.Weaving.{lifted_is}
use Rattle.interleaved.proofs.weave.scatter.Goals as goal

pub returns : goal.returns
returns c =
    let l = c.args.l in
    let r = c.unweave.result in
    let byte : (i : ℕ) → i < 4 → r / 2 ^ (8 * i) % 2 ^ 8 ≡ byte_in c.args.word i = λ i h. lifted_is c.args.word r i h c.unweave.ensures in
    let low : r % 256 ≡ r / 1 % 256 = omega arith in
    let read = c.to_le_bytes.ensures in
    let put : ℕ → List ℕ → ℕ → List ℕ = λ p xs b. set xs p b in
    c.put-4.ensures
    ∙ ap₂ (put (75 + l))
    (c.put-3.ensures
    ∙ ap₂ (put (50 + l))
    (c.put-2.ensures ∙ ap₂ (put (25 + l)) (c.put.ensures ∙ ap (put l c.args.blocks.now) (ap (λ bs. get_or bs 0 0) read ∙ low ∙ byte 0 (lit< tt))) (ap (λ bs. get_or bs 1 0) read ∙ byte 1 (lit< tt)))
    (ap (λ bs. get_or bs 2 0) read ∙ byte 2 (lit< tt)))
    (ap (λ bs. get_or bs 3 0) read ∙ byte 3 (lit< tt))
