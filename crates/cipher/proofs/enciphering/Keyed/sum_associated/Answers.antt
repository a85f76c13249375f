use Rattle.std.proofs.Common.{◌≡◌, ◌-◌, ◌++◌, length, take, drop, ap, sym, ◌∙◌, arith, rules}
use Rattle.std.proofs.lemmas.List.{take_all, length-drop}
use Rattle.engine.specs.Permutation.{block_size}
use Rattle.cipher.specs.Blocks.{part, parts}
use Rattle.cipher.specs.Masks.{phi1}
use Rattle.cipher.specs.Mode.{with_01, sum_with_parts}
use Rattle.cipher.specs.Groups.{block_in}
use Rattle.cipher.proofs.MaskLaws.{wide_nonce}
use Rattle.cipher.proofs.TagLaws.{associated_short, associated_long}
use Rattle.cipher.proofs.enciphering.Keyed.sum_associated.Goals as goal

pub returns-then-associated-within-clause-sum : goal.returns-then-associated-within-clause-sum
returns-then-associated-within-clause-sum g c =
    let v = g.E.Engine.kind c.args.self.now.engine.now in
    let by = c.variant-variant.ensures.answer in
    let s = c.args.nonce.now ++ with_01 c.args.associated.now in
    let wide : c.block_bytes-within.result ≡ block_size v = c.block_bytes-within.ensures ∙ ap block_size by in
    let twelve : length c.args.nonce.now ≡ 12 = search rules in
    ap (λ w. block_in w c.start_sum.new.sum) (sym by) ∙ c.start_sum.ensures ∙ ap (λ w. part (block_size w) 0 s) by
    ∙ associated_short v (block_in v c.args.self.now.first) c.args.nonce.now c.args.associated.now twelve (omega arith)

pub returns-clause-sum : goal.returns-clause-sum
returns-clause-sum g c =
    let v = g.E.Engine.kind c.args.self.now.engine.now in
    let by = c.variant-variant.ensures.answer in
    let n = block_size v in
    let first = block_in v c.args.self.now.first in
    let nonce = c.args.nonce.now in
    let associated = c.args.associated.now in
    let w = c.block_bytes-within.result - 12 in
    let rest = take (length associated - w) (drop w associated) in
    let twelve : length nonce ≡ 12 = search rules in
    let wide : c.block_bytes-within.result ≡ n = c.block_bytes-within.ensures ∙ ap block_size by in
    let start : block_in v c.start_sum.new.sum ≡ part n 0 (nonce ++ with_01 associated) =
    ap (λ w. block_in w c.start_sum.new.sum) (sym by) ∙ c.start_sum.ensures ∙ ap (λ w. part (block_size w) 0 (nonce ++ with_01 associated)) by in
    let mask : block_in v c.phi1.new.block ≡ phi1 v first =
    ap (λ w. block_in w c.phi1.new.block) (sym by) ∙ c.phi1.ensures ∙ ap (λ w. phi1 w (block_in w c.args.self.now.first)) by in
    let whole : rest ≡ drop (n - 12) associated = take_all (length associated - w) (drop w associated) (omega (arith, length-drop w associated)) ∙ ap (λ m. drop (m - 12) associated) wide in
    c.absorb.ensures.sum
    ∙ ap (λ b. sum_with_parts v (block_in v c.phi1.new.block) 0 (parts n (length (with_01 rest))) 0 (with_01 rest) b) start
    ∙ associated_long v first (block_in v c.phi1.new.block) nonce associated rest twelve (wide_nonce v) (omega arith) mask whole
