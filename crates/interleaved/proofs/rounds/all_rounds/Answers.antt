use Rattle.std.proofs.Common.{◌≡◌, ℕ, suc, ◌+◌, ◌*◌, ◌<◌, List, [], ◌∷◌, get_or, refl, ap, ◌∙◌, ap₂, add-one, zero-add, arith}
use Rattle.std.proofs.lemmas.List.FromFn.{get_or-map-range_with_len}
use Rattle.binary.specs.Bits.{list_from_fn}
use Rattle.engine.specs.Keccak.{constants}
use Rattle.interleaved.specs.Words.{woven_word, w_add, w_layers, w_round, w_after}
use Rattle.interleaved.proofs.rounds.all_rounds.Goals as goal

-- The constant of round k for each block, and the pair of those of two rounds.
abbrev constant : ℕ → ℕ
constant k = woven_word (λ _. get_or constants k 0)

abbrev pair : ℕ → List ℕ
pair k = constant (2 * k) ∷ constant (2 * k + 1) ∷ []

pair_at : (k : ℕ) → k < 9 → get_or (list_from_fn 9 pair) k [] ≡ pair k
pair_at k h = get_or-map-range_with_len pair 0 9 k k [] h (zero-add k)

-- Two rounds more.
two_more : (k : ℕ) (ws : List ℕ) → w_add (constant (2 * k + 1)) (w_layers (w_add (constant (2 * k)) (w_layers (w_after (2 * k) ws)))) ≡ w_after (2 * (k + 1)) ws
unfolding w_after w_round
two_more k ws =
    let next : suc (suc (2 * k)) ≡ 2 * (k + 1) = omega arith in
    ap (λ m. w_add (constant m) (w_layers (w_after (suc (2 * k)) ws))) (add-one (2 * k)) ∙ ap (λ m. w_after m ws) next

pub loop-even-init : goal.loop-even-init
unfolding w_after
loop-even-init c = refl

pub loop-even-preserved : goal.loop-even-preserved
loop-even-preserved c =
    let both = pair_at c.loop-even.even-index (omega arith) in
    c.round-s.ensures
    ∙ ap₂ (λ (k : ℕ) (ws : List ℕ). w_add k (w_layers ws)) (ap (λ ks. get_or ks 1 0) both)
    (c.round.ensures ∙ ap₂ (λ (k : ℕ) (ws : List ℕ). w_add k (w_layers ws)) (ap (λ ks. get_or ks 0 0) both) c.loop-even.invariant)
    ∙ two_more c.loop-even.even-index c.args.first
