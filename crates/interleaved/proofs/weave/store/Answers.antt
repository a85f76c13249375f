use Rattle.std.proofs.Common.{◌≡◌, ℕ, ◌+◌, ◌*◌, ◌/◌, ◌%◌, ◌<◌, length, get_or, ap₂, arith, rules}
use Rattle.binary.proofs.MadeLaws.{filled_all}
use Rattle.interleaved.specs.Words.{byte_in, stored_byte, blocks_of_words}
use Rattle.interleaved.proofs.Columns.{columns_more}
use Rattle.interleaved.proofs.weave.store.Goals as goal

pub loop-l-preserved : goal.loop-l-preserved
loop-l-preserved c =
    let ws = c.args.words.now in
    let l = c.loop-l.l in
    let at : (i : ℕ) → i < 4 → byte_in (get_or ws l 0) i ≡ stored_byte ws (25 * i + l) = λ i h.
    let row : l ≡ (25 * i + l) % 25 = omega arith in
    let col : i ≡ (25 * i + l) / 25 = omega arith in
    ap₂ (λ m n. byte_in (get_or ws m 0) n) row col in
    rw c.scatter.ensures (columns_more (stored_byte ws) (get_or ws l 0) l c.loop-l.blocks (omega arith) (omega arith) at c.loop-l.invariant)

pub returns : goal.returns
unfolding blocks_of_words
returns c =
    filled_all 0 (stored_byte c.args.words.now) c.loop-l.blocks (length c.args.blocks.now) (search rules) (λ p d h. c.loop-l.invariant p d (omega arith) (omega arith))
