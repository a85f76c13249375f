use Rattle.std.proofs.Common.{◌≡◌, ℕ, ◌+◌, ◌-◌, ◌*◌, ◌/◌, ◌<◌, ◌≤◌, length, take, drop, ap, ◌∙◌, ap₂, arith}
use Rattle.binary.specs.Bits.{bits}
use Rattle.engine.specs.Spongent.{bits_after, spongent}
use Rattle.engine.proofs.BlockLaws.{Done, done_none, done_more}
use Rattle.circuit.specs.Planes.{of_block, one_at, block_at, block_bit, Holds}
use Rattle.circuit.proofs.Layers.{bits_length}
use Rattle.circuit.proofs.Parts.{within, part_length, rest_same, part_done}
use Rattle.circuit.proofs.blocks.permute.Goals as goal

pub loop-i-init : goal.loop-i-init
loop-i-init g c = done_none (spongent g.S.Spongent.FIRST g.S.Spongent.ROUNDS) (c.WIDTH.result / 2) c.args.blocks.now

pub loop-i-preserved : goal.loop-i-preserved
loop-i-preserved g c =
    let wide = g.met.S.Spongent.wide in
    let first = g.S.Spongent.FIRST in
    let rounds = g.S.Spongent.ROUNDS in
    let f = spongent first rounds in
    let m = g.S.Spongent.WIDTH in
    let n = m / 2 in
    let i = c.loop-i.i in
    let xs = c.args.blocks.now in
    let ys = c.loop-i.blocks in
    let new = c.store.new.xs in
    let old = take (i * n + n - i * n) (drop (i * n) ys) in
    let hi : i < g.W.Word.BLOCKS = omega arith in
    let inside : i * n + n ≤ length xs = within n i g.W.Word.BLOCKS (length xs) hi c.requires in
    let same : length ys ≡ length xs = c.loop-i.auto.blocks in
    let done : Done f n i xs ys = rw c.WIDTH.ensures at c.loop-i.invariant in
    let width : i * n + n - i * n ≡ n = omega arith in
    let stands : old ≡ block_at n i xs = ap₂ take width (rest_same f n i xs ys same inside done) in
    let long : length (block_at n i xs) ≡ n = part_length n (i * n) xs inside in
    let wide_bits : length (bits (block_at n i xs)) ≡ m * 4 = bits_length (block_at n i xs) ∙ ap (λ (k : ℕ). 8 * k) long ∙ omega (arith, wide) in
    let held : Holds m (of_block one_at c.lane.result 0) (bits_after first rounds (bits (block_at n i xs))) =
    λ j l. ap (λ v. block_bit m v j) c.lane.ensures ∙ c.all_rounds-r.ensures i (bits (block_at n i xs)) wide_bits (c.load-p.ensures i hi) j l in
    let stored = rw c.WIDTH.ensures at (c.store.ensures (bits_after first rounds (bits (block_at n i xs))) held) in
    rw c.WIDTH.ensures (done_more f n i xs ys new same inside done (part_done first rounds old (block_at n i xs) new stands stored))
