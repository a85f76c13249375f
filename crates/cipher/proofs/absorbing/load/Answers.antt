use Rattle.std.proofs.Common.{length, arith}
use Rattle.cipher.proofs.PartLaws.{load_last, load_full}
use Rattle.cipher.proofs.absorbing.load.Goals as goal

pub returns-then-k-block : goal.returns-then-k-block
returns-then-k-block c =
    load_last (length c.args.block.now) c.min-k.result c.args.bytes.now c.fill.new.self c.copy_from_slice.new.self
    (omega (arith, c.min-k.ensures, c.fill.ensures.len)) (c.fill.ensures.after (λ y e. e)) c.copy_from_slice.ensures.after (omega (arith, c.fill.ensures.len))

pub returns-else-k-block : goal.returns-else-k-block
returns-else-k-block c =
    load_full (length c.args.block.now) c.min-k.result c.args.bytes.now c.fill.new.self c.copy_from_slice.new.self
    (omega (arith, c.min-k.ensures, c.fill.ensures.len)) (c.fill.ensures.after (λ y e. e)) c.copy_from_slice.ensures.after (omega (arith, c.fill.ensures.len))
