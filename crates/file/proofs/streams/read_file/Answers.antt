use Rattle.std.proofs.Common.{◌∙◌}
use Rattle.file.proofs.Filled.{take-cut}
use Rattle.file.proofs.streams.read_file.Goals as goal

pub returns-clause-first : goal.returns-clause-first
returns-clause-first g c =
    take-cut _ c.in_ok-n.n _ _ _ c.fill.new.buffer _ _ (c.fill.auto.buffer ∙ c.deref_mut.ensures.len) c.in_ok-text.ensures.len c.in_ok-n.ensures c.truncate.ensures.items
