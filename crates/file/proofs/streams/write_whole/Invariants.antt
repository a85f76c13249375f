-- What was written so far is a beginning of the text, and `rest` is what stands behind it.
use Rattle.std.proofs.Common.{◌≡◌, ℕ, take, drop}
use Rattle.std.specs.Io.KnownBytes.{Appends}
use Rattle.file.proofs.streams.write_whole.Given as goal

abbrev pub invariant-loop : goal.invariant-loop
invariant-loop g l = (n : ℕ) × (l.rest ≡ drop n l.text) × Appends (g.W.Write.contents l.initial.writer) (g.W.Write.contents l.writer) (take n l.text)
