use Rattle.std.proofs.Common.{zero, suc, refl, arith}
use Rattle.circuit.proofs.words.U64x4Word.from_fn.Goals as goal

pub returns : goal.returns
returns g c zero h = (c.f.result, c.f.ensures, refl)
returns g c (suc zero) h = (c.f-2.result, c.f-2.ensures, refl)
returns g c (suc (suc zero)) h = (c.f-3.result, c.f-3.ensures, refl)
returns g c (suc (suc (suc zero))) h = (c.f-4.result, c.f-4.ensures, refl)
returns g c (suc (suc (suc (suc i)))) h = absurd (omega arith)
