-- The names of the variants, as text.
use Rattle.std.specs.Prelude.{ℕ, List, codes}
use Rattle.engine.specs.declared.variants.Variant.{Variant}
use Rattle.engine.specs.declared.variants.Variant.TheVariants.{Dumbo, Jumbo, Delirium}

abbrev pub name : Variant → List ℕ
name Dumbo = codes "Dumbo"
name Jumbo = codes "Jumbo"
name Delirium = codes "Delirium"
