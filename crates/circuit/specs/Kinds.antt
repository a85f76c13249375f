-- The variant that a circuit engine belongs to.
use Rattle.engine.specs.declared.variants.Variant.{Variant}
use Rattle.engine.specs.declared.variants.Variant.TheVariants as variant
use Rattle.circuit.specs.declared.circuit_engine.Circuit.{Circuit}
use Rattle.circuit.specs.declared.circuit_engine.Circuit.TheVariants.{Dumbo, Jumbo}

abbrev pub kind_of : Circuit → Variant
kind_of Dumbo = variant.Dumbo
kind_of Jumbo = variant.Jumbo
