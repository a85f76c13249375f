-- What each fault of an engine tells: its number, its layer and its place.
use Rattle.std.specs.Prelude.{ℕ}
use Rattle.fault.specs.declared.Layer.{Layer}
use Rattle.fault.specs.declared.Layer.TheVariants.{Engine}
use Rattle.fault.specs.declared.Place.{Place}
use Rattle.fault.specs.declared.Place.TheVariants.{Zero}
use Rattle.engine.specs.declared.faults.EngineFault.{EngineFault}
use Rattle.engine.specs.declared.faults.EngineFault.TheVariants.{BlockLength}

abbrev pub fault_number : EngineFault → ℕ
fault_number BlockLength = 6

abbrev pub fault_layer : EngineFault → Layer
fault_layer BlockLength = Engine

abbrev pub fault_place : EngineFault → Place
fault_place BlockLength = Zero
