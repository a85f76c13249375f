-- What a refusal by the list tells: its number, its layer and its place.
use Rattle.std.specs.Prelude.{ℕ}
use Rattle.fault.specs.declared.Layer.{Layer}
use Rattle.fault.specs.declared.Layer.TheVariants.{List as ListLayer}
use Rattle.fault.specs.declared.Place.{Place}
use Rattle.fault.specs.declared.Place.TheVariants.{Zero}
use Rattle.list.specs.declared.faults.ListFault.{ListFault}
use Rattle.list.specs.declared.faults.ListFault.TheVariants.{EqualEntry, Full}

-- 17 for an entry equal in order to one already there, 18 for a full list.
abbrev pub fault_number : ListFault → ℕ
fault_number EqualEntry = 17
fault_number Full = 18

-- Every refusal by the list starts in the layer of the list.
abbrev pub fault_layer : ListFault → Layer
fault_layer f = ListLayer

-- It lies nowhere in particular.
abbrev pub fault_place : ListFault → Place
fault_place f = Zero
