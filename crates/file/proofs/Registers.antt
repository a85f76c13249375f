-- A register that rises is one that a room admits.
use Rattle.std.proofs.Common.{◌≡◌, true, leb, length}
use Rattle.std.proofs.lemmas.Bool.{le-leb}
use Rattle.room.specs.Making.{is_lawful_register}
use Rattle.room.specs.Sales.{Sale}
use Rattle.room.proofs.RegisterLaws.{lawful_exactly}
use Rattle.file.specs.Theorems.{KeepsLimits}

-- so making a room of an accepted file's sale is granted
pub is_lawful : (s : Sale) → KeepsLimits s → (leb (length s.terms) 64 ≡ true) × (is_lawful_register s.register ≡ true)
is_lawful s k = (le-leb (length s.terms) 64 k.terms, (lawful_exactly s.register).1 (k.some, k.few, k.rising))
