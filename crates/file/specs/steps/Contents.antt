-- One step of gathering a file: what a line that was taken in leaves, in the sale so far and in the places lent for its register.
use Rattle.std.specs.Prelude.{◌≡◌, ℕ, ◌≤◌, List, take, drop, Ok, Err, Result}
use Rattle.list.specs.declared.faults.ListFault.{ListFault}
use Rattle.room.specs.Sales.{Sale}
use Rattle.room.specs.declared.register.RegisterEntry.{RegisterEntry}
use Rattle.file.specs.Contents.{Refusal, sale_of_items, sale_of}
use Rattle.file.specs.Form.{Items}
use Rattle.file.specs.declared.contents.Gathering.{Gathering}
use Rattle.file.specs.declared.faults.FileFault.{FileFault}
use Rattle.file.specs.declared.faults.FileFault.TheVariants.{List as ByList}

-- What enrolling a bidder in line n answers.
abbrev pub enrolling_answer : ℕ → Result (List RegisterEntry) ListFault → Result (Unit {0}) FileFault
enrolling_answer n (Ok register) = Ok tt
enrolling_answer n (Err f) = Err (ByList n f)

-- The register afterwards: as it was where the bidder is refused.
abbrev pub register_after : Result (List RegisterEntry) ListFault → List RegisterEntry → List RegisterEntry
register_after (Ok register) before = register
register_after (Err f) before = before

-- A register loses no bidder, and leaves what lies behind it in its places as it was.
pub record KeepsRest (before after : Gathering) : Type 0 where
  pub more : before.sale.count ≤ after.sale.count
  pub rest : drop after.sale.count after.places.now ≡ drop after.sale.count before.places.now

-- The sale that was gathered so far.
abbrev pub sale_so_far : Gathering → Sale
sale_so_far g = sale_of g.sale (take g.sale.count g.places.now)

-- What comes of the lines behind one that was taken in, s being the sale afterwards.
abbrev pub goes_on : Result (Unit {0}) FileFault → Sale → Items → Result Sale Refusal
goes_on (Ok taken) s is = sale_of_items s is
goes_on (Err f) s is = Err (record { fault = f; before = s })
