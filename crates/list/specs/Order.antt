-- Orders of entries: what makes a comparison a total order, the order by a number, and lists that rise.
use Rattle.std.specs.Prelude.{◌≡◌, ℕ, ◌<◌, List, length, slice_index_or}
use Rattle.std.specs.declared.cmp.Ordering.TheVariants.{Less, Equal}
use Rattle.std.specs.declared.cmp.Ordering.{Ordering}
use Rattle.std.specs.Cmp.{nat_cmp_total}
use Rattle.std.specs.Ordering.{ordering_reverse, nat_cmp}

-- A comparison is a total order: turned round it gives the opposite answer (so an entry is equal in order to itself),
-- it is transitive, and entries that are equal in order compare alike with every other, though they may differ.
pub record TotalOrder {X : Type 0} (order : X → X → Ordering) : Type 0 where
  pub turned : (x y : X) → order x y ≡ ordering_reverse (order y x)
  pub transitive : (x y z : X) → order x y ≡ Less → order y z ≡ Less → order x z ≡ Less
  pub alike : (x y z : X) → order x y ≡ Equal → order x z ≡ order y z

-- The order by a number that every entry has, its key.
abbrev pub by_key : {X : Type 0} → (X → ℕ) → X → X → Ordering
by_key key x y = nat_cmp (key x) (key y)

-- It is a total order, since that of the numbers is one.
pub by_key_is_total : {X : Type 0} (key : X → ℕ) → TotalOrder (by_key key)
by_key_is_total key = record {
  turned = λ x y. nat_cmp_total.antisymm (key x) (key y);
  transitive = λ x y z. nat_cmp_total.trans (key x) (key y) (key z);
  alike = λ x y z. nat_cmp_total.congr (key x) (key y) (key z);
}

-- A list rises when each entry comes before every later one. No two of its entries are then equal in order.
unfoldable pub Rising : {X : Type 0} → (X → X → Ordering) → List X → Type 0
Rising {X} order xs = (i j : ℕ) (d : X) → i < j → j < length xs → order (slice_index_or xs i d) (slice_index_or xs j d) ≡ Less
