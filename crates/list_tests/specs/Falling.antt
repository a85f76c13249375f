-- The order in which the greater number comes first.
use Rattle.std.specs.Prelude.{ℕ}
use Rattle.std.specs.declared.cmp.Ordering.{Ordering}
use Rattle.std.proofs.Common.{ap, sym, ◌∙◌}
use Rattle.std.specs.Cmp.{nat_cmp_total}
use Rattle.std.specs.Ordering.{ordering_reverse, nat_cmp}
use Rattle.list.specs.Order.{TotalOrder}

abbrev pub falling : {X : Type 0} → (X → ℕ) → X → X → Ordering
falling key x y = nat_cmp (key y) (key x)

pub falling_is_total : {X : Type 0} (key : X → ℕ) → TotalOrder (falling key)
falling_is_total key = record {
  turned = λ x y. nat_cmp_total.antisymm (key y) (key x);
  transitive = λ x y z h k. nat_cmp_total.trans (key z) (key y) (key x) k h;
  alike = λ x y z h. nat_cmp_total.antisymm (key z) (key x) ∙ ap ordering_reverse (sym (nat_cmp_total.congr (key y) (key x) (key z) h)) ∙ sym (nat_cmp_total.antisymm (key z) (key y));
}
