-- What stands hangs on which lodgings there were, and not on their order or number.
use Rattle.std.proofs.Common.{◌≡◌, ℕ, ◌↔◌, List, Some, None, Option, sym, refl, ap, ◌∙◌, arith}
use Rattle.room.specs.Sales.{Bytes, Sale, Lodging, Among, OneToAHead}
use Rattle.room.proofs.Holding.{Held}

module _ (s : Sale) (ls ms : List Lodging) (same : (l : Lodging) → Among ls l ↔ Among ms l) (one : OneToAHead s ls) (b : ℕ) where
  pub same_held : (o u : Option Bytes) → Held s ls b o → Held s ms b u → o ≡ u
  same_held None None h g = refl
  same_held None (Some f) h (m, g, is) =
      let a = (same m).1 (g.place, g.there) in
      absurd (h a.0 m a.1 g.genuine g.of)
  same_held (Some e) None (l, h, is) g =
      let a = (same l).0 (h.place, h.there) in
      absurd (g a.0 l a.1 h.genuine h.of)
  same_held (Some e) (Some f) (l, h, is) (m, g, as_well) =
      let a = (same l).0 (h.place, h.there) in
      let c = (same m).1 (g.place, g.there) in
      let up = h.highest c.0 m c.1 g.genuine g.of in
      let down = g.highest a.0 l a.1 h.genuine h.of in
      ap Some (sym is ∙ one l m (h.place, h.there) c h.genuine g.genuine (h.genuine.lot ∙ sym g.genuine.lot) (h.of ∙ sym g.of) (omega arith) ∙ as_well)
