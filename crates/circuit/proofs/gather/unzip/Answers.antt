use Rattle.std.proofs.Common.{refl}
use Rattle.circuit.specs.Planes.{of_block}
use Rattle.circuit.proofs.Sources.{base, lo_from, hi_from, unzipped}
use Rattle.circuit.proofs.gather.unzip.Goals as goal

pub returns : goal.returns
returns γ c i =
    let at = γ.W.Word.at in
    let rs = of_block at c.args.r i in
    let a = base rs 0 refl in
    let b = base rs 1 refl in
    let c₀ = base rs 2 refl in
    let d = base rs 3 refl in
    let e-lo = lo_from a b (c.cross-e.ensures i) in
    let e-hi = hi_from a b (c.cross-e.ensures i) in
    let f-lo = lo_from c₀ d (c.cross-f.ensures i) in
    let f-hi = hi_from c₀ d (c.cross-f.ensures i) in
    let g-lo = lo_from e-lo f-lo (c.cross-g.ensures i) in
    let g-hi = hi_from e-lo f-lo (c.cross-g.ensures i) in
    let h-lo = lo_from e-hi f-hi (c.cross-h.ensures i) in
    let h-hi = hi_from e-hi f-hi (c.cross-h.ensures i) in
    let s-lo = lo_from g-lo h-lo (c.cross-s.ensures i) in
    let s-hi = hi_from g-lo h-lo (c.cross-s.ensures i) in
    let t-lo = lo_from g-hi h-hi (c.cross-t.ensures i) in
    let t-hi = hi_from g-hi h-hi (c.cross-t.ensures i) in
    let u-lo = lo_from s-lo t-lo (c.cross-u.ensures i) in
    let u-hi = hi_from s-lo t-lo (c.cross-u.ensures i) in
    let v-lo = lo_from s-hi t-hi (c.cross-v.ensures i) in
    let v-hi = hi_from s-hi t-hi (c.cross-v.ensures i) in
    unzipped rs (of_block at _ i) u-lo v-lo u-hi v-hi refl refl refl refl
