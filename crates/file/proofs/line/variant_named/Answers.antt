use Rattle.std.proofs.Common.{◌≡◌, ℕ, List, [], ◌∷◌, length, get_or, drop, codes, refl, arith}
use Rattle.std.proofs.lemmas.List.{drop_more, drop_all}
use Rattle.file.proofs.line.variant_named.Goals as goal

-- eight bytes, one after the other
delirium : (xs : List ℕ) → length xs ≡ 8 → get_or xs 0 0 ≡ 100 → get_or xs 1 0 ≡ 101 → get_or xs 2 0 ≡ 108 → get_or xs 3 0 ≡ 105 → get_or xs 4 0 ≡ 114 → get_or xs 5 0 ≡ 105 → get_or xs 6 0 ≡ 117 → get_or xs 7 0 ≡ 109
    → xs ≡ codes "delirium"
delirium xs l p0 p1 p2 p3 p4 p5 p6 p7 =
    let e0 : xs ≡ get_or xs 0 0 ∷ drop 1 xs = drop_more xs 0 0 (omega arith) in
    let e1 : drop 1 xs ≡ get_or xs 1 0 ∷ drop 2 xs = drop_more xs 1 0 (omega arith) in
    let e2 : drop 2 xs ≡ get_or xs 2 0 ∷ drop 3 xs = drop_more xs 2 0 (omega arith) in
    let e3 : drop 3 xs ≡ get_or xs 3 0 ∷ drop 4 xs = drop_more xs 3 0 (omega arith) in
    let e4 : drop 4 xs ≡ get_or xs 4 0 ∷ drop 5 xs = drop_more xs 4 0 (omega arith) in
    let e5 : drop 5 xs ≡ get_or xs 5 0 ∷ drop 6 xs = drop_more xs 5 0 (omega arith) in
    let e6 : drop 6 xs ≡ get_or xs 6 0 ∷ drop 7 xs = drop_more xs 6 0 (omega arith) in
    let e7 : drop 7 xs ≡ get_or xs 7 0 ∷ drop 8 xs = drop_more xs 7 0 (omega arith) in
    let e8 : drop 8 xs ≡ [] = drop_all 8 xs (omega arith) in
    cc

pub returns-in-delirium : goal.returns-in-delirium
returns-in-delirium c =
    let e : c.args.name.now ≡ codes "delirium" = delirium c.args.name.now (omega arith) (omega arith) (omega arith) (omega arith) (omega arith) (omega arith) (omega arith) (omega arith) (omega arith) in
    rw e refl
