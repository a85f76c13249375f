use Rattle.std.proofs.Common.{◌≡◌, ◌≤◌, length, ltb, rules}
use Rattle.std.proofs.lemmas.Bool.{le-leb}
use Rattle.std.proofs.lemmas.List.Sorted.{answers_always}
use Rattle.room.specs.Making.{rises_from}
use Rattle.room.proofs.CodeMaking.{rises_sorted}
use Rattle.room.proofs.making.is_lawful.Goals as goal

pub returns-then-contains : goal.returns-then-contains
returns-then-contains c =
    let xs = c.args.register.now in
    let some : 1 ≤ length xs = search rules in
    let few : length xs ≤ 64 = search rules in
    let rises : c.is_sorted_by.result ≡ rises_from 0 xs =
    rises_sorted xs c.is_sorted_by.result (c.is_sorted_by.ensures.cases (λ x y. ltb x.bidder y.bidder) (answers_always _ _ _ (λ f a r g called. search rules))) in
    rw (le-leb 1 (length xs) some, le-leb (length xs) 64 few) rises
