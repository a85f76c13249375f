-- Registers that are lawful, by their length and the order of their bidders.
use Rattle.std.proofs.Common.{◌≡◌, ◌↔◌, ◌&&◌, ℕ, zero, suc, ◌+◌, ◌<◌, ◌≤◌, true, leb, List, [], ◌∷◌, length, get_or, refl, arith}
use Rattle.std.proofs.lemmas.Bool.{and_from, and_parts, le-leb, leb-true}
use Rattle.list.specs.Order.{Rising, by_key}
use Rattle.list.proofs.Laws.{key_below, before_by_key}
use Rattle.room.specs.Making.{rises_from, is_lawful_register}
use Rattle.room.specs.declared.register.RegisterEntry.{RegisterEntry}
use Rattle.room.proofs.CodeMaking.{nobody}
use Rattle.room.proofs.Pages.{RisesFrom, rises}

abbrev ByBidder : List RegisterEntry → Type 0
ByBidder xs = Rising (by_key (λ x. x.bidder)) xs

tail_rises : (x : RegisterEntry) (xs : List RegisterEntry) → ByBidder (x ∷ xs) → ByBidder xs
unfolding Rising
tail_rises x xs h i j d a b = h (suc i) (suc j) d (omega arith) (omega arith)

head_below : (x : RegisterEntry) (xs : List RegisterEntry) (k : ℕ) → ByBidder (x ∷ xs) → k < length xs → x.bidder < (get_or xs k nobody).bidder
unfolding Rising
head_below x xs k h l = key_below (λ y. y.bidder) x (get_or xs k nobody) (h 0 (suc k) nobody (omega arith) (omega arith))

pub rises_of : (xs : List RegisterEntry) (m : ℕ) → ByBidder xs → ((k : ℕ) → k < length xs → m ≤ (get_or xs k nobody).bidder) → rises_from m xs ≡ true
rises_of [] m h b = refl
rises_of (x ∷ xs) m h b =
    and_from (leb m x.bidder) (rises_from (x.bidder + 1) xs) (le-leb m x.bidder (b 0 (omega arith)))
    (rises_of xs (x.bidder + 1) (tail_rises x xs h) (λ k l. let u = head_below x xs k h l in omega arith))

at_least : (xs : List RegisterEntry) (m k : ℕ) (d : RegisterEntry) → RisesFrom m xs → k < length xs → m ≤ (get_or xs k d).bidder
at_least [] m k d r l = absurd (omega arith)
at_least (x ∷ xs) m zero d r l = r.0
at_least (x ∷ xs) m (suc k) d r l = let u = at_least xs (suc x.bidder) k d r.1 (omega arith) in let v = r.0 in omega arith

by_bidder : (xs : List RegisterEntry) (m : ℕ) → RisesFrom m xs → ByBidder xs
unfolding Rising
by_bidder [] m r i j d a b = absurd (omega arith)
by_bidder (x ∷ xs) m r i zero d a b = absurd (omega arith)
by_bidder (x ∷ xs) m r zero (suc j) d a b =
    before_by_key (λ y. y.bidder) x (get_or xs j d) (let u = at_least xs (suc x.bidder) j d r.1 (omega arith) in omega arith)
by_bidder (x ∷ xs) m r (suc i) (suc j) d a b = by_bidder xs (suc x.bidder) r.1 i j d (omega arith) (omega arith)

pub lawful_exactly : (xs : List RegisterEntry) → (is_lawful_register xs ≡ true) ↔ ((1 ≤ length xs) × (length xs ≤ 64) × ByBidder xs)
lawful_exactly xs = (
  λ h.
      let p = and_parts (leb 1 (length xs)) (leb (length xs) 64 && rises_from 0 xs) h in
      let q = and_parts (leb (length xs) 64) (rises_from 0 xs) p.1 in
      (leb-true 1 (length xs) p.0, leb-true (length xs) 64 q.0, by_bidder xs 0 (rises 0 xs q.1)),
  λ h.
      and_from _ _ (le-leb 1 (length xs) h.0) (and_from _ _ (le-leb (length xs) 64 h.1) (rises_of xs 0 h.2 (λ k l. omega arith))),
)
