-- Facts about registers that rise, and about a room just made.
use Rattle.std.proofs.Common.{◌≡◌, ◌&&◌, ℕ, zero, suc, ◌+◌, Bool, ltb, leb, sym, subst, add-one, arith, ◌^◌, ◌<◌, ◌≤◌, true, false, List, [], ◌∷◌, map, length, get_or, take, drop, Ok, refl, ap, ◌∙◌, ap₂}
use Rattle.std.specs.List.{AllByRecursion, IsAllAdjacentAnswer}
use Rattle.std.specs.List.Sorted.{IsStrictlyIncreasing}
use Rattle.std.proofs.ByRecursion.{All-push}
use Rattle.std.proofs.lemmas.Bool.{le-leb, lt-leb, ltb-true, ltb-false, and_parts}
use Rattle.std.proofs.lemmas.List.{take_more, take_at, length-map}
use Rattle.engine.specs.declared.variants.Variant.{Variant}
use Rattle.room.specs.Sales.{Bytes, Sale}
use Rattle.room.specs.Rising.{RiseByBidder}
use Rattle.room.specs.Rooms.{holding_of, contents_of}
use Rattle.room.specs.Slots.{new_slot, room_of}
use Rattle.room.specs.Opening.{place_with}
use Rattle.room.specs.Making.{rises_from, is_lawful_register, empty_holding, Made}
use Rattle.room.specs.declared.register.RegisterEntry.{RegisterEntry}
use Rattle.room.specs.declared.slots.Phase.TheVariants.{Open}
use Rattle.room.specs.declared.slots.Slot.{Slot}
use Rattle.room.specs.declared.state.RoomState.{RoomState}
use Rattle.room.proofs.Pages.{RisesFrom, rises}

-- What a read behind the last entry of a register would give.
abbrev pub nobody : RegisterEntry
nobody = record { bidder = 0; key = [] }

-- Registers whose neighbours rise, and those with two neighbours that do not.
rising : (x : RegisterEntry) (xs : List RegisterEntry) → ((k : ℕ) (d : RegisterEntry) → suc k < length (x ∷ xs) → (get_or (x ∷ xs) k d).bidder < (get_or (x ∷ xs) (suc k) d).bidder) → rises_from (x.bidder + 1) xs ≡ true
rising x [] h = refl
rising x (y ∷ ys) h =
    let up : x.bidder < y.bidder = h 0 nobody (omega arith) in
    rw (le-leb (x.bidder + 1) y.bidder (omega arith)) (rising y ys (λ k d l. h (suc k) d (omega arith)))

falling : (x : RegisterEntry) (xs : List RegisterEntry) (k : ℕ) → suc k < length (x ∷ xs) → (get_or (x ∷ xs) (suc k) nobody).bidder ≤ (get_or (x ∷ xs) k nobody).bidder → rises_from (x.bidder + 1) xs ≡ false
falling x [] k l h = absurd (omega arith)
falling x (y ∷ ys) zero l h = rw (lt-leb (x.bidder + 1) y.bidder (omega arith)) refl
falling x (y ∷ ys) (suc k) l h = rw (falling y ys k (omega arith) h) (either (leb (x.bidder + 1) y.bidder))
  where
    either : (t : Bool) → (t && false) ≡ false
    either true = refl
    either false = refl

pub rises_sorted : (xs : List RegisterEntry) (r : Bool) → IsAllAdjacentAnswer (λ x y b. b ≡ ltb x.bidder y.bidder) xs r → r ≡ rises_from 0 xs
rises_sorted [] true a = refl
rises_sorted [] false a = absurd (omega (arith, a.1))
rises_sorted (x ∷ xs) true a =
    rw (le-leb 0 x.bidder (omega arith)) (sym (rising x xs (λ k d l. ltb-true _ _ (sym (subst (λ n. true ≡ ltb (get_or (x ∷ xs) k d).bidder (get_or (x ∷ xs) n d).bidder) (add-one _) (a k d (omega arith)))))))
rises_sorted (x ∷ xs) false a =
    rw (le-leb 0 x.bidder (omega arith))
    (sym (falling x xs a.0 (omega (arith, a.1)) (ltb-false _ _ (sym (subst (λ n. false ≡ ltb (get_or (x ∷ xs) a.0 nobody).bidder (get_or (x ∷ xs) n nobody).bidder) (add-one _) (a.2 nobody))))))

-- The bidders of a register that rises, and the slots that making writes.
rising_bidders : (m : ℕ) (xs : List RegisterEntry) → RisesFrom m xs → IsStrictlyIncreasing (map (λ x. x.bidder) xs)
rising_bidders m [] h k l = absurd (omega arith)
rising_bidders m (x ∷ []) h k l = absurd (omega arith)
rising_bidders m (x ∷ y ∷ ys) h zero l = omega (arith, h.1.0)
rising_bidders m (x ∷ y ∷ ys) h (suc k) l = rw add-one (subst (λ n. get_or (map (λ z. z.bidder) (y ∷ ys)) k 0 < get_or (map (λ z. z.bidder) (y ∷ ys)) n 0) (add-one k) (rising_bidders (suc x.bidder) (y ∷ ys) h.1 k (omega arith)))

new_bidders : (xs : List RegisterEntry) → map (λ x. x.bidder) (map new_slot xs) ≡ map (λ x. x.bidder) xs
new_bidders [] = refl
new_bidders (x ∷ xs) = ap (λ bs. x.bidder ∷ bs) (new_bidders xs)

pub made_rising : (register : List RegisterEntry) (before ss : List Slot) → is_lawful_register register ≡ true → ss ≡ place_with (map new_slot register) before → RiseByBidder (take (length register) ss)
made_rising register before ss lawful es =
    let some = and_parts (leb 1 (length register)) (leb (length register) 64 && rises_from 0 register) lawful in
    let up = (and_parts (leb (length register) 64) (rises_from 0 register) some.1).1 in
    let s : take (length register) ss ≡ map new_slot register =
    ap (take (length register)) es ∙ take_at (map new_slot register) (drop (length (map new_slot register)) before) (length register) (length-map register new_slot) in
    subst IsStrictlyIncreasing (sym (ap (map (λ x. x.bidder)) s ∙ new_bidders register)) (rising_bidders 0 register (rises 0 register up))

abbrev pub Fits : RegisterEntry → Type 0
Fits x = x.bidder < 2 ^ 32

pub fits_more : (xs : List RegisterEntry) (i : ℕ) → i < length xs → AllByRecursion Fits (take i xs) → Fits (get_or xs i nobody) → AllByRecursion Fits (take (i + 1) xs)
fits_more xs i l a f = rw (take_more xs i nobody l) (All-push Fits (take i xs) (get_or xs i nobody) a f)

-- New slots hold nothing.
new_held : (v : Variant) (lot : ℕ) (rs : List RegisterEntry) → map (holding_of v lot) (map new_slot rs) ≡ map empty_holding rs
new_held v lot [] = refl
new_held v lot (r ∷ rs) = ap (λ hs. empty_holding r ∷ hs) (new_held v lot rs)

pub made_granted : (s : Sale) (before after : RoomState) (ts : Bytes) (ss : List Slot)
    → length s.terms ≤ 64 → is_lawful_register s.register ≡ true → s.lot < 2 ^ 32 → AllByRecursion Fits s.register
    → ts ≡ place_with s.terms before.terms → ss ≡ place_with (map new_slot s.register) before.slots → after.terms ≡ ts → after.slots ≡ ss
    → contents_of s.variant after ≡ room_of s.variant s.lot (take (length s.terms) ts) Open (take (length s.register) ss)
    → Made s before (Ok tt) after
made_granted sale before after ts ss short lawful fits all et es pt ps is =
    let v = sale.variant in
    let lot = sale.lot in
    let terms = sale.terms in
    let register = sale.register in
    let t : take (length terms) ts ≡ terms = ap (take (length terms)) et ∙ take_at terms (drop (length terms) before.terms) (length terms) refl in
    let n = length-map register new_slot in
    let s : take (length register) ss ≡ map new_slot register = ap (take (length register)) es ∙ take_at (map new_slot register) (drop (length (map new_slot register)) before.slots) (length register) n in
    let h : map (holding_of v lot) (take (length register) ss) ≡ map empty_holding register = ap (map (holding_of v lot)) s ∙ new_held v lot register in
    record {
      answers = rw (le-leb (length terms) 64 short, lawful);
      leaves = is ∙ ap₂ (λ t hs. record { variant = v; lot = lot; terms = t; phase = Open; holdings = hs }) t h;
      place = (pt ∙ et, ps ∙ es);
      lot_fits = fits;
      bidders_fit = all;
    }
