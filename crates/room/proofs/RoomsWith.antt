-- Closed rooms in which given amounts stand: every list of bidders with amounts has one.
use Rattle.std.proofs.Common.{◌≡◌, ℕ, zero, suc, ◌+◌, ◌^◌, ◌<◌, ◌≤◌, Bool, true, false, cond, eqb, leb, List, [], ◌∷◌, map, length, get_or, replicate, Some, None, Option, sym, refl, ap, ◌∙◌, subst, subst₂, inl, inr, arith}
use Rattle.std.specs.List.{AllByRecursion}
use Rattle.std.specs.List.Sorted.{IsStrictlyIncreasing}
use Rattle.std.proofs.ByRecursion.{All-weaker}
use Rattle.std.proofs.lemmas.Bool.{and_from, eqb-true, eq-eqb, ne_eqb, le-leb, both_ways}
use Rattle.std.proofs.lemmas.List.{length-map}
use Rattle.engine.specs.declared.variants.Variant.{Variant}
use Rattle.envelope.specs.Letters.{most_cents}
use Rattle.envelope.specs.Heads.{bidder_of, sequence_of}
use Rattle.room.specs.Sales.{Bytes, Sale, Lodging, Genuine, Among, Standing, StandingAmount, is_registered}
use Rattle.room.specs.Page.{page}
use Rattle.room.specs.Making.{rises_from}
use Rattle.room.specs.Runs.{History, IsClosed, Stands, Prints}
use Rattle.room.specs.Sealings.{Sealed}
use Rattle.room.specs.declared.register.RegisterEntry.{RegisterEntry}
use Rattle.room.specs.declared.sheet.SheetEntry.{SheetEntry}
use Rattle.room.proofs.Holding.{Held}
use Rattle.room.proofs.Bids.{bid_bidder, bid_genuine, bid_amount}
use Rattle.room.proofs.CodeMaking.{Fits}
use Rattle.room.proofs.Pages.{found, RisesFrom, rises}
use Rattle.room.proofs.Histories.{room_kept, room_holds}
use Rattle.room.proofs.CodeSlots.{HasHead}
use Rattle.room.proofs.Standings.{above_0, AmountsStand, prints_above_0}
use Rattle.room.proofs.ClosedRooms.{IsMakeable, ClosedRoom, closed_room}
use Rattle.room.proofs.SealedBids.{HasKey, bid_in, sealed_in, sealed_head}

-- What stands in a closed room.
module _ (s : Sale) (ls : List Lodging) (r : ClosedRoom s ls) (b : ℕ) where
  stands_so : (n : ℕ) → StandingAmount s ls b n → Stands r.x b n
  stands_so n = subst₂ (λ t ms. StandingAmount t ms b n) (sym r.of_the_sale) (sym r.lodgings_are)

  its_held : Held s ls b (room_kept r.x b)
  its_held = subst₂ (λ t ms. Held t ms b (room_kept r.x b)) r.of_the_sale r.lodgings_are (room_holds r.x b)

  -- A bid stands where no other one of its bidder has as high a sequence.
  module _ (n : ℕ) (l : Lodging) (q : Sealed s s.lot b n l.envelope) (up : 1 ≤ n) (at : Among ls l)
      (only : (x : Lodging) → Among ls x → bidder_of x.envelope ≡ b → sequence_of l.envelope ≤ sequence_of x.envelope → x ≡ l) where
    l_genuine : Genuine s l
    l_genuine = bid_genuine s s.lot b n l.envelope q refl up

    l_of : bidder_of l.envelope ≡ b
    l_of = bid_bidder s s.lot b n l.envelope q

    standing_by : (o : Option Bytes) → Held s ls b o → Standing s ls b l
    standing_by None h = absurd (h at.0 l at.1 l_genuine l_of)
    standing_by (Some e) (m, h, is) = subst (Standing s ls b) (only m (h.place, h.there) h.of (h.highest at.0 l at.1 l_genuine l_of)) h

    pub bid_stands : Stands r.x b q.amount
    bid_stands = stands_so q.amount (inl (l, standing_by (room_kept r.x b) its_held, sym (bid_amount s s.lot b n l.envelope q)))

  -- Where no lodging is a bidder's, 0 stands.
  pub none_stands : ((x : Lodging) → Among ls x → bidder_of x.envelope ≡ b → ⊥) → Stands r.x b 0
  none_stands none = stands_so 0 (inr (λ l st. none l (st.place, st.there) st.of, refl))

all_among : (P : Lodging → Type 0) (ls : List Lodging) → ((x : Lodging) → Among ls x → P x) → AllByRecursion P ls
all_among P [] h = tt
all_among P (l ∷ ls) h = (h l (0, refl), all_among P ls (λ x at. h x (suc at.0, at.1)))

known_still : (t u : Bool) → u ≡ true → cond t true u ≡ true
known_still true u h = refl
known_still false u h = h

-- A closed room of a sale in which a function's amounts stand.
pub record RoomOf (s : Sale) (f : ℕ → ℕ) : Type 0 where
  pub x : History
  pub of_the_sale : x.sale ≡ s
  pub is_closed : IsClosed x
  pub stands : (b : ℕ) → Stands x b (f b)

module _ (s : Sale) (m : IsMakeable s) (keys : AllByRecursion HasKey s.register)
    (f : ℕ → ℕ) (affordable : (b : ℕ) → f b ≤ most_cents)
    (unlisted : (b : ℕ) → (is_registered s.register b ≡ true → ⊥) → f b ≡ 0) where
  abbrev bid_of : ℕ → Lodging
  bid_of b = bid_in s b 1 (f b)

  abbrev sealed_of : (b : ℕ) → is_registered s.register b ≡ true → Sealed s s.lot b 1 (bid_of b).envelope
  sealed_of b k = sealed_in s m keys b 1 (f b) k (omega arith) (affordable b)

  -- A bid of each registered bidder: one of amount 0 offers nothing.
  abbrev bids : List RegisterEntry → List Lodging
  bids xs = map (λ x. bid_of x.bidder) xs

  abbrev IsBid : List RegisterEntry → Lodging → Type 0
  IsBid xs l = (b : ℕ) × (is_registered xs b ≡ true) × (l ≡ bid_of b)

  from_bids : (xs : List RegisterEntry) (l : Lodging) → Among (bids xs) l → IsBid xs l
  from_bids [] l (i, h) = let z : ◌≡◌ {A = ℕ} 0 1 = cc in absurd (omega arith)
  from_bids (x ∷ xs) l (zero, h) = (x.bidder, ap (λ t. cond t true (is_registered xs x.bidder)) (eq-eqb x.bidder x.bidder refl), sym cc)
  from_bids (x ∷ xs) l (suc i, h) = let r = from_bids xs l (i, h) in (r.0, known_still (eqb x.bidder r.0) (is_registered xs r.0) r.1, r.2)

  in_bids : (xs : List RegisterEntry) (b : ℕ) → is_registered xs b ≡ true → Among (bids xs) (bid_of b)
  in_bids [] b k = absurd (both_ways false refl k)
  in_bids (x ∷ xs) b k = go (eqb x.bidder b) refl k (in_bids xs b)
    where
      go : (t : Bool) → eqb x.bidder b ≡ t → cond t true (is_registered xs b) ≡ true
          → (is_registered xs b ≡ true → Among (bids xs) (bid_of b)) → Among (bids (x ∷ xs)) (bid_of b)
      go true same l ih = (0, ap (λ c. Some (bid_of c)) (eqb-true _ _ same))
      go false other l ih = let at = ih l in (suc at.0, at.1)

  -- A bidder's bid is its one, and none is of a bidder who is not registered.
  its_bid : (b : ℕ) (x : Lodging) → Among (bids s.register) x → bidder_of x.envelope ≡ b
      → (is_registered s.register b ≡ true) × (x ≡ bid_of b)
  its_bid b x at of =
      let i = from_bids s.register x at in
      let same : i.0 ≡ b = sym (ap (λ l. bidder_of l.envelope) i.2 ∙ bid_bidder s s.lot i.0 1 (bid_of i.0).envelope (sealed_of i.0 i.1)) ∙ of in
      (subst (λ c. is_registered s.register c ≡ true) same i.1, i.2 ∙ ap bid_of same)

  room : ClosedRoom s (bids s.register)
  room = closed_room s m (bids s.register) (all_among (λ l. HasHead l.envelope) (bids s.register) (λ x at.
      let i = from_bids s.register x at in
      subst (λ l. HasHead l.envelope) (sym i.2) (sealed_head s s.lot i.0 1 (bid_of i.0).envelope (sealed_of i.0 i.1))))

  its_amount : (b : ℕ) (t : Bool) → is_registered s.register b ≡ t → Stands room.x b (f b)
  its_amount b true k =
      bid_stands s (bids s.register) room b 1 (bid_of b) (sealed_of b k) (omega arith) (in_bids s.register b k)
      (λ x at of higher. (its_bid b x at of).1)
  its_amount b false out =
      let unknown : is_registered s.register b ≡ true → ⊥ = both_ways (is_registered s.register b) out in
      subst (Stands room.x b) (sym (unlisted b unknown))
      (none_stands s (bids s.register) room b (λ x at of. unknown (its_bid b x at of).0))

  pub room_of : RoomOf s f
  room_of = record {
    x = room.x;
    of_the_sale = room.of_the_sale;
    is_closed = room.is_closed;
    stands = λ b. its_amount b (is_registered s.register b) refl;
  }

-- 1 to 64 bidders that rise strictly, each with an amount that a bid may have, or 0 for one from whom nothing stands.
pub record CanStand (amounts : List SheetEntry) : Type 0 where
  pub some : 1 ≤ length amounts
  pub few : length amounts ≤ 64
  pub rising : IsStrictlyIncreasing (map (λ a. a.bidder) amounts)
  pub bidders : AllByRecursion (λ a. a.bidder < 2 ^ 32) amounts
  pub affordable : AllByRecursion (λ a. a.amount ≤ most_cents) amounts

-- A closed room of a variant, a lot and terms, whose registered bidders are those of a list, with some keys of 16 bytes, and in which the
-- amounts of the list stand, and no others. It prints the page of those above 0.
pub record RoomWith (v : Variant) (lot : ℕ) (terms : Bytes) (amounts : List SheetEntry) : Type 0 where
  pub x : History
  pub register : List RegisterEntry
  pub of_the_sale : x.sale ≡ record { variant = v; lot = lot; terms = terms; register = register }
  pub bidders : map (λ e. e.bidder) register ≡ map (λ a. a.bidder) amounts
  pub keys : AllByRecursion HasKey register
  pub is_closed : IsClosed x
  pub listed_stand : AllByRecursion (λ a. Stands x a.bidder a.amount) amounts
  pub others_stand_with_0 : (b : ℕ) → (is_registered register b ≡ true → ⊥) → Stands x b 0
  pub prints : Prints x (page lot (above_0 amounts))

-- A bidder of the list in the register, under some key.
abbrev entry_for_bidder : SheetEntry → RegisterEntry
entry_for_bidder a = record { bidder = a.bidder; key = replicate 16 7 }

abbrev register_for : List SheetEntry → List RegisterEntry
register_for xs = map entry_for_bidder xs

register_rises : (m : ℕ) (xs : List SheetEntry) → IsStrictlyIncreasing (map (λ a. a.bidder) xs)
    → (0 < length (map (λ a. a.bidder) xs) → m ≤ get_or (map (λ a. a.bidder) xs) 0 0) → rises_from m (register_for xs) ≡ true
register_rises m [] up low = refl
register_rises m (a ∷ xs) up low =
    let bs : List ℕ = map (λ b. b.bidder) xs in
    and_from (leb m a.bidder) (rises_from (a.bidder + 1) (register_for xs)) (le-leb m a.bidder (low (omega arith)))
    (register_rises (a.bidder + 1) xs
    (λ k l.
    let next : suc k + 1 ≡ suc (k + 1) = omega arith in
    subst (λ n. get_or bs k 0 < get_or (a.bidder ∷ bs) n 0) next (up (suc k) (omega arith)))
    (λ l. let u = up 0 (omega arith) in omega arith))

register_bidders : (xs : List SheetEntry) → map (λ e. e.bidder) (register_for xs) ≡ map (λ a. a.bidder) xs
register_bidders [] = refl
register_bidders (a ∷ xs) = ap (λ bs. a.bidder ∷ bs) (register_bidders xs)

register_fits : (xs : List SheetEntry) → AllByRecursion (λ a. a.bidder < 2 ^ 32) xs
    → AllByRecursion Fits (register_for xs) × AllByRecursion HasKey (register_for xs)
register_fits [] h = (tt, tt)
register_fits (a ∷ xs) h = let r = register_fits xs h.1 in ((h.0, r.0), (refl, r.1))

-- The amount that a list has for a bidder.
found_affordable : (xs : List SheetEntry) (b : ℕ) → AllByRecursion (λ a. a.amount ≤ most_cents) xs → found xs b ≤ most_cents
found_affordable [] b h = omega arith
found_affordable (a ∷ xs) b h = go (eqb a.bidder b) (found_affordable xs b h.1)
  where
    go : (t : Bool) → found xs b ≤ most_cents → cond t a.amount (found xs b) ≤ most_cents
    go true ih = h.0
    go false ih = ih

found_nowhere : (xs : List SheetEntry) (b : ℕ) → (is_registered (register_for xs) b ≡ true → ⊥) → found xs b ≡ 0
found_nowhere [] b out = refl
found_nowhere (a ∷ xs) b out = go (eqb a.bidder b) out (found_nowhere xs b)
  where
    go : (t : Bool) → (cond t true (is_registered (register_for xs) b) ≡ true → ⊥)
        → ((is_registered (register_for xs) b ≡ true → ⊥) → found xs b ≡ 0)
        → cond t a.amount (found xs b) ≡ 0
    go true out ih = absurd (out refl)
    go false out ih = ih out

-- Where bidders rise, each listed amount is found.
abbrev FoundIn : List SheetEntry → ℕ → List SheetEntry → Type 0
FoundIn xs m ys = AllByRecursion (λ a. (m ≤ a.bidder) × (found xs a.bidder ≡ a.amount)) ys

found_behind : (x : SheetEntry) (xs : List SheetEntry) (m : ℕ) (ys : List SheetEntry) → m ≤ x.bidder
    → FoundIn xs (suc x.bidder) ys → FoundIn (x ∷ xs) m ys
found_behind x xs m [] l h = tt
found_behind x xs m (y ∷ ys) l h =
    let low = h.0.0 in
    let other : eqb x.bidder y.bidder ≡ false = ne_eqb _ _ (λ e. omega arith) in
    ((omega arith, ap (λ t. cond t x.amount (found xs y.bidder)) other ∙ h.0.1), found_behind x xs m ys l h.1)

all_found : (m : ℕ) (xs : List SheetEntry) → RisesFrom m (register_for xs) → FoundIn xs m xs
all_found m [] r = tt
all_found m (x ∷ xs) r = (
  (r.0, ap (λ t. cond t x.amount (found xs x.bidder)) (eq-eqb x.bidder x.bidder refl)),
  found_behind x xs m xs r.0 (all_found (suc x.bidder) xs r.1),
)

module _ (v : Variant) (lot : ℕ) (terms : Bytes) (amounts : List SheetEntry)
    (lot_fits : lot < 2 ^ 32) (short : length terms ≤ 64) (c : CanStand amounts) where
  abbrev sold : Sale
  sold = record { variant = v; lot = lot; terms = terms; register = register_for amounts }

  register_lawful : rises_from 0 (register_for amounts) ≡ true
  register_lawful = register_rises 0 amounts c.rising (λ l. omega arith)

  keyed : AllByRecursion HasKey (register_for amounts)
  keyed = (register_fits amounts c.bidders).1

  makeable : IsMakeable sold
  makeable =
      let n : length (register_for amounts) ≡ length amounts = length-map amounts entry_for_bidder in
      record {
        lot = lot_fits;
        terms = short;
        register =
            and_from (leb 1 (length (register_for amounts))) _ (le-leb _ _ (omega (arith, n, c.some)))
            (and_from (leb (length (register_for amounts)) 64) _ (le-leb _ _ (omega (arith, n, c.few))) register_lawful);
        bidders = (register_fits amounts c.bidders).0;
      }

  -- Every list of bidders with amounts has a closed room in which these stand.
  pub room_with : RoomWith v lot terms amounts
  room_with =
      let r : RoomOf sold (found amounts) =
      room_of sold makeable keyed (found amounts) (λ b. found_affordable amounts b c.affordable) (found_nowhere amounts) in
      let listed : AllByRecursion (λ a. Stands r.x a.bidder a.amount) amounts =
      All-weaker (λ a. (0 ≤ a.bidder) × (found amounts a.bidder ≡ a.amount)) (λ a. Stands r.x a.bidder a.amount)
      (λ a h. subst (Stands r.x a.bidder) h.1 (r.stands a.bidder)) amounts
      (all_found 0 amounts (rises 0 (register_for amounts) register_lawful)) in
      let are : AmountsStand r.x amounts = record {
        bidders = ap (λ s. map (λ e. e.bidder) s.register) r.of_the_sale ∙ register_bidders amounts;
        stand = listed;
      } in
      record {
        x = r.x;
        register = register_for amounts;
        of_the_sale = r.of_the_sale;
        bidders = register_bidders amounts;
        keys = keyed;
        is_closed = r.is_closed;
        listed_stand = listed;
        others_stand_with_0 = λ b out. subst (Stands r.x b) (found_nowhere amounts b out) (r.stands b);
        prints = subst (λ l. Prints r.x (page l (above_0 amounts))) (ap (λ s. s.lot) r.of_the_sale) (prints_above_0 r.x r.is_closed amounts are);
      }
