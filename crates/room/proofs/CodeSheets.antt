-- Facts about the sheet of slots: one slot more, how long its page can be, and how both are written.
use Rattle.std.proofs.Common.{◌≡◌, ℕ, suc, ◌+◌, ◌*◌, ◌^◌, ◌<◌, ◌≤◌, Bool, true, false, cond, ltb, List, [], ◌∷◌, ◌++◌, map, length, get_or, take, drop, set, Some, None, Option, Ok, Ordering, Less, sym, refl, ap, ◌∙◌, ap₂, subst, arith}
use Rattle.std.specs.List.{flat_map, All, AllByRecursion}
use Rattle.std.specs.Str.{bytes_eq}
use Rattle.std.proofs.lemmas.Fmt.{length-decimal-le}
use Rattle.std.proofs.ByRecursion.{All-push, All-get_or, All-from_get_or}
use Rattle.std.proofs.lemmas.Bool.{lt-ltb, le-ltb, ltb-true, ltb-false}
use Rattle.std.proofs.lemmas.List.{take_at, drop_more, set_at, append_assoc, append-nil, length-append, map_more, take_more, get_or-map, get_or-take, length-map, length-take-le}
use Rattle.std.proofs.lemmas.List.Kept.{AllPairs-from_increasing}
use Rattle.engine.specs.declared.variants.Variant.{Variant}
use Rattle.cipher.specs.Mode.{tag, opened_text}
use Rattle.envelope.specs.Letters.{amount_offered}
use Rattle.envelope.specs.Envelopes.{head_part, sealed_part, tag_part}
use Rattle.envelope.proofs.Laws.{amount_in_le}
use Rattle.list.specs.Order.{by_key}
use Rattle.list.specs.Insertion.{answer_of, places_after}
use Rattle.list.proofs.Laws.{last_not_refused, last_placed, before_by_key}
use Rattle.room.specs.Limits.{most_bidders, most_page_bytes}
use Rattle.room.specs.Sales.{Bytes}
use Rattle.room.specs.Page.{row_of, rows, line, page}
use Rattle.room.specs.Rising.{RiseByBidder}
use Rattle.room.specs.Rooms.{Holding, Contents, envelope_in, holding_of}
use Rattle.room.proofs.CodeSlots.{no_slot}
use Rattle.room.specs.Calls.{amount_held, amount_of_holding, sheet_entries}
use Rattle.room.specs.Opening.{place_with}
use Rattle.room.specs.Slots.{room_of, sheet_in}
use Rattle.room.specs.declared.sheet.SheetEntry.{SheetEntry}
use Rattle.room.specs.declared.slots.Phase.TheVariants.{Closed}
use Rattle.room.specs.declared.slots.Slot.{Slot}
use Rattle.room.proofs.CodePages.{length_line, page_length}

-- A sheet, one slot more.
sheet_entries-append : (r : Contents) (hs ks : List Holding) → sheet_entries r (hs ++ ks) ≡ sheet_entries r hs ++ sheet_entries r ks
sheet_entries-append r [] ks = refl
sheet_entries-append r (h ∷ hs) ks = go (ltb 0 (amount_of_holding r h)) (sheet_entries-append r hs ks)
  where
    go : (t : Bool) → sheet_entries r (hs ++ ks) ≡ sheet_entries r hs ++ sheet_entries r ks
        → cond t (record { bidder = h.bidder; amount = amount_of_holding r h } ∷ sheet_entries r (hs ++ ks)) (sheet_entries r (hs ++ ks)) ≡ cond t (record { bidder = h.bidder; amount = amount_of_holding r h } ∷ sheet_entries r hs) (sheet_entries r hs) ++ sheet_entries r ks
    go true ih = ap (λ zs. record { bidder = h.bidder; amount = amount_of_holding r h } ∷ zs) ih
    go false ih = ih

module _ (v : Variant) (lot : ℕ) (terms : Bytes) where
  abbrev pub offered : Slot → ℕ
  offered x = amount_held v x.key terms (envelope_in v lot x)

  sheet_split : (xs : List Slot) (i : ℕ) → i < length xs → sheet_in v lot terms (take (i + 1) xs) ≡ sheet_in v lot terms (take i xs) ++ sheet_in v lot terms (get_or xs i no_slot ∷ [])
  sheet_split xs i l =
      ap (sheet_entries (room_of v lot terms Closed [])) (map_more (holding_of v lot) xs i no_slot l)
      ∙ sheet_entries-append (room_of v lot terms Closed []) (map (holding_of v lot) (take i xs)) (holding_of v lot (get_or xs i no_slot) ∷ [])

  pub sheet_more : (xs : List Slot) (i n : ℕ) → i < length xs → n ≡ offered (get_or xs i no_slot) → 0 < n
      → sheet_in v lot terms (take (i + 1) xs) ≡ sheet_in v lot terms (take i xs) ++ (record { bidder = (get_or xs i no_slot).bidder; amount = n } ∷ [])
  sheet_more xs i n l e h =
      let q : sheet_in v lot terms (get_or xs i no_slot ∷ []) ≡ record { bidder = (get_or xs i no_slot).bidder; amount = offered (get_or xs i no_slot) } ∷ [] = rw (lt-ltb 0 (offered (get_or xs i no_slot)) (omega arith)) in
      sheet_split xs i l ∙ ap (λ zs. sheet_in v lot terms (take i xs) ++ zs) (q ∙ ap (λ m. record { bidder = (get_or xs i no_slot).bidder; amount = m } ∷ []) (sym e))

  pub sheet_same : (xs : List Slot) (i n : ℕ) → i < length xs → n ≡ offered (get_or xs i no_slot) → n ≤ 0 → sheet_in v lot terms (take (i + 1) xs) ≡ sheet_in v lot terms (take i xs)
  sheet_same xs i n l e h =
      let q : sheet_in v lot terms (get_or xs i no_slot ∷ []) ≡ [] = rw (le-ltb 0 (offered (get_or xs i no_slot)) (omega arith)) in
      sheet_split xs i l ∙ ap (λ zs. sheet_in v lot terms (take i xs) ++ zs) q ∙ append-nil (sheet_in v lot terms (take i xs))

  pub sheet_le : (xs : List Slot) → length (sheet_in v lot terms xs) ≤ length xs
  sheet_le [] = omega arith
  sheet_le (x ∷ xs) = go (ltb 0 (offered x)) (sheet_le xs)
    where
      go : (t : Bool) → length (sheet_in v lot terms xs) ≤ length xs
          → length (cond t (record { bidder = x.bidder; amount = offered x } ∷ sheet_in v lot terms xs) (sheet_in v lot terms xs)) ≤ suc (length xs)
      go true h = omega arith
      go false h = omega arith

-- What is taken of a place that was written over.
pub over_taken : {X : Type 0} (s old new : List X) (n : ℕ) → n ≡ length s → new ≡ place_with s old → take n new ≡ s
over_taken s old new n en e = ap₂ take en e ∙ take_at s (drop (length s) old) (length s) refl

-- Among slots that rise, those in front of a slot have lower bidders.
front_below : (xs : List Slot) (i : ℕ) → RiseByBidder xs → i < length xs → AllByRecursion (λ x. x.bidder < (get_or xs i no_slot).bidder) (take i xs)
front_below xs i up l =
    All-from_get_or (λ x. x.bidder < (get_or xs i no_slot).bidder) (take i xs) no_slot
    (λ k w.
    let long = length-take-le i xs (omega arith) in
    let at_k : get_or (map (λ x. x.bidder) xs) k 0 ≡ (get_or (take i xs) k no_slot).bidder =
    get_or-map (λ x. x.bidder) xs k no_slot 0 (omega arith) ∙ ap (λ x. x.bidder) (sym (get_or-take i xs k no_slot (omega arith))) in
    let at_i = get_or-map (λ x. x.bidder) xs i no_slot 0 l in
    let below = AllPairs-from_increasing (map (λ x. x.bidder) xs) up k i 0 (omega arith) (omega (arith, length-map xs (λ x. x.bidder))) in
    omega arith)

-- So the entries on their sheet have lower bidders too, and the slot's own comes last.
below_on_sheet : (v : Variant) (lot : ℕ) (terms : Bytes) (b : ℕ) (xs : List Slot) → AllByRecursion (λ x. x.bidder < b) xs → AllByRecursion (λ x. x.bidder < b) (sheet_in v lot terms xs)
below_on_sheet v lot terms b [] h = tt
below_on_sheet v lot terms b (x ∷ xs) h = go (ltb 0 (offered v lot terms x)) (below_on_sheet v lot terms b xs h.1)
  where
    go : (t : Bool) → AllByRecursion (λ y. y.bidder < b) (sheet_in v lot terms xs)
        → AllByRecursion (λ y. y.bidder < b) (cond t (record { bidder = x.bidder; amount = offered v lot terms x } ∷ sheet_in v lot terms xs) (sheet_in v lot terms xs))
    go true s = (h.0, s)
    go false s = s

pub comes_last : (v : Variant) (lot : ℕ) (terms : Bytes) (xs : List Slot) (i n b : ℕ) (sheet old : List SheetEntry) → RiseByBidder xs → i < length xs → b ≡ (get_or xs i no_slot).bidder
    → n ≡ length (sheet_in v lot terms (take i xs)) → sheet ≡ place_with (sheet_in v lot terms (take i xs)) old → All (λ x. x.bidder < b) (take n sheet)
comes_last v lot terms xs i n b sheet old up l eb en es =
    let s = sheet_in v lot terms (take i xs) in
    let below = below_on_sheet v lot terms (get_or xs i no_slot).bidder (take i xs) (front_below xs i up l) in
    let P : List SheetEntry → Type 0 = λ zs. All (λ x. x.bidder < b) zs in
    subst P (sym (over_taken s old sheet n en es)) (λ k d w. let m = All-get_or (λ x. x.bidder < (get_or xs i no_slot).bidder) s k d w below in omega arith)

pub over_push : {X : Type 0} (s old : List X) (n : ℕ) (y : X) → n ≡ length s → n < length old → set (place_with s old) n y ≡ place_with (s ++ (y ∷ [])) old
over_push s old n y e h =
    ap (λ z. set (s ++ z) n y) (drop_more old (length s) y (omega arith))
    ∙ set_at s (get_or old (length s) y) (drop (length s + 1) old) y n (sym e)
    ∙ sym (append_assoc s (y ∷ []) (drop (length s + 1) old))
    ∙ ap (λ k. (s ++ (y ∷ [])) ++ drop k old) (sym (length-append s (y ∷ [])))

-- The step of going through the slots.
pub sheet_step : (v : Variant) (lot : ℕ) (terms : Bytes) (xs : List Slot) (i n b m : ℕ) (sheet old : List SheetEntry) → i < length xs → b ≡ (get_or xs i no_slot).bidder → m ≡ offered v lot terms (get_or xs i no_slot)
    → n ≡ length (sheet_in v lot terms (take i xs)) → sheet ≡ place_with (sheet_in v lot terms (take i xs)) old → n < length old → n ≤ i
    → (cond (ltb 0 m) (n + 1) n ≡ length (sheet_in v lot terms (take (i + 1) xs)))
    × (cond (ltb 0 m) (set sheet n (record { bidder = b; amount = m })) sheet ≡ place_with (sheet_in v lot terms (take (i + 1) xs)) old)
    × (cond (ltb 0 m) (n + 1) n ≤ i + 1)
sheet_step v lot terms xs i n b m sheet old l eb em en es h le = go (ltb 0 m) refl
  where
    go : (t : Bool) → ltb 0 m ≡ t
        → (cond t (n + 1) n ≡ length (sheet_in v lot terms (take (i + 1) xs)))
        × (cond t (set sheet n (record { bidder = b; amount = m })) sheet ≡ place_with (sheet_in v lot terms (take (i + 1) xs)) old)
        × (cond t (n + 1) n ≤ i + 1)
    go true e =
        let x : SheetEntry = record { bidder = b; amount = m } in
        let q : sheet_in v lot terms (take (i + 1) xs) ≡ sheet_in v lot terms (take i xs) ++ (x ∷ []) =
        sheet_more v lot terms xs i m l em (ltb-true 0 m e) ∙ ap (λ c. sheet_in v lot terms (take i xs) ++ (record { bidder = c; amount = m } ∷ [])) (sym eb) in
        let k : length (sheet_in v lot terms (take (i + 1) xs)) ≡ length (sheet_in v lot terms (take i xs)) + 1 = ap length q ∙ length-append (sheet_in v lot terms (take i xs)) (x ∷ []) in
        (omega arith, ap (λ z. set z n x) es ∙ over_push (sheet_in v lot terms (take i xs)) old n x en h ∙ ap (λ z. place_with z old) (sym q), omega arith)
    go false e =
        let q = sheet_same v lot terms xs i m l em (ltb-false 0 m e) in
        (en ∙ ap length (sym q), es ∙ ap (λ z. place_with z old) (sym q), omega arith)

-- How long a page can be.
abbrev pub Small : SheetEntry → Type 0
Small x = (x.bidder < 2 ^ 32) × (x.amount ≤ 999999999999)

abbrev pub Fits : Slot → Type 0
Fits x = x.bidder < 2 ^ 32

pub fits_more : (xs : List Slot) (i : ℕ) → i < length xs → AllByRecursion Fits (take i xs) → Fits (get_or xs i no_slot) → AllByRecursion Fits (take (i + 1) xs)
fits_more xs i l a f = rw (take_more xs i no_slot l) (All-push Fits (take i xs) (get_or xs i no_slot) a f)

amount_le : (v : Variant) (key terms : Bytes) (o : Option Bytes) → amount_held v key terms o ≤ 999999999999
amount_le v key terms None = omega arith
amount_le v key terms (Some e) = go (bytes_eq (tag_part e) (tag v key (head_part e) terms (sealed_part e)))
  where
    go : (b : Bool) → cond b (amount_offered (opened_text v key (head_part e) (sealed_part e))) 0 ≤ 999999999999
    go true = amount_in_le (opened_text v key (head_part e) (sealed_part e))
    go false = omega arith

small_sheet : (v : Variant) (lot : ℕ) (terms : Bytes) (xs : List Slot) → AllByRecursion Fits xs → AllByRecursion Small (sheet_in v lot terms xs)
small_sheet v lot terms [] h = tt
small_sheet v lot terms (x ∷ xs) h = go (ltb 0 (offered v lot terms x)) (small_sheet v lot terms xs h.1)
  where
    go : (t : Bool) → AllByRecursion Small (sheet_in v lot terms xs) → AllByRecursion Small (cond t (record { bidder = x.bidder; amount = offered v lot terms x } ∷ sheet_in v lot terms xs) (sheet_in v lot terms xs))
    go true s = ((h.0, amount_le v x.key terms (envelope_in v lot x)), s)
    go false s = s

line_le : (lot : ℕ) (x : SheetEntry) → lot < 2 ^ 32 → Small x → length (line (row_of lot x)) ≤ 35
line_le lot x h s =
    let a = length-decimal-le 10 lot (omega arith) (omega arith) (omega arith) in
    let b = length-decimal-le 10 x.bidder (omega arith) (omega (arith, s.0)) (omega (arith, s.0)) in
    let c = length-decimal-le 12 x.amount (omega arith) (omega (arith, s.1)) (omega (arith, s.1)) in
    let e = length_line (row_of lot x) in
    omega arith

lines_le : (lot : ℕ) (xs : List SheetEntry) → lot < 2 ^ 32 → AllByRecursion Small xs → length (flat_map line (rows lot xs)) ≤ 35 * length xs
lines_le lot [] h s = omega arith
lines_le lot (x ∷ xs) h s =
    let a = line_le lot x h s.0 in
    let b = lines_le lot xs h s.1 in
    let c = length-append (line (row_of lot x)) (flat_map line (rows lot xs)) in
    omega arith

pub page_fits : (v : Variant) (lot : ℕ) (terms : Bytes) (xs : List Slot) → lot < 2 ^ 32 → length xs ≤ most_bidders → AllByRecursion Fits xs → length (page lot (sheet_in v lot terms xs)) ≤ most_page_bytes
page_fits v lot terms xs h few all =
    let a = lines_le lot (sheet_in v lot terms xs) h (small_sheet v lot terms xs all) in
    let b = sheet_le v lot terms xs in
    let c = page_length lot (sheet_in v lot terms xs) in
    omega arith

-- An entry of an amount above 0 that comes after all others on the sheet: the list grants it the next place.
module _ (ps : List SheetEntry) (n : ℕ) (x : SheetEntry) (room : n < length ps) (last : All (λ y. y.bidder < x.bidder) (take n ps)) where
  abbrev by_bidder : SheetEntry → SheetEntry → Ordering
  by_bidder = by_key (λ y. y.bidder)

  before : (k : ℕ) (d : SheetEntry) → k < n → by_bidder (get_or ps k d) x ≡ Less
  before k d l =
      let w = length-take-le n ps (omega arith) in
      let e = ap (λ y. y.bidder) (get_or-take n ps k d l) in
      before_by_key (λ y. y.bidder) (get_or ps k d) x (omega (arith, last k d (omega arith)))

  pub granted_next : answer_of by_bidder x ps n ≡ Ok (n + 1)
  granted_next = rw (last_not_refused by_bidder x ps n room before) refl

  pub placed_next : places_after by_bidder x ps n ≡ set ps n x
  placed_next = last_placed by_bidder x ps n room before
