-- Facts about the slots of a room: the first slot of a bidder, and the envelope that a slot keeps.
use Rattle.std.proofs.Common.{◌≡◌, ℕ, zero, suc, ◌+◌, ◌^◌, ◌<◌, ◌≤◌, Bool, true, false, cond, eqb, List, [], ◌∷◌, ◌++◌, map, length, get_or, take, drop, set, Some, None, Ok, Err, Result, sym, refl, ap, ◌∙◌, subst, ap₂, add-one, arith}
use Rattle.std.specs.List.Sorted.{IsStrictlyIncreasing}
use Rattle.std.proofs.lemmas.Bool.{ne_eqb, eq-eqb, eqb-true}
use Rattle.std.proofs.lemmas.List.{take_at, drop-drop, take-append-drop, length-drop, map-set, set-get_or, take-map}
use Rattle.fault.specs.Checks.{by_answer}
use Rattle.engine.specs.declared.variants.Variant.{Variant}
use Rattle.cipher.specs.Mode.{tag_size}
use Rattle.envelope.specs.Heads.{head, lot_of, bidder_of, sequence_of}
use Rattle.envelope.specs.Envelopes.{envelope_size, sealed_part, tag_part}
use Rattle.envelope.proofs.HeadLaws.{sequence_back}
use Rattle.room.specs.Sales.{Bytes, is_registered, key_of}
use Rattle.envelope.specs.Parts.{BidParts}
use Rattle.room.specs.Reading.{filled_by}
use Rattle.room.specs.Rising.{RiseByBidder}
use Rattle.room.specs.Rooms.{entry_of, kept_for, sequence_in, holdings_with, filled_slot, slots_with, envelope_in, holding_of}
use Rattle.room.specs.Slots.{new_slot, HasNone}
use Rattle.room.specs.declared.register.RegisterEntry.{RegisterEntry}
use Rattle.room.specs.declared.slots.Slot.{Slot}

-- What a read behind the last slot would give.
abbrev pub no_slot : Slot
no_slot = record { bidder = 0; key = []; sequence = 0; letter = []; tag = [] }

-- A slot's sequence is that of its envelope.
pub last_is : (v : Variant) (lot : ℕ) (x : Slot) → x.sequence < 2 ^ 32 → sequence_in (envelope_in v lot x) ≡ x.sequence
last_is v lot x h = go (eqb x.sequence 0) refl
  where
    go : (t : Bool) → eqb x.sequence 0 ≡ t → sequence_in (cond t None (Some (head lot x.bidder x.sequence ++ (x.letter ++ take (tag_size v) x.tag)))) ≡ x.sequence
    go true e = sym (eqb-true x.sequence 0 e)
    go false e = sequence_back lot x.bidder x.sequence _ h

-- An accepted envelope is the one that its slot keeps.
pub whole : (e : Bytes) → take 12 e ++ (take 64 (drop 12 e) ++ drop 76 e) ≡ e
whole e =
    ap (λ r. take 12 e ++ (take 64 (drop 12 e) ++ r)) (sym (drop-drop 64 12 e))
    ∙ ap (λ r. take 12 e ++ r) (take-append-drop 64 (drop 12 e))
    ∙ take-append-drop 12 e

-- The head of an envelope is that of what it names: so it is wherever it is made of bytes.
abbrev pub HasHead : Bytes → Type 0
HasHead e = head (lot_of e) (bidder_of e) (sequence_of e) ≡ take 12 e

pub kept_is : (v : Variant) (lot : ℕ) (x : Slot) (e : Bytes) → length e ≡ envelope_size v → HasHead e → lot_of e ≡ lot → x.bidder ≡ bidder_of e → 0 < sequence_of e
    → holding_of v lot (filled_slot x (sequence_of e) e) ≡ record { bidder = x.bidder; key = x.key; envelope = Some e }
kept_is v lot x e long its_head its its_bidder some =
    let n : (sequence_of e ≡ 0 → ⊥) = λ z. omega arith in
    let t : length (tag_part e) ≡ tag_size v = length-drop 76 e ∙ omega arith in
    let h : head lot x.bidder (sequence_of e) ≡ take 12 e = ap₂ (λ l b. head l b (sequence_of e)) (sym its) its_bidder ∙ its_head in
    let k : take (tag_size v) (tag_part e ++ drop (length (tag_part e)) x.tag) ≡ tag_part e = take_at (tag_part e) (drop (length (tag_part e)) x.tag) (tag_size v) t in
    let w : head lot x.bidder (sequence_of e) ++ (sealed_part e ++ take (tag_size v) (tag_part e ++ drop (length (tag_part e)) x.tag)) ≡ e = ap₂ (λ a b. a ++ (sealed_part e ++ b)) h k ∙ whole e in
    rw (ne_eqb (sequence_of e) 0 n) (ap (λ z. record { bidder = x.bidder; key = x.key; envelope = Some z }) w)

module _ (v : Variant) (lot : ℕ) (d : Slot) where
  -- Where no slot is the bidder's, it is not registered.
  pub none_known : (xs : List Slot) (b : ℕ) → HasNone xs b → is_registered (map entry_of (map (holding_of v lot) xs)) b ≡ false
  none_known [] b h = refl
  none_known (x ∷ xs) b h = rw (ne_eqb x.bidder b (h 0 x (omega arith))) (none_known xs b (λ k d l. h (suc k) d (omega arith)))

  -- At the first slot of a bidder.
  pub placed : (xs : List Slot) (i b : ℕ) → i < length xs → (get_or xs i d).bidder ≡ b → ((k : ℕ) → k < i → (get_or xs k d).bidder ≡ b → ⊥)
      → (is_registered (map entry_of (map (holding_of v lot) xs)) b ≡ true) × (key_of (map entry_of (map (holding_of v lot) xs)) b ≡ (get_or xs i d).key) × (kept_for (map (holding_of v lot) xs) b ≡ envelope_in v lot (get_or xs i d))
  placed [] i b l h none = absurd (omega arith)
  placed (x ∷ xs) zero b l h none = rw (eq-eqb _ _ h) (refl, refl, refl)
  placed (x ∷ xs) (suc i) b l h none = rw (ne_eqb _ _ (none 0 (omega arith))) (placed xs i b (omega arith) h (λ k m. none (suc k) (omega arith)))

  pub put_at : (e : Bytes) (xs : List Slot) (i : ℕ) (y : Slot) → i < length xs → (get_or xs i d).bidder ≡ bidder_of e → ((k : ℕ) → k < i → (get_or xs k d).bidder ≡ bidder_of e → ⊥)
      → holding_of v lot y ≡ record { bidder = (get_or xs i d).bidder; key = (get_or xs i d).key; envelope = Some e }
      → map (holding_of v lot) (set xs i y) ≡ holdings_with e (map (holding_of v lot) xs)
  put_at e [] i y l h none f = absurd (omega arith)
  put_at e (x ∷ xs) zero y l h none f = rw (eq-eqb _ _ h) (ap (λ z. z ∷ map (holding_of v lot) xs) f)
  put_at e (x ∷ xs) (suc i) y l h none f =
      rw (ne_eqb _ _ (none 0 (omega arith))) (ap (λ zs. holding_of v lot x ∷ zs) (put_at e xs i y (omega arith) h (λ k m. none (suc k) (omega arith)) f))

-- Filling the first slot of the envelope's bidder.
pub filled_at : (e : Bytes) (d : Slot) (xs : List Slot) (i : ℕ) → i < length xs → (get_or xs i d).bidder ≡ bidder_of e → ((k : ℕ) → k < i → (get_or xs k d).bidder ≡ bidder_of e → ⊥)
    → set xs i (filled_slot (get_or xs i d) (sequence_of e) e) ≡ slots_with e xs
filled_at e d [] i l h none = absurd (omega arith)
filled_at e d (x ∷ xs) zero l h none = rw (eq-eqb _ _ h) refl
filled_at e d (x ∷ xs) (suc i) l h none =
    rw (ne_eqb _ _ (none 0 (omega arith))) (ap (λ zs. x ∷ zs) (filled_at e d xs i (omega arith) h (λ k m. none (suc k) (omega arith))))

-- New slots, one more.
slots_suc : (rs : List RegisterEntry) (d : List Slot) (i : ℕ) (z : RegisterEntry) → i < length rs → length rs ≤ length d
    → set (map new_slot (take i rs) ++ drop i d) i (new_slot (get_or rs i z)) ≡ map new_slot (take (suc i) rs) ++ drop (suc i) d
slots_suc [] d i z l m = absurd (omega arith)
slots_suc (r ∷ rs) [] i z l m = absurd (omega arith)
slots_suc (r ∷ rs) (x ∷ d) zero z l m = refl
slots_suc (r ∷ rs) (x ∷ d) (suc i) z l m = ap (λ ys. new_slot r ∷ ys) (slots_suc rs d i z (omega arith) (omega arith))

pub slots_more : (rs : List RegisterEntry) (d : List Slot) (i : ℕ) (z : RegisterEntry) → i < length rs → length rs ≤ length d
    → set (map new_slot (take i rs) ++ drop i d) i (new_slot (get_or rs i z)) ≡ map new_slot (take (i + 1) rs) ++ drop (i + 1) d
slots_more rs d i z l m = rw add-one (slots_suc rs d i z l m)

-- Slots that rise do so after one of them is written with the same bidder.
module _ (n i : ℕ) (y : Slot) (xs : List Slot) (same : y.bidder ≡ (get_or xs i no_slot).bidder) where
  abbrev bidder : Slot → ℕ
  bidder x = x.bidder

  same_bidders : map bidder (set xs i y) ≡ map bidder xs
  same_bidders =
      map-set bidder xs i y ∙ ap (set (map bidder xs) i) same ∙ sym (map-set bidder xs i (get_or xs i no_slot)) ∙ ap (map bidder) (set-get_or xs i no_slot)

  pub still_rise : RiseByBidder (take n xs) → RiseByBidder (take n (set xs i y))
  still_rise = subst IsStrictlyIncreasing (sym (take-map bidder n xs) ∙ ap (take n) (sym same_bidders) ∙ take-map bidder n (set xs i y))

-- Whether a bid is kept in a slot or not, its bidder is the same.
pub same_bidder : {F : Type 0} (a : Result ℕ F) (x y : Slot) (b : BidParts) → y ≡ by_answer a (filled_by b x) x → y.bidder ≡ x.bidder
same_bidder (Ok m) x y b h = ap (λ z. z.bidder) h
same_bidder (Err f) x y b h = ap (λ z. z.bidder) h
