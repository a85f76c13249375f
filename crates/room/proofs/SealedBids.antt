-- Bids of granted sealings, which every sale has for every registered bidder and amount.
use Rattle.std.proofs.Common.{◌≡◌, ℕ, ◌^◌, ◌<◌, ◌≤◌, Bool, true, false, cond, eqb, List, [], ◌∷◌, length, replicate, Ok, refl, sym, ap, ◌∙◌, subst}
use lib.ListN.{length-replicate}
use Rattle.std.specs.List.{AllByRecursion}
use Rattle.std.proofs.lemmas.Bool.{eqb-true, eq-eqb, le-leb, both_ways}
use Rattle.envelope.specs.Letters.{most_cents}
use Rattle.envelope.specs.Heads.{head}
use Rattle.envelope.specs.Envelopes.{bid, envelope_size, head_part}
use Rattle.envelope.specs.Calls.{bid_answer}
use Rattle.envelope.proofs.Laws.{bid_head}
use Rattle.engine.specs.declared.variants.Variant.{Variant}
use Rattle.room.specs.Sales.{Bytes, Sale, Lodging, is_registered, key_of}
use Rattle.room.specs.Sealings.{Sealed}
use Rattle.room.specs.declared.register.RegisterEntry.{RegisterEntry}
use Rattle.room.proofs.Bids.{bid_lot, bid_bidder, bid_sequence}
use Rattle.room.proofs.CodeMaking.{Fits}
use Rattle.room.proofs.CodeSlots.{HasHead}
use Rattle.room.proofs.ClosedRooms.{IsMakeable}

abbrev pub HasKey : RegisterEntry → Type 0
HasKey x = length x.key ≡ 16

-- The entry of a registered bidder.
pub entry_for : (P : RegisterEntry → Type 0) (xs : List RegisterEntry) (b : ℕ) → AllByRecursion P xs → is_registered xs b ≡ true
    → (x : RegisterEntry) × P x × (x.bidder ≡ b) × (key_of xs b ≡ x.key)
entry_for P [] b all known = absurd (both_ways false refl known)
entry_for P (x ∷ xs) b all known = go (eqb x.bidder b) refl known (entry_for P xs b all.1)
  where
    go : (t : Bool) → eqb x.bidder b ≡ t → cond t true (is_registered xs b) ≡ true
        → (is_registered xs b ≡ true → (y : RegisterEntry) × P y × (y.bidder ≡ b) × (key_of xs b ≡ y.key))
        → (y : RegisterEntry) × P y × (y.bidder ≡ b) × (cond t x.key (key_of xs b) ≡ y.key)
    go true same k ih = (x, all.0, eqb-true _ _ same, refl)
    go false other k ih = ih k

-- Sealing is granted, with no note and a place of the variant's length.
pub sealing_granted : (v : Variant) (key place : Bytes) (amount : ℕ)
    → length key ≡ 16 → length place ≡ envelope_size v → amount ≤ most_cents → bid_answer v key amount [] place ≡ Ok tt
sealing_granted v key place amount k l affordable = rw (eq-eqb _ _ k, eq-eqb _ _ l, le-leb _ _ affordable) refl

module _ (s : Sale) where
  -- The lodging of a bid of an amount in a sale, with the sequence n and no note.
  abbrev pub bid_in : ℕ → ℕ → ℕ → Lodging
  bid_in b n amount = record { envelope = bid s.variant (key_of s.register b) s.terms s.lot b n amount [] }

  abbrev pub sealed_in : IsMakeable s → AllByRecursion HasKey s.register → (b n amount : ℕ)
      → is_registered s.register b ≡ true → n < 2 ^ 32 → amount ≤ most_cents → Sealed s s.lot b n (bid_in b n amount).envelope
  sealed_in m keys b n amount known small affordable =
      let fit = entry_for Fits s.register b m.bidders known in
      let keyed = entry_for HasKey s.register b keys known in
      let place : Bytes = replicate (envelope_size s.variant) 0 in
      record {
        amount = amount;
        note = [];
        place = place;
        lot_fits = m.lot;
        bidder_fits = subst (λ c. c < 2 ^ 32) fit.2 fit.1;
        sequence_fits = small;
        known = known;
        granted =
            sealing_granted s.variant (key_of s.register b) place amount (ap length keyed.3 ∙ keyed.1)
            (length-replicate (envelope_size s.variant) 0) affordable;
        is = refl;
      }

  pub sealed_head : (l b n : ℕ) (e : Bytes) → Sealed s l b n e → HasHead e
  sealed_head l b n e q =
      (λ i. head (bid_lot s l b n e q i) (bid_bidder s l b n e q i) (bid_sequence s l b n e q i))
      ∙ sym (ap head_part q.is ∙ bid_head s.variant (key_of s.register b) s.terms l b n q.amount q.note)
