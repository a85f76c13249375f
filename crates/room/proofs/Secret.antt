-- Until the closing a room answers the same whatever the letters are.
use Rattle.std.proofs.Common.{◌≡◌, ℕ, Bool, true, false, cond, eqb, List, [], ◌∷◌, length, Some, Ok, Err, sym, refl, ap, ◌∙◌, ap₂}
use Rattle.std.specs.List.{AllZip}
use Rattle.std.specs.Str.{bytes_eq}
use Rattle.std.proofs.lemmas.Slice.Eq.{bytes_eq-Decides}
use Rattle.envelope.specs.Heads.{lot_of, bidder_of, sequence_of}
use Rattle.envelope.specs.Envelopes.{tag_part}
use Rattle.room.specs.Sales.{Bytes, Sale, Lodging, tag_due}
use Rattle.room.specs.Rooms.{sequence_in}
use Rattle.room.specs.Calls.{Call, LodgingOf, Asking, Closing, Opening, Answer, Sizes}
use Rattle.room.specs.Runs.{answers_to_closing}
use Rattle.room.specs.Sealings.{Sealed, SameButForALetter, equal_calls, but_for_a_letter}
use Rattle.room.proofs.Law.{Kept, Taking, verdict_by, verdict, kept_after, kept_with, asking_answer, meetings}
use Rattle.room.proofs.Bids.{bid_long, bid_lot, bid_bidder, bid_sequence, bid_right}

module _ (s : Sale) where
  -- All of an envelope that an answer before closing can hang on.
  record Twins (x y : Bytes) : Type 0 where
    long : length x ≡ length y
    lot : lot_of x ≡ lot_of y
    bidder : bidder_of x ≡ bidder_of y
    sequence : sequence_of x ≡ sequence_of y
    right : bytes_eq (tag_part x) (tag_due s x) ≡ bytes_eq (tag_part y) (tag_due s y)

  twins_refl : (x : Bytes) → Twins x x
  twins_refl x = record { long = refl; lot = refl; bidder = refl; sequence = refl; right = refl }

  twins_sealed : (l b n : ℕ) (x y : Bytes) → Sealed s l b n x → Sealed s l b n y → Twins x y
  twins_sealed l b n x y p q = record {
    long = bid_long s l b n x p ∙ sym (bid_long s l b n y q);
    lot = bid_lot s l b n x p ∙ sym (bid_lot s l b n y q);
    bidder = bid_bidder s l b n x p ∙ sym (bid_bidder s l b n y q);
    sequence = bid_sequence s l b n x p ∙ sym (bid_sequence s l b n y q);
    right = (bytes_eq-Decides _ _).1 (bid_right s l b n x p) ∙ sym ((bytes_eq-Decides _ _).1 (bid_right s l b n y q));
  }

  -- What is kept is of equal sequence for each bidder.
  abbrev Alike : Kept → Kept → Type 0
  Alike k l = (b : ℕ) → sequence_in (k b) ≡ sequence_in (l b)

  module _ (k l : Kept) (a : Alike k l) (x y : Bytes) (t : Twins x y) where
    same_last : sequence_in (k (bidder_of x)) ≡ sequence_in (l (bidder_of y))
    same_last = ap (λ b. sequence_in (k b)) t.bidder ∙ a (bidder_of y)

    same_verdict : verdict s k (record { envelope = x }) ≡ verdict s l (record { envelope = y })
    same_verdict = λ i. verdict_by s (t.long i) (t.lot i) (t.bidder i) (t.sequence i) (same_last i) (t.right i)

    same_kept_with : (b : ℕ) → sequence_in (kept_with x k b) ≡ sequence_in (kept_with y l b)
    same_kept_with b = ap (λ c. sequence_in (cond (eqb c b) (Some x) (k b))) t.bidder ∙ go (eqb (bidder_of y) b)
      where
        go : (c : Bool) → sequence_in (cond c (Some x) (k b)) ≡ sequence_in (cond c (Some y) (l b))
        go true = t.sequence
        go false = a b

    same_kept_after : (v : Answer) → Alike (kept_after v k x) (kept_after v l y)
    same_kept_after (Ok n) b = same_kept_with b
    same_kept_after (Err f) b = a b

  data SameCall : Call → Call → Type 0 where
    lodges : {x y : Lodging} → Twins x.envelope y.envelope → SameCall (LodgingOf x) (LodgingOf y)
    asks : {b : ℕ} → SameCall (Asking b) (Asking b)
    closes : SameCall Closing Closing
    opens : {o : Sizes} → SameCall (Opening o) (Opening o)

  same_call : (c : Call) → SameCall c c
  same_call (LodgingOf x) = lodges (twins_refl x.envelope)
  same_call (Asking b) = asks
  same_call Closing = closes
  same_call (Opening o) = opens

  same_but_letter : {c d : Call} → SameButForALetter s c d → SameCall c d
  same_but_letter (equal_calls {c}) = same_call c
  same_but_letter (but_for_a_letter {lot} {bidder} {sequence} {l} {m} p q) = lodges (twins_sealed lot bidder sequence l.envelope m.envelope p q)

  step : (c d : Call) (cs ds : List Call) → SameCall c d → ((k l : Kept) → Alike k l → answers_to_closing (meetings s (Taking k) cs) ≡ answers_to_closing (meetings s (Taking l) ds)) → (k l : Kept) → Alike k l → answers_to_closing (meetings s (Taking k) (c ∷ cs)) ≡ answers_to_closing (meetings s (Taking l) (d ∷ ds))
  step c d cs ds (lodges {x} {y} t) ih k l a =
      ap (λ v. v ∷ answers_to_closing (meetings s (Taking (kept_after v k x.envelope)) cs)) (same_verdict k l a x.envelope y.envelope t)
      ∙ ap (λ r. verdict s l y ∷ r) (ih _ _ (same_kept_after k l a x.envelope y.envelope t (verdict s l y)))
  step c d cs ds (asks {b}) ih k l a = ap₂ ◌∷◌ (ap (asking_answer s b) (a b)) (ih k l a)
  step c d cs ds closes ih k l a = refl
  step c d cs ds opens ih k l a = ap₂ ◌∷◌ refl (ih k l a)

  pub secret : (cs ds : List Call) → AllZip (SameButForALetter s) cs ds → (k l : Kept) → Alike k l → answers_to_closing (meetings s (Taking k) cs) ≡ answers_to_closing (meetings s (Taking l) ds)
  secret [] [] h k l a = refl
  secret [] (d ∷ ds) h k l a = absurd h
  secret (c ∷ cs) [] h k l a = absurd h
  secret (c ∷ cs) (d ∷ ds) h k l a = step c d cs ds (same_but_letter h.0) (secret cs ds h.1) k l a
