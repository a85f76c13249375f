-- Reading of envelopes: the head first, and then the bid in the rest.
use Rattle.std.proofs.Common.{◌≡◌, ℕ, ◌<◌, ◌≤◌, Bool, true, false, cond, leb, List, length, drop, Some, None, Option, ◌==◌, sym, refl, ap, ◌∙◌, arith}
use Rattle.std.specs.Prelude.{MatchOption}
use Rattle.std.proofs.lemmas.Bool.{eq-eqb, ne_eqb, eqb-true, eqb-false, leb-true, leb-false}
use Rattle.std.proofs.lemmas.List.{drop-drop, length-drop}
use Rattle.engine.specs.declared.variants.Variant.{Variant}
use Rattle.envelope.specs.Heads.{head_bytes, lot_of, bidder_of, sequence_of}
use Rattle.envelope.specs.Envelopes.{envelope_size, sealed_part}
use Rattle.envelope.specs.Parts.{EnvelopeParts, parts_answer, parts_seen, BidParts, rest_size, sealed_bid_answer, sealed_bid_seen, bid_of}
use Rattle.envelope.specs.declared.heads.HeadFields.{HeadFields}
use Rattle.envelope.specs.declared.reading.Parts.{Parts}
use Rattle.envelope.specs.declared.reading.SealedBid.{SealedBid}

-- What is read of any bytes as an envelope of a variant.
abbrev pub bid_in : Variant → List ℕ → Option BidParts
bid_in v e = cond (length e == envelope_size v) (Some (bid_of e)) None

-- Reading the head, and then the bid in the rest, reads the bid in an envelope.
module _ (v : Variant) (e : List ℕ) where
  abbrev fields : HeadFields
  fields = record { lot = lot_of e; bidder = bidder_of e; sequence = sequence_of e }

  too_short : length e < 12 → bid_in v e ≡ None
  too_short h = rw (ne_eqb (length e) (envelope_size v) (λ l. omega arith)) refl

  -- The parts of bytes that are long enough for a head.
  abbrev parts : EnvelopeParts
  parts = record { lot = lot_of e; bidder = bidder_of e; sequence = sequence_of e; rest = drop head_bytes e }

  by_rest : 12 ≤ length e → sealed_bid_answer v fields (drop 12 e) ≡ bid_in v e
  by_rest h = go (length e == envelope_size v) refl
    where
      go : (t : Bool) → (length e == envelope_size v) ≡ t → sealed_bid_answer v fields (drop 12 e) ≡ bid_in v e
      go true q =
          let l = eqb-true (length e) (envelope_size v) q in
          rw (q, eq-eqb (length (drop 12 e)) (rest_size v) (omega (arith, length-drop 12 e, l)))
          (ap (λ z. Some (record { head = fields; letter = sealed_part e; tag = z })) (drop-drop 64 12 e))
      go false q =
          let l = eqb-false (length e) (envelope_size v) q in
          rw (q, ne_eqb (length (drop 12 e)) (rest_size v) (λ k. l (omega (arith, length-drop 12 e, k)))) refl

  -- What the reading of the head tells.
  none_read : None ≡ parts_answer e → length e < 12
  none_read h = go (leb 12 (length e)) refl h
    where
      go : (t : Bool) → leb 12 (length e) ≡ t → ◌≡◌ {A = Option EnvelopeParts} None (cond t (Some parts) None) → length e < 12
      go true q k = let z : ◌≡◌ {A = ℕ} 0 1 = cc in absurd (omega arith)
      go false q k = leb-false 12 (length e) q

  some_read : (p : EnvelopeParts) → Some p ≡ parts_answer e → (12 ≤ length e) × (p ≡ parts)
  some_read p h = go (leb 12 (length e)) refl h
    where
      go : (t : Bool) → leb 12 (length e) ≡ t → ◌≡◌ {A = Option EnvelopeParts} (Some p) (cond t (Some parts) None) → (12 ≤ length e) × (p ≡ parts)
      go true q k = (leb-true 12 (length e) q, cc)
      go false q k = let z : ◌≡◌ {A = ℕ} 0 1 = cc in absurd (omega arith)

  -- The two readings, one after the other.
  pub reads_bid : (p : Option Parts) (r : Option SealedBid) → parts_seen p ≡ parts_answer e
      → MatchOption p (r ≡ None) (λ q. sealed_bid_seen r ≡ sealed_bid_answer v q.head q.rest.now) → sealed_bid_seen r ≡ bid_in v e
  reads_bid None r h m = ap sealed_bid_seen m ∙ sym (too_short (none_read h))
  reads_bid (Some q) r h m =
      let p = some_read _ h in
      m ∙ ap (λ x. sealed_bid_answer v (record { lot = x.lot; bidder = x.bidder; sequence = x.sequence }) x.rest) p.1 ∙ by_rest p.0
