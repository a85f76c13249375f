-- The parts of an envelope as they are read: what its head names and the rest, and in the rest the sealed letter and the tag.
use Rattle.std.specs.Prelude.{ℕ, ◌+◌, if◌then◌else◌, List, length, take, drop, Some, None, Option, ◌==◌, nat_le}
use Rattle.engine.specs.declared.variants.Variant.{Variant}
use Rattle.cipher.specs.Mode.{tag_size}
use Rattle.envelope.specs.Letters.{letter_bytes}
use Rattle.envelope.specs.Heads.{head_bytes, lot_of, bidder_of, sequence_of}
use Rattle.envelope.specs.Envelopes.{sealed_part, tag_part}
use Rattle.envelope.specs.declared.heads.HeadFields.{HeadFields}
use Rattle.envelope.specs.declared.reading.Parts.{Parts}
use Rattle.envelope.specs.declared.reading.SealedBid.{SealedBid}

-- The lot, bidder and sequence that the head names, and the bytes after the head.
pub record EnvelopeParts : Type 0 where
  pub lot : ℕ
  pub bidder : ℕ
  pub sequence : ℕ
  pub rest : List ℕ

-- The parts of any bytes: none where they are too few for a head.
abbrev pub parts_answer : List ℕ → Option EnvelopeParts
parts_answer e =
    if nat_le head_bytes (length e) then Some (record { lot = lot_of e; bidder = bidder_of e; sequence = sequence_of e; rest = drop head_bytes e }) else None

-- The program's parts as plain values.
abbrev pub parts_seen : Option Parts → Option EnvelopeParts
parts_seen (Some p) = Some (record { lot = p.head.lot; bidder = p.head.bidder; sequence = p.head.sequence; rest = p.rest.now })
parts_seen None = None

-- What the head names, the sealed letter, and the tag.
pub record BidParts : Type 0 where
  pub head : HeadFields
  pub letter : List ℕ
  pub tag : List ℕ

-- The bytes after the head in a variant's envelopes.
abbrev pub rest_size : Variant → ℕ
rest_size v = letter_bytes + tag_size v

-- The bid in a head and a rest: none where the rest has another length than in the variant's envelopes.
abbrev pub sealed_bid_answer : Variant → HeadFields → List ℕ → Option BidParts
sealed_bid_answer v h rest =
    if length rest == rest_size v then Some (record { head = h; letter = take letter_bytes rest; tag = drop letter_bytes rest }) else None

-- The program's bid as plain values.
abbrev pub bid_seen : SealedBid → BidParts
bid_seen b = record { head = b.head; letter = b.letter.now; tag = b.tag.now }

abbrev pub sealed_bid_seen : Option SealedBid → Option BidParts
sealed_bid_seen (Some b) = Some (bid_seen b)
sealed_bid_seen None = None

-- The bid that a whole envelope holds.
abbrev pub bid_of : List ℕ → BidParts
bid_of e = record {
  head = record { lot = lot_of e; bidder = bidder_of e; sequence = sequence_of e };
  letter = sealed_part e;
  tag = tag_part e;
}
