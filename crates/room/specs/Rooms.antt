-- What a room holds, as its callers know it, and what a place of the program holds of it.
use Rattle.std.specs.Prelude.{ℕ, if◌then◌else◌, List, [], ◌∷◌, ◌++◌, map, length, take, drop, Some, None, Option, ◌==◌}
use Rattle.engine.specs.declared.variants.Variant.{Variant}
use Rattle.cipher.specs.Mode.{tag_size}
use Rattle.envelope.specs.Heads.{head, bidder_of, sequence_of}
use Rattle.envelope.specs.Envelopes.{sealed_part, tag_part}
use Rattle.room.specs.Sales.{Bytes, Sale}
use Rattle.room.specs.declared.register.RegisterEntry.{RegisterEntry}
use Rattle.room.specs.declared.slots.Phase.{Phase}
use Rattle.room.specs.declared.slots.Slot.{Slot}
use Rattle.room.specs.declared.state.RoomState.{RoomState}

-- What is held for a registered bidder: its key, and the last envelope that was accepted from it, none at first.
pub record Holding : Type 0 where
  pub bidder : ℕ
  pub key : Bytes
  pub envelope : Option Bytes

-- A room: the variant of its engine, the lot, its terms, the phase, and what is held for each bidder in the order of the register.
pub record Contents : Type 0 where
  pub variant : Variant
  pub lot : ℕ
  pub terms : Bytes
  pub phase : Phase
  pub holdings : List Holding

-- The register of a room, and the sale that it was made for.
abbrev pub entry_of : Holding → RegisterEntry
entry_of h = record { bidder = h.bidder; key = h.key }

abbrev pub register_of : Contents → List RegisterEntry
register_of r = map entry_of r.holdings

abbrev pub sale_of : Contents → Sale
sale_of r = record { variant = r.variant; lot = r.lot; terms = r.terms; register = register_of r }

-- The last accepted envelope of a bidder.
abbrev pub kept_for : List Holding → ℕ → Option Bytes
kept_for [] b = None
kept_for (h ∷ hs) b = if h.bidder == b then h.envelope else kept_for hs b

-- The last accepted sequence: 0 where no envelope was accepted.
abbrev pub sequence_in : Option Bytes → ℕ
sequence_in None = 0
sequence_in (Some e) = sequence_of e

-- What is held after an envelope is accepted: it takes the place of the one that was kept for its bidder.
abbrev pub holdings_with : Bytes → List Holding → List Holding
holdings_with e [] = []
holdings_with e (h ∷ hs) =
    if h.bidder == bidder_of e
    then record { bidder = h.bidder; key = h.key; envelope = Some e } ∷ hs
    else h ∷ holdings_with e hs

-- A slot after an envelope of a sequence is accepted: only the first bytes of the tag are used by variants with short tags.
abbrev pub filled_slot : Slot → ℕ → Bytes → Slot
filled_slot x n e =
    record x {
      sequence = n;
      letter = sealed_part e;
      tag = tag_part e ++ drop (length (tag_part e)) x.tag;
    }

-- The slots after an envelope is accepted: the first one of its bidder is filled, and the others are as they were.
abbrev pub slots_with : Bytes → List Slot → List Slot
slots_with e [] = []
slots_with e (x ∷ xs) =
    if x.bidder == bidder_of e then filled_slot x (sequence_of e) e ∷ xs else x ∷ slots_with e xs

-- The envelope that a slot keeps, of which the head is kept as numbers: none at sequence 0.
abbrev pub envelope_in : Variant → ℕ → Slot → Option Bytes
envelope_in v lot x =
    if x.sequence == 0
    then None
    else Some (head lot x.bidder x.sequence ++ (x.letter ++ take (tag_size v) x.tag))

abbrev pub holding_of : Variant → ℕ → Slot → Holding
holding_of v lot x = record { bidder = x.bidder; key = x.key; envelope = envelope_in v lot x }

-- The room that a place of the program holds, above an engine of a variant.
abbrev pub contents_of : Variant → RoomState → Contents
contents_of v s = record {
  variant = v;
  lot = s.lot;
  terms = take s.terms_bytes s.terms;
  phase = s.phase;
  holdings = map (holding_of v s.lot) (take s.count s.slots);
}
