-- A sale, and the words for the lodgings in it: genuine, standing, and the standing amount.
-- An engine enters here and below by its variant alone: every engine's contract says that it permutes blocks as its variant does. So
-- whatever is said of a variant is said of every engine of it.
use Rattle.std.specs.Prelude.{◌≡◌, ℕ, ◌≤◌, Bool, true, false, if◌then◌else◌, ◌⊎◌, List, [], ◌∷◌, length, Some, ◌==◌}
use Rattle.std.specs.List.{slice_get}
use Rattle.engine.specs.declared.variants.Variant.{Variant}
use Rattle.envelope.specs.Letters.{amount_offered}
use Rattle.envelope.specs.Heads.{lot_of, bidder_of, sequence_of}
use Rattle.envelope.specs.Envelopes.{envelope_size, tag_part, right_tag, letter_sealed_in}
use Rattle.room.specs.declared.register.RegisterEntry.{RegisterEntry}

-- Bytes are numbers.
abbrev pub Bytes : Type 0
Bytes = List ℕ

-- What a room is made of: the variant of its engine, the lot, its terms, and the register of bidders with their keys.
pub record Sale : Type 0 where
  pub variant : Variant
  pub lot : ℕ
  pub terms : Bytes
  pub register : List RegisterEntry

-- Whether a bidder is registered.
abbrev pub is_registered : List RegisterEntry → ℕ → Bool
is_registered [] b = false
is_registered (x ∷ xs) b = if x.bidder == b then true else is_registered xs b

-- The key of a bidder, and no bytes for one who is not registered.
abbrev pub key_of : List RegisterEntry → ℕ → Bytes
key_of [] b = []
key_of (x ∷ xs) b = if x.bidder == b then x.key else key_of xs b

-- The tag that an envelope should have, and the letter that it opens to, under the key of its head's bidder and the terms of the sale.
abbrev pub tag_due : Sale → Bytes → Bytes
tag_due s e = right_tag s.variant (key_of s.register (bidder_of e)) s.terms e

abbrev pub opened_letter : Sale → Bytes → Bytes
opened_letter s e = letter_sealed_in s.variant (key_of s.register (bidder_of e)) e

-- A lodging: the envelope that is handed in.
pub record Lodging : Type 0 where
  pub envelope : Bytes

-- A lodging is genuine when its envelope has the variant's length, the lot of the sale, a registered bidder, a sequence of at least 1, and
-- the right tag.
pub record Genuine (s : Sale) (l : Lodging) : Type 0 where
  pub long : length l.envelope ≡ envelope_size s.variant
  pub lot : lot_of l.envelope ≡ s.lot
  pub known : is_registered s.register (bidder_of l.envelope) ≡ true
  pub counted : 1 ≤ sequence_of l.envelope
  pub right : tag_part l.envelope ≡ tag_due s l.envelope

-- A lodging is among others when it is at some place of their list.
abbrev pub Among : List Lodging → Lodging → Type 0
Among ls l = (i : ℕ) × (slice_get ls i ≡ Some l)

-- No two genuine lodgings of different envelopes carry one head, that is one lot, bidder and sequence.
abbrev pub OneToAHead : Sale → List Lodging → Type 0
OneToAHead s ls =
    (l m : Lodging) → Among ls l → Among ls m → Genuine s l → Genuine s m
    → lot_of l.envelope ≡ lot_of m.envelope → bidder_of l.envelope ≡ bidder_of m.envelope
    → sequence_of l.envelope ≡ sequence_of m.envelope → l.envelope ≡ m.envelope

-- A bidder's standing lodging is its genuine one of highest sequence, the earliest if several have that sequence.
pub record Standing (s : Sale) (ls : List Lodging) (b : ℕ) (l : Lodging) : Type 0 where
  pub place : ℕ
  pub there : slice_get ls place ≡ Some l
  pub genuine : Genuine s l
  pub of : bidder_of l.envelope ≡ b
  pub highest :
      (i : ℕ) (x : Lodging) → slice_get ls i ≡ Some x → Genuine s x → bidder_of x.envelope ≡ b
      → sequence_of x.envelope ≤ sequence_of l.envelope
  pub earliest :
      (i : ℕ) (x : Lodging) → slice_get ls i ≡ Some x → Genuine s x → bidder_of x.envelope ≡ b
      → sequence_of x.envelope ≡ sequence_of l.envelope → place ≤ i

-- A bidder's standing amount is that of the letter in its standing envelope (0 where the letter is unlawful), or 0 where none stands. None
-- stands for a bidder who is not registered.
abbrev pub StandingAmount : Sale → List Lodging → ℕ → ℕ → Type 0
StandingAmount s ls b n =
    ((l : Lodging) × Standing s ls b l × (n ≡ amount_offered (opened_letter s l.envelope)))
    ⊎ (((l : Lodging) → Standing s ls b l → ⊥) × (n ≡ 0))
