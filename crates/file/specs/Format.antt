-- The format of a sale file, as it is written: the text of what it is to say. Nothing here speaks of reading.
use Rattle.std.specs.Prelude.{ℕ, ◌+◌, ◌/◌, ◌%◌, ◌^◌, ◌<◌, ◌≤◌, ◌≡◌, ◌≢◌, if◌then◌else◌, ◌==◌, List, [], ◌∷◌, ◌++◌, map, length, codes, decimal, nat_lt}
use Rattle.std.specs.List.{AllByRecursion, IsDistinct}
use Rattle.engine.specs.declared.variants.Variant.{Variant}
use Rattle.engine.specs.declared.variants.Variant.TheVariants.{Dumbo, Jumbo, Delirium}
use Rattle.room.specs.Sales.{Bytes}
use Rattle.room.specs.declared.register.RegisterEntry.{RegisterEntry}

-- What a sale file is to say: the lot, its variant and its terms, the bidders with their keys in any order, and the envelopes.
pub record Particulars : Type 0 where
  pub lot : ℕ
  pub variant : Variant
  pub terms : Bytes
  pub bidders : List RegisterEntry
  pub envelopes : List Bytes

-- Bytes in lower-case hexadecimal digits: two for each byte, the higher one first.
abbrev pub hexadecimal_digit : ℕ → ℕ
hexadecimal_digit v = if nat_lt v 10 then 48 + v else 87 + v

unfoldable pub hexadecimal : Bytes → Bytes
hexadecimal [] = []
hexadecimal (b ∷ bs) = hexadecimal_digit (b / 16) ∷ hexadecimal_digit (b % 16) ∷ hexadecimal bs

-- The name of a variant.
abbrev pub variant_name : Variant → Bytes
variant_name Dumbo = codes "dumbo"
variant_name Jumbo = codes "jumbo"
variant_name Delirium = codes "delirium"

-- The line of the lot, and that of a bidder: the fields, with a comma (44) between them. An envelope's line is its digits alone.
abbrev pub lot_line : ℕ → Variant → Bytes → Bytes
lot_line lot variant terms = decimal lot ++ (44 ∷ (variant_name variant ++ (44 ∷ terms)))

abbrev pub bidder_line : RegisterEntry → Bytes
bidder_line e = decimal e.bidder ++ (44 ∷ hexadecimal e.key)

-- The lines from the first bidder on: the bidders, an empty line, and below their name the envelopes.
abbrev pub lines_below : List RegisterEntry → List Bytes → List Bytes
lines_below bidders envelopes =
    map bidder_line bidders ++ ([] ∷ codes "envelope" ∷ map hexadecimal envelopes)

-- The lines of a file.
abbrev pub lines_of : Particulars → List Bytes
lines_of p =
    codes "lot,variant,terms" ∷ lot_line p.lot p.variant p.terms
    ∷ [] ∷ codes "bidder,key" ∷ lines_below p.bidders p.envelopes

-- Lines as a text, each ended by byte 10.
unfoldable pub text_of : List Bytes → Bytes
text_of [] = []
text_of (l ∷ ls) = l ++ (10 ∷ text_of ls)

-- The file that says it.
abbrev pub file_of : Particulars → Bytes
file_of p = text_of (lines_of p)

-- What can be said: a bidder's number has 32 bits and its key 16 bytes, and an envelope has at least one byte.
abbrev pub AreBytes : Bytes → Type 0
AreBytes bs = AllByRecursion (λ b. b < 256) bs

pub record LawfulBidder (e : RegisterEntry) : Type 0 where
  pub number : e.bidder < 2 ^ 32
  pub long : length e.key ≡ 16
  pub bytes : AreBytes e.key

pub record LawfulEnvelope (e : Bytes) : Type 0 where
  pub some : 1 ≤ length e
  pub bytes : AreBytes e

-- A lot of 32 bits, at most 64 bytes of terms within one line, 1 to 64 bidders of different numbers, and any envelopes.
pub record LawfulParticulars (p : Particulars) : Type 0 where
  pub lot : p.lot < 2 ^ 32
  pub short : length p.terms ≤ 64
  pub one_line : AllByRecursion (λ b. b ≢ 10) p.terms
  pub some : 1 ≤ length p.bidders
  pub few : length p.bidders ≤ 64
  pub different : IsDistinct (λ x y. x.bidder == y.bidder) p.bidders
  pub bidders : AllByRecursion LawfulBidder p.bidders
  pub envelopes : AllByRecursion LawfulEnvelope p.envelopes
