-- The format against what is read: which files are accepted, and what is read of them.
use Rattle.std.specs.Prelude.{◌≡◌, ℕ, ◌+◌, ◌^◌, ◌<◌, ◌≤◌, ◌⊎◌, ◌↔◌, List, [], ◌∷◌, ◌++◌, length, Ok, Err, IsPermutation}
use Rattle.engine.specs.declared.variants.Variant.{Variant}
use Rattle.list.specs.Order.{Rising, by_key}
use Rattle.room.specs.Sales.{Bytes}
use Rattle.room.specs.declared.register.RegisterEntry.{RegisterEntry}
use Rattle.file.specs.Contents.{Sent, FileContents, contents_in}
use Rattle.file.specs.Faults.{line_of}
use Rattle.file.specs.Format.{Particulars, LawfulParticulars, LawfulBidder, lot_line, bidder_line, lines_of, text_of, file_of}
use Rattle.file.specs.Lines.{most_bytes}
use Rattle.file.specs.declared.faults.FileFault.{FileFault}
use Rattle.file.specs.declared.faults.FileFault.TheVariants.{TooLong, Form, TermsLength, List as ByList, Cipher, Room}

-- A file is accepted, and gives its contents.
abbrev pub IsAccepted : Bytes → Type 0
IsAccepted file = (c : FileContents) × (contents_in file ≡ Ok c)

-- A file that is short enough, and says lawful particulars.
abbrev pub IsOfFormat : Bytes → Type 0
IsOfFormat file =
    (length file ≤ most_bytes) × ((p : Particulars) × LawfulParticulars p × (file ≡ file_of p))

-- Envelopes with their lines, the first in line n.
unfoldable pub sent_from : ℕ → List Bytes → List Sent
sent_from n [] = []
sent_from n (e ∷ es) = record { at = n; envelope = e } ∷ sent_from (n + 1) es

-- Contents are those of particulars: the register has the bidders, each and no other, by rising number; and the envelopes are in their order, each
-- in its line (6 lines and those of the bidders are above them).
pub record ContentsOf (p : Particulars) (c : FileContents) : Type 0 where
  pub lot : c.sale.lot ≡ p.lot
  pub variant : c.sale.variant ≡ p.variant
  pub terms : c.sale.terms ≡ p.terms
  pub bidders : IsPermutation p.bidders c.sale.register
  pub rising : Rising (by_key (λ x. x.bidder)) c.sale.register
  pub envelopes : c.envelopes ≡ sent_from (length p.bidders + 7) p.envelopes

-- Lines begin a file that can be written, with more lines behind them or none.
abbrev pub BeginFile : List Bytes → Type 0
BeginFile ls =
    (p : Particulars) × LawfulParticulars p × ((more : List Bytes) × (lines_of p ≡ ls ++ more))

-- A line is a lot's or a bidder's as a writer writes it, and still is refused: the lot's for terms of more than 64 bytes, a bidder's by
-- the list.
abbrev pub IsRefusedThough : FileFault → Bytes → Type 0
IsRefusedThough TooLong l = ⊥
IsRefusedThough (Form n) l = ⊥
IsRefusedThough (TermsLength n) l =
    (lot : ℕ) × (v : Variant) × (terms : Bytes)
    × (l ≡ lot_line lot v terms) × (lot < 2 ^ 32) × (64 < length terms)
IsRefusedThough (ByList n cause) l = (e : RegisterEntry) × LawfulBidder e × (l ≡ bidder_line e)
IsRefusedThough (Cipher cause) l = ⊥
IsRefusedThough (Room cause) l = ⊥

-- A fault tells the line in which a file leaves the format. `above` are the lines above it, and `rest` is the file from it on. The lines
-- above begin a file that can be written; with the next one, where there is one that is ended, they do not. The fault is that of the
-- form, or else the line has its form.
pub record LeavesFormat (file : Bytes) (f : FileFault) : Type 0 where
  pub above : List Bytes
  pub rest : Bytes
  pub are : file ≡ text_of above ++ rest
  pub number : line_of f ≡ length above + 1
  pub begin : BeginFile above
  pub breaks : (l behind : Bytes) → rest ≡ l ++ (10 ∷ behind) → BeginFile (above ++ (l ∷ [])) → ⊥
  pub why :
      (f ≡ Form (line_of f))
      ⊎ ((l : Bytes) × (behind : Bytes) × (rest ≡ l ++ (10 ∷ behind)) × IsRefusedThough f l)

-- The laws of the format.
pub record LawsOfFormat : Type 0 where
  -- A file is accepted exactly when it is of the format.
  pub accepted_files_are_those_of_the_format : (file : Bytes) → IsAccepted file ↔ IsOfFormat file
  -- What is read of a file is what it was written to say.
  pub what_is_written_is_read :
      (p : Particulars) (c : FileContents) → LawfulParticulars p
      → contents_in (file_of p) ≡ Ok c → ContentsOf p c
  -- Different particulars are never written alike.
  pub different_particulars_have_different_files :
      (p q : Particulars) → LawfulParticulars p → LawfulParticulars q
      → file_of p ≡ file_of q → p ≡ q
  -- A file that is too long is refused as such, and any other at the line in which it leaves the format.
  pub long_files_are_refused_as_too_long :
      (file : Bytes) → most_bytes < length file → contents_in file ≡ Err TooLong
  pub other_files_are_refused_at_the_line_that_leaves_the_format :
      (file : Bytes) (f : FileFault) → length file ≤ most_bytes
      → contents_in file ≡ Err f → LeavesFormat file f
