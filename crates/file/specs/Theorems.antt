-- What is true of every sale file that is accepted.
use Rattle.std.specs.Prelude.{◌≡◌, ◌≤◌, ◌↔◌, length, Ok}
use Rattle.list.specs.Order.{Rising, by_key}
use Rattle.room.specs.Runs.{History, IsClosed, Prints}
use Rattle.room.specs.Sales.{Bytes, Sale, Lodging, Among, OneToAHead}
use Rattle.file.specs.Contents.{FileContents, contents_in, sale_in}
use Rattle.file.specs.Sale.{HeldIn, lodgings_of}
use Rattle.file.specs.Report.{page_in}

-- A sale within the limits of a room: at most 64 bytes of terms, and 1 to 64 bidders by strictly rising number.
pub record KeepsLimits (s : Sale) : Type 0 where
  pub terms : length s.terms ≤ 64
  pub some : 1 ≤ length s.register
  pub few : length s.register ≤ 64
  pub rising : Rising (by_key (λ x. x.bidder)) s.register

-- The sale of an accepted file is within them.
abbrev pub AcceptedFilesKeepLimits : Type 0
AcceptedFilesKeepLimits = (file : Bytes) (s : Sale) → sale_in file ≡ Ok s → KeepsLimits s

-- What is printed of files as the page.
pub record LawsOfPages : Type 0 where
  -- A room in which the sale of a file was held is closed, and prints the page of the file and no other.
  pub a_room_in_which_the_sale_was_held_prints_the_page :
      (c : FileContents) (x : History) → HeldIn c x → IsClosed x × ((p : Bytes) → Prints x p ↔ (p ≡ page_in c))
  -- Two accepted files of one sale, in which the same envelopes stand in whatever order and however often, print the same page, if no two
  -- different genuine ones among them carry one head.
  pub order_and_repetition_do_not_matter :
      (f g : Bytes) (c d : FileContents) → contents_in f ≡ Ok c → contents_in g ≡ Ok d → c.sale ≡ d.sale
      → ((l : Lodging) → Among (lodgings_of c) l ↔ Among (lodgings_of d) l) → OneToAHead c.sale (lodgings_of c) → page_in c ≡ page_in d
