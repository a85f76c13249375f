-- The page of a file is that of each room in which its sale was held, and two files of one sale with the same envelopes have one page.
use Rattle.std.proofs.Common.{◌≡◌, ◌↔◌, List, [], ◌∷◌, ◌++◌, map, Ok, Err, Result, ℕ, true, sym, refl, ap, ◌∙◌, ap₂, arith}
use Rattle.fault.specs.Checks.{decision, by_answer}
use Rattle.room.specs.Calls.{LodgingOf, Closing, Answer, is_open, answer_to, room_after, with_holdings, closed_room, page_of_room}
use Rattle.room.specs.Rooms.{Holding, Contents as Room, contents_of}
use Rattle.room.specs.Making.{is_lawful_register, new_room}
use Rattle.room.specs.Runs.{History, IsClosed, Prints}
use Rattle.room.specs.Sales.{Bytes, Sale}
use Rattle.room.specs.declared.faults.RoomFault.{RoomFault}
use Rattle.room.specs.declared.faults.RoomFault.TheVariants.{Closed}
use Rattle.room.specs.declared.slots.Phase.TheVariants.{Open as PhaseOpen, Closed as PhaseClosed}
use Rattle.room.proofs.HistoryLaws.{after_all, room_left}
use Rattle.room.proofs.PageLaws.{prints_exactly, page_of_same_lodgings}
use Rattle.file.specs.Contents.{Sent, FileContents, with_envelopes, envelopes_in, items_in, sale_in, contents_in}
use Rattle.file.specs.Sale.{lodgings_of, calls_in, HeldIn}
use Rattle.file.specs.Report.{lodging_of, room_of_sale, room_after_all, page_in}
use Rattle.file.specs.Theorems.{LawsOfPages}
use Rattle.file.specs.declared.faults.FileFault.{FileFault}
use Rattle.file.proofs.Lawful.{accepted_keeps_limits}
use Rattle.file.proofs.Registers.{is_lawful}

-- The room of a file after all its calls.
abbrev pub last_room : FileContents → Room
last_room c = room_after (room_after_all (room_of_sale c.sale) c.envelopes) Closing

calls_leave : (r : Room) (es : List Sent) → after_all r (map LodgingOf (map lodging_of es) ++ (Closing ∷ [])) ≡ room_after (room_after_all r es) Closing
unfolding room_after_all
calls_leave r [] = refl
calls_leave r (e ∷ es) = calls_leave (room_after r (LodgingOf (lodging_of e))) es

-- A room in which the sale of a file was held is that room.
pub held_leaves : (c : FileContents) (x : History) → HeldIn c x → contents_of x.sale.variant x.room ≡ last_room c
held_leaves c x h =
    room_left x ∙ ap₂ (λ s cs. after_all (new_room s) cs) h.made_of h.met ∙ calls_leave (room_of_sale c.sale) c.envelopes

-- Lodging keeps the phase, and closing ends an open room: so a room in which the sale was held is closed.
phase_left : (a : Answer) (hs : List Holding) (r : Room) → (by_answer a (with_holdings hs r) r).phase ≡ r.phase
phase_left (Ok n) hs r = refl
phase_left (Err f) hs r = refl

pub lodged_phase : (r : Room) (es : List Sent) → (room_after_all r es).phase ≡ r.phase
unfolding room_after_all
lodged_phase r [] = refl
lodged_phase r (e ∷ es) = lodged_phase (room_after r (LodgingOf (lodging_of e))) es ∙ phase_left (answer_to r (LodgingOf (lodging_of e))) _ r

closes : (r : Room) → r.phase ≡ PhaseOpen → (room_after r Closing).phase ≡ PhaseClosed
closes r is = ap (λ p. (by_answer (decision {X = ℕ} {F = RoomFault} ((is_open p, Closed) ∷ []) 0) (closed_room r) r).phase) is

pub held_closed : (c : FileContents) (x : History) → HeldIn c x → IsClosed x
held_closed c x h = ap (λ r. r.phase) (held_leaves c x h) ∙ closes _ (lodged_phase (room_of_sale c.sale) c.envelopes)

-- And it prints the page of the file and no other.
pub held_prints : (c : FileContents) (x : History) → HeldIn c x → (p : Bytes) → Prints x p ↔ (p ≡ page_in c)
held_prints c x h p =
    let prints = prints_exactly x (held_closed c x h) p in
    let same = ap page_of_room (held_leaves c x h) in
    (λ q. prints.0 q ∙ same, λ e. prints.1 (e ∙ sym same))

-- The sale of an accepted file is that of its contents, and its register is lawful.
has_sale : (es : List Sent) (s : Result Sale FileFault) (c : FileContents) → with_envelopes es s ≡ Ok c → s ≡ Ok c.sale
has_sale es (Ok s) c e = let q : record { sale = s; envelopes = es } ≡ c = cc in ap (λ x. Ok x.sale) q
has_sale es (Err f) c e = absurd (let z : ◌≡◌ {A = ℕ} 0 1 = cc in omega arith)

lawful_register : (f : Bytes) (c : FileContents) → contents_in f ≡ Ok c → is_lawful_register c.sale.register ≡ true
lawful_register f c e = (is_lawful c.sale (accepted_keeps_limits f c.sale (has_sale (envelopes_in (items_in f)) (sale_in f) c e))).1

-- The page of a file is that of its lodgings.
page_of_lodgings : (c : FileContents) → page_of_room (after_all (new_room c.sale) (calls_in c)) ≡ page_in c
page_of_lodgings c = ap page_of_room (calls_leave (room_of_sale c.sale) c.envelopes)

pub laws_of_pages : LawsOfPages
laws_of_pages = record {
  a_room_in_which_the_sale_was_held_prints_the_page = λ c x h. (held_closed c x h, held_prints c x h);
  order_and_repetition_do_not_matter = λ f g c d hc hd alike same one.
      sym (page_of_lodgings c)
      ∙ page_of_same_lodgings c.sale (lawful_register f c hc) (lodgings_of c) (lodgings_of d) same one
      ∙ ap (λ s. page_of_room (after_all (new_room s) (calls_in d))) alike
      ∙ page_of_lodgings d;
}
