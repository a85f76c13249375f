-- The sale of a file held in a room: what is known after each step.
use Rattle.std.proofs.Common.{◌≡◌, List, [], ◌∷◌, ◌++◌, map, Ok, codes, Result, sym, refl, ap, ◌∙◌, subst}
use Rattle.std.proofs.lemmas.List.{append_assoc, append-nil}
use Rattle.fault.specs.Checks.{decision}
use Rattle.engine.specs.declared.variants.Variant.{Variant}
use Rattle.room.proofs.HistoryLaws.{runs_on}
use Rattle.room.specs.Calls.{Call, Answer, LodgingOf, Closing, Met, answer_to, room_after, page_of_room}
use Rattle.room.specs.Making.{Made, making_checks}
use Rattle.room.specs.Rooms.{contents_of}
use Rattle.room.specs.Runs.{met_with, Runs, none, more, History, calls_of}
use Rattle.room.specs.Sales.{Bytes, Sale}
use Rattle.room.specs.declared.faults.RoomFault.{RoomFault}
use Rattle.room.specs.declared.slots.Phase.TheVariants.{Open}
use Rattle.room.specs.declared.state.RoomState.{RoomState}
use Rattle.file.specs.Contents.{FileContents, Sent}
use Rattle.file.specs.Sale.{HeldIn, WasHeld}
use Rattle.file.specs.Report.{lodging_of, room_of_sale, answer_lines, room_after_all, page_in, accepted_report}
use Rattle.file.specs.steps.Sale.{lodging_call, GoesThrough}
use Rattle.file.specs.Theorems.{KeepsLimits}
use Rattle.file.proofs.Pages.{lodged_phase, held_prints}
use Rattle.file.proofs.Registers.{is_lawful}
use Rattle.file.proofs.Through.{calls_on}

-- what a call does, and calls one after the other, above an engine of the same variant
pub met_by : {v w : Variant} {r t : RoomState} {c : Call} {a : Answer} → w ≡ v → Met w r c a t → Met v r c a t
met_by {r = r} {t = t} {c = c} {a = a} e m = subst (λ z. Met z r c a t) e m

pub through_by : {v w : Variant} {out out' : Bytes} {s s' : RoomState} {es es' : List Sent} → w ≡ v → GoesThrough w out s es out' s' es' → GoesThrough v out s es out' s' es'
through_by {out = out} {out' = out'} {s = s} {s' = s'} {es = es} {es' = es'} e g = subst (λ z. GoesThrough z out s es out' s' es') e g

-- making a room of a sale within its limits is granted
pub made_granted : (s : Sale) → KeepsLimits s → ◌≡◌ {A = Result (Unit {0}) RoomFault} (decision (making_checks s) tt) (Ok tt)
made_granted s k = let l = is_lawful s k in rw (l.0, l.1) refl

-- the lodgings of envelopes
each_lodged : (es : List Sent) → map lodging_call es ≡ map LodgingOf (map lodging_of es)
each_lodged [] = refl
each_lodged (e ∷ es) = ap (λ cs. lodging_call e ∷ cs) (each_lodged es)

-- a room made, and all envelopes lodged in it
module _ (v : Variant) (s : Sale) (es : List Sent) (of : v ≡ s.variant) (before start lodged : RoomState) (out out' : Bytes)
    (m : Made s before (Ok tt) start) (g : GoesThrough v out start es out' lodged []) where
  abbrev pub whole : FileContents
  whole = record { sale = s; envelopes = es }

  start_is : contents_of v start ≡ room_of_sale s
  start_is = ap (λ w. contents_of w start) of ∙ m.leaves

  lodged_is : contents_of v lodged ≡ room_after_all (room_of_sale s) es
  unfolding room_after_all
  lodged_is = g.leaves ∙ ap (λ r. room_after_all r es) start_is

  lodged_open : lodged.phase ≡ Open
  lodged_open = ap (λ r. r.phase) lodged_is ∙ lodged_phase (room_of_sale s) es

  pub close_granted : answer_to (contents_of v lodged) Closing ≡ Ok 0
  close_granted = rw lodged_open refl

  -- and the room closed
  module _ (room : RoomState) (k : Met v lodged Closing (Ok 0) room) where
    page_is : page_of_room (contents_of v room) ≡ page_in whole
    page_is = ap page_of_room (k.leaves ∙ ap (λ r. room_after r Closing) lodged_is)

    abbrev history : History
    history = record {
      sale = s;
      before = before;
      start = start;
      meetings = g.meetings ++ (met_with Closing (Ok 0) ∷ []);
      room = room;
      made = m;
      runs = subst (λ w. Runs w start (g.meetings ++ (met_with Closing (Ok 0) ∷ [])) room) of (runs_on g.runs (more k none));
    }

    is_held : HeldIn whole history
    is_held = record {
      made_of = refl;
      met = calls_on g.meetings (met_with Closing (Ok 0) ∷ [])
          ∙ ap (λ cs. cs ++ (Closing ∷ [])) (sym (append-nil (calls_of g.meetings)) ∙ g.lodges ∙ each_lodged es);
    }

    pub was_held : WasHeld whole
    was_held = (history, is_held, (held_prints whole history is_held (page_in whole)).1 refl)

    pub all_printed : (out'' out''' : Bytes) → out ≡ codes "line,answer\n" → out'' ≡ out' ++ codes "\n" → out''' ≡ out'' ++ page_of_room (contents_of v room)
        → out''' ≡ accepted_report whole
    unfolding answer_lines
    all_printed out'' out''' a b c =
        let lines_in = answer_lines (room_of_sale s) es in
        let lodged_lines : out' ≡ codes "line,answer\n" ++ lines_in =
        sym (append-nil out') ∙ g.prints ∙ ap (λ z. z ++ answer_lines (contents_of v start) es) a ∙ ap (λ r. codes "line,answer\n" ++ answer_lines r es) start_is in
        c ∙ ap (λ z. z ++ page_of_room (contents_of v room)) (b ∙ ap (λ z. z ++ codes "\n") lodged_lines)
        ∙ ap (λ p. ((codes "line,answer\n" ++ lines_in) ++ codes "\n") ++ p) page_is
        ∙ append_assoc (codes "line,answer\n" ++ lines_in) (codes "\n") (page_in whole)
        ∙ append_assoc (codes "line,answer\n") lines_in (codes "\n" ++ page_in whole)
