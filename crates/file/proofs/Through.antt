-- Lines of a file gone through one after the other, their envelopes lodged.
use Rattle.std.proofs.Common.{◌≡◌, ℕ, List, [], ◌∷◌, ◌++◌, map, Some, None, Ok, Err, sym, refl, ap, ◌∙◌, subst, Bor}
use Rattle.room.proofs.HistoryLaws.{runs_on}
use Rattle.room.specs.declared.state.RoomState.{RoomState}
use Rattle.file.specs.Reader.{first_of, rest_of, item_of}
use Rattle.file.proofs.Sound.{first_then, first_broken, first_ended}
use Rattle.file.specs.declared.faults.FileFault.{FileFault}
use Rattle.std.proofs.lemmas.List.{append_assoc}
use Rattle.engine.specs.declared.variants.Variant.{Variant}
use Rattle.room.specs.Rooms.{contents_of}
use Rattle.room.specs.Calls.{LodgingOf, answer_to, room_after}
use Rattle.room.specs.Runs.{Meeting, met_with, none, more, calls_of}
use Rattle.room.specs.Sales.{Bytes}
use Rattle.file.specs.Contents.{Sent, envelopes_in}
use Rattle.file.specs.Form.{Item, Items, end, broken, item}
use Rattle.file.specs.Hexadecimal.{written_bytes}
use Rattle.file.specs.Report.{two_values, answer_number, answer_lines, room_after_all}
use Rattle.file.specs.steps.Sale.{IsUnbroken, lodging_call, LodgesOne, GoesThrough}
use Rattle.file.specs.declared.line.Line.{Line}
use Rattle.file.specs.declared.line.Line.TheVariants.{Lot, Bidder, Envelope}

-- calls one after the other
pub calls_on : (ms ns : List Meeting) → calls_of (ms ++ ns) ≡ calls_of ms ++ calls_of ns
calls_on [] ns = refl
calls_on (met_with c a ∷ ms) ns = ap (λ cs. c ∷ cs) (calls_on ms ns)

module _ (v : Variant) where
  -- a line that is no envelope
  pub through_other : (out : Bytes) (s : RoomState) (l : Line) → ((n : ℕ) (d : Bor (List ℕ)) → l ≡ Envelope n d → ⊥) → (is : Items)
      → GoesThrough v out s (envelopes_in (item (item_of l) is)) out s (envelopes_in is)
  unfolding envelopes_in
  through_other out s (Lot lot w t) h is = record { prints = refl; leaves = refl; meetings = []; runs = none; lodges = refl }
  through_other out s (Bidder n b key) h is = record { prints = refl; leaves = refl; meetings = []; runs = none; lodges = refl }
  through_other out s (Envelope n d) h is = absurd (h n d refl)

  abbrev pub sent : ℕ → List ℕ → Sent
  sent n digits = record { at = n; envelope = written_bytes digits }

  pub through_envelope : (out out' : Bytes) (s s' : RoomState) (l : Line) (n : ℕ) (d : Bor (List ℕ)) → l ≡ Envelope n d
      → LodgesOne v out s (sent n d.now) out' s' → (is : Items) → GoesThrough v out s (envelopes_in (item (item_of l) is)) out' s' (envelopes_in is)
  unfolding envelopes_in answer_lines room_after_all
  through_envelope out out' s s' l n d e one is =
      let q : envelopes_in (item (item_of l) is) ≡ sent n d.now ∷ envelopes_in is = ap (λ z. envelopes_in (item (item_of z) is)) e in
      let printed = two_values n (answer_number (answer_to (contents_of v s) (LodgingOf (record { envelope = written_bytes d.now })))) in
      record {
        prints = ap (λ z. z ++ answer_lines (contents_of v s') (envelopes_in is)) one.prints
            ∙ ap (λ z. (out ++ printed) ++ answer_lines z (envelopes_in is)) one.meets.leaves
            ∙ append_assoc out printed (answer_lines (room_after (contents_of v s) (LodgingOf (record { envelope = written_bytes d.now }))) (envelopes_in is))
            ∙ ap (λ es. out ++ answer_lines (contents_of v s) es) (sym q);
        leaves = ap (λ z. room_after_all z (envelopes_in is)) one.meets.leaves ∙ ap (room_after_all (contents_of v s)) (sym q);
        meetings = met_with (LodgingOf (record { envelope = written_bytes d.now })) (answer_to (contents_of v s) (LodgingOf (record { envelope = written_bytes d.now }))) ∷ [];
        runs = more one.meets none;
        lodges = ap (map lodging_call) (sym q);
      }

  pub through_more : (out out' out'' : Bytes) (s s' s'' : RoomState) (es es' es'' : List Sent)
      → GoesThrough v out s es out' s' es' → GoesThrough v out' s' es' out'' s'' es'' → GoesThrough v out s es out'' s'' es''
  through_more out out' out'' s s' s'' es es' es'' a b = record {
    prints = b.prints ∙ a.prints;
    leaves = b.leaves ∙ a.leaves;
    meetings = a.meetings ++ b.meetings;
    runs = runs_on a.runs b.runs;
    lodges = ap (λ cs. cs ++ map lodging_call es'') (calls_on a.meetings b.meetings)
        ∙ append_assoc (calls_of a.meetings) (calls_of b.meetings) (map lodging_call es'')
        ∙ ap (λ cs. calls_of a.meetings ++ cs) b.lodges
        ∙ a.lodges;
  }

  pub through_start : (out : Bytes) (s : RoomState) (L L' : Items) → L ≡ L' → GoesThrough v out s (envelopes_in L') out s (envelopes_in L)
  through_start out s L L' e = record {
    prints = ap (λ z. out ++ answer_lines (contents_of v s) (envelopes_in z)) e;
    leaves = ap (λ z. room_after_all (contents_of v s) (envelopes_in z)) e;
    meetings = [];
    runs = none;
    lodges = ap (λ z. map lodging_call (envelopes_in z)) e;
  }

  -- one more line, above an engine of the same variant
  pub through_item : (out out' out'' : Bytes) (w : Variant) (s s' s'' : RoomState) (es : List Sent) (L rest : Items) (i : Item) → w ≡ v
      → GoesThrough v out s es out' s' (envelopes_in L) → Some (Ok i) ≡ first_of L → rest ≡ rest_of L
      → GoesThrough w out' s' (envelopes_in (item i rest)) out'' s'' (envelopes_in rest) → GoesThrough v out s es out'' s'' (envelopes_in rest)
  through_item out out' out'' w s s' s'' es L rest i e a f r b =
      let q : item i rest ≡ L = ap (item i) r ∙ sym (first_then L i f) in
      let b₁ = subst (λ (z : Variant). GoesThrough z out' s' (envelopes_in (item i rest)) out'' s'' (envelopes_in rest)) e b in
      let b₂ = subst (λ (z : Items). GoesThrough v out' s' (envelopes_in z) out'' s'' (envelopes_in rest)) q b₁ in
      through_more out out' out'' s s' s'' es (envelopes_in L) (envelopes_in rest) a b₂

  pub through_all : (out out' : Bytes) (s s' : RoomState) (es : List Sent) (L : Items) → envelopes_in L ≡ [] → GoesThrough v out s es out' s' (envelopes_in L) → GoesThrough v out s es out' s' []
  through_all out out' s s' es L e a = subst (λ (z : List Sent). GoesThrough v out s es out' s' z) e a

-- no envelope is left at the end
pub ended_left : (L : Items) → None ≡ first_of L → envelopes_in L ≡ []
unfolding envelopes_in
ended_left L e = ap envelopes_in (first_ended L e)

-- where no line is refused, none is behind the first, and reading refuses none
pub unbroken_rest : (L : Items) → IsUnbroken L → IsUnbroken (rest_of L)
unbroken_rest end u = u
unbroken_rest (broken f) u = u
unbroken_rest (item i is) u = u

pub never_refused : (L : Items) (f : FileFault) → Some (Err f) ≡ first_of L → IsUnbroken L → ⊥
never_refused L f e u = subst IsUnbroken (first_broken L f e) u
