-- The first line of a file, by the place of its byte 10, and what a reader does at it.
use Rattle.std.proofs.Common.{◌≡◌, ℕ, suc, ◌+◌, ◌-◌, ◌<◌, ◌≤◌, Bool, true, false, eqb, ◌⊎◌, List, [], ◌∷◌, length, take, drop, Some, None, Ok, Err, sym, refl, ap, ◌∙◌, inl, inr, ⊎_elim, add-one, one-add, arith}
use Rattle.std.proofs.lemmas.List.{drop_all, drop-drop, length-drop}
use Rattle.std.proofs.lemmas.Bool.{ltb-true, ltb-false}
use Rattle.file.specs.declared.faults.FileFault.{FileFault}
use Rattle.file.specs.declared.faults.FileFault.TheVariants.{Form}
use Rattle.file.specs.declared.line.Line.{Line}
use Rattle.file.specs.declared.line.Section.{Section}
use Rattle.file.specs.declared.line.Section.TheVariants.{LotNames, LotValues, LotEnd, BidderNames, FirstBidder, Bidders, EnvelopeNames, Envelopes}
use Rattle.file.specs.declared.reader.Reader.{Reader}
use Rattle.file.specs.Form.{verdict_on, after_verdict, at_the_end, end, broken, item, items_from}
use Rattle.file.specs.Reader.{items_left, items_if, first_of, rest_of, item_of, Moves, GivesNext}
use Rattle.file.specs.Lines.{Lines, finished, torn, line, lines_with_byte, lines_in}
use Rattle.file.specs.Fields.{place_of, holds}

-- the place of b one byte on
pub place_here : (b c : ℕ) (cs : List ℕ) → eqb c b ≡ true → place_of b (c ∷ cs) ≡ 0
unfolding place_of
place_here b c cs e = rw e refl

pub place_later : (b c : ℕ) (cs : List ℕ) → eqb c b ≡ false → place_of b (c ∷ cs) ≡ suc (place_of b cs)
unfolding place_of
place_later b c cs e = rw e (one-add (place_of b cs))

pub lines_here : (c : ℕ) (cs : List ℕ) → eqb c 10 ≡ true → lines_in (c ∷ cs) ≡ line [] (lines_in cs)
unfolding lines_in
lines_here c cs e = rw e refl

pub lines_later : (c : ℕ) (cs : List ℕ) → eqb c 10 ≡ false → lines_in (c ∷ cs) ≡ lines_with_byte c (lines_in cs)
unfolding lines_in
lines_later c cs e = rw e refl

cut_by : (c : ℕ) (cs : List ℕ) (t : Bool) → eqb c 10 ≡ t → place_of 10 (c ∷ cs) < length (c ∷ cs) → (place_of 10 cs < length cs → lines_in cs ≡ line (take (place_of 10 cs) cs) (lines_in (drop (suc (place_of 10 cs)) cs)))
    → lines_in (c ∷ cs) ≡ line (take (place_of 10 (c ∷ cs)) (c ∷ cs)) (lines_in (drop (suc (place_of 10 (c ∷ cs))) (c ∷ cs)))
cut_by c cs true e l ih = lines_here c cs e ∙ sym (ap (λ k. line (take k (c ∷ cs)) (lines_in (drop (suc k) (c ∷ cs)))) (place_here 10 c cs e))
cut_by c cs false e l ih =
    let p = place_later 10 c cs e in
    let h : place_of 10 cs < length cs = omega arith in
    lines_later c cs e ∙ ap (lines_with_byte c) (ih h) ∙ sym (ap (λ k. line (take k (c ∷ cs)) (lines_in (drop (suc k) (c ∷ cs)))) p)

cut_first : (bs : List ℕ) → place_of 10 bs < length bs → lines_in bs ≡ line (take (place_of 10 bs) bs) (lines_in (drop (suc (place_of 10 bs)) bs))
cut_first [] l = absurd (omega arith)
cut_first (c ∷ cs) l = cut_by c cs (eqb c 10) refl l (cut_first cs)

lengthened_open : (c : ℕ) (ls : Lines) → (ls ≡ finished) ⊎ (ls ≡ torn) → lines_with_byte c ls ≡ torn
lengthened_open c ls h = ⊎_elim (λ e. ap (lines_with_byte c) e) (λ e. ap (lines_with_byte c) e) h

-- no line is ended where there is no byte 10
open_by : (c : ℕ) (cs : List ℕ) (t : Bool) → eqb c 10 ≡ t → length (c ∷ cs) ≤ place_of 10 (c ∷ cs) → (length cs ≤ place_of 10 cs → (lines_in cs ≡ finished) ⊎ (lines_in cs ≡ torn)) → lines_in (c ∷ cs) ≡ torn
open_by c cs true e l ih = let p = place_here 10 c cs e in absurd (omega arith)
open_by c cs false e l ih =
    let p = place_later 10 c cs e in
    let h : length cs ≤ place_of 10 cs = omega arith in
    lines_later c cs e ∙ lengthened_open c (lines_in cs) (ih h)

open_end : (bs : List ℕ) → length bs ≤ place_of 10 bs → (lines_in bs ≡ finished) ⊎ (lines_in bs ≡ torn)
unfolding lines_in
open_end [] l = inl refl
open_end (c ∷ cs) l = inr (open_by c cs (eqb c 10) refl l (open_end cs))

cut_torn : (bs : List ℕ) → length bs ≤ place_of 10 bs → 0 < length bs → lines_in bs ≡ torn
cut_torn [] l p = absurd (omega arith)
cut_torn (c ∷ cs) l p = open_by c cs (eqb c 10) refl l (open_end cs)

-- what lines say where the first is not ended, where it is, and where there is none
pub items_torn : (s : Section) (n : ℕ) (bs : List ℕ) → holds 10 bs ≡ false → 0 < length bs → items_from s n (lines_in bs) ≡ broken (Form n)
unfolding items_from
items_torn s n bs h z = rw (cut_torn bs (ltb-false (place_of 10 bs) (length bs) h) z) refl

pub items_line : (s : Section) (n : ℕ) (bs : List ℕ) → holds 10 bs ≡ true
    → items_from s n (lines_in bs) ≡ after_verdict (verdict_on s n (take (place_of 10 bs) bs)) (λ next. items_from next (n + 1) (lines_in (drop (place_of 10 bs + 1) bs)))
unfolding items_from
items_line s n bs h = rw (cut_first bs (ltb-true (place_of 10 bs) (length bs) h)) (rw (add-one (place_of 10 bs)) refl)

left_end : (r : Reader) → length r.rest.now ≡ 0 → items_left r ≡ items_if r.wants r.line finished
unfolding items_left lines_in
left_end r z = ap (λ bs. items_if r.wants r.line (lines_in bs)) (drop_all 0 r.rest.now (omega arith))

-- a file may end in no other section
not_the_end : (s : Section) (n : ℕ) → (s ≡ Envelopes → ⊥) → at_the_end s n ≡ broken (Form n)
not_the_end LotNames n h = refl
not_the_end LotValues n h = refl
not_the_end LotEnd n h = refl
not_the_end BidderNames n h = refl
not_the_end FirstBidder n h = refl
not_the_end Bidders n h = refl
not_the_end EnvelopeNames n h = refl
not_the_end Envelopes n h = absurd (h refl)

-- what is left at the end of a file
pub left_refused : (r : Reader) (f : FileFault) → length r.rest.now ≡ 0 → r.wants ≡ Err f → items_left r ≡ broken f
left_refused r f z w = left_end r z ∙ ap (λ x. items_if x r.line finished) w

pub left_ended : (r : Reader) → length r.rest.now ≡ 0 → r.wants ≡ Ok Envelopes → items_left r ≡ end
unfolding items_from
left_ended r z w = left_end r z ∙ ap (λ x. items_if x r.line finished) w

pub left_missing : (r : Reader) (s : Section) → length r.rest.now ≡ 0 → r.wants ≡ Ok s → (s ≡ Envelopes → ⊥) → items_left r ≡ broken (Form r.line)
unfolding items_from
left_missing r s z w h = left_end r z ∙ ap (λ x. items_if x r.line finished) w ∙ not_the_end s r.line h

-- bytes that are left of others
abbrev pub Behind : List ℕ → List ℕ → Type 0
Behind bs cs = (k : ℕ) × (k ≤ length bs) × (cs ≡ drop k bs)

pub moves_on : (a b c : Reader) → Behind a.rest.now b.rest.now → Moves b c → Moves a c
moves_on a b c h m =
    let l : length b.rest.now ≡ length a.rest.now - h.0 = ap length h.2 ∙ length-drop h.0 a.rest.now in
    (h.0 + m.0, omega arith, omega arith, m.3 ∙ ap (drop m.0) h.2 ∙ drop-drop m.0 h.0 a.rest.now)

-- what a reader gives that began at a, has passed lines that say nothing up to b, and stops at c
pub gives_line : (a b c : Reader) (l : Line) → items_left b ≡ items_left a → Behind a.rest.now b.rest.now → items_left b ≡ item (item_of l) (items_left c) → Moves b c → GivesNext a (Some (Ok l)) c
gives_line a b c l e h i m = record { gives = ap first_of (sym i ∙ e); leaves = ap rest_of (sym i ∙ e); goes_on = moves_on a b c h m }

pub gives_fault : (a b : Reader) (f : FileFault) → items_left b ≡ items_left a → items_left b ≡ broken f → GivesNext a (Some (Err f)) b
gives_fault a b f e i = record { gives = ap first_of (sym i ∙ e); leaves = i ∙ ap rest_of (sym i ∙ e); goes_on = tt }

pub gives_end : (a b : Reader) → items_left b ≡ items_left a → items_left b ≡ end → GivesNext a None b
gives_end a b e i = record { gives = ap first_of (sym i ∙ e); leaves = i ∙ ap rest_of (sym i ∙ e); goes_on = tt }
