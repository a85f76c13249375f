-- What lines say is well formed: keys are 32 digits, envelopes an even number of them.
use Rattle.std.proofs.Common.{◌≡◌, ℕ, ◌+◌, Bool, true, false, ◌&&◌, leb, List, [], length, Some, None, Ok, Err, codes, Option, Result, refl, ap, subst, arith}
use Rattle.std.specs.Str.{bytes_eq}
use Rattle.std.proofs.lemmas.Bool.{cond_both}
use Rattle.engine.specs.declared.variants.Variant.{Variant}
use Rattle.file.specs.Lines.{Lines, finished, torn, line, lines_in}
use Rattle.file.specs.Fields.{holds_comma, field, behind}
use Rattle.file.specs.Numbers.{number_of}
use Rattle.file.specs.Form.{Item, lot_item, bidder_item, envelope_item, variant_of, lot_values, is_key, bidder_values, bidder_line_item, is_envelope, envelope_line_item, Verdict, refused, passed, said, line_must_be, line_must_say, verdict_on, Items, end, broken, item, after_verdict, at_the_end, items_from}
use Rattle.file.specs.steps.Line.{WellFormed}
use Rattle.file.specs.Reader.{items_left, items_if, first_of, rest_of}
use Rattle.file.specs.declared.faults.FileFault.{FileFault}
use Rattle.file.specs.declared.faults.FileFault.TheVariants.{Form, TermsLength}
use Rattle.file.specs.declared.reader.Reader.{Reader}
use Rattle.file.specs.declared.line.Section.{Section}
use Rattle.file.specs.declared.line.Section.TheVariants.{LotNames, LotValues, LotEnd, BidderNames, FirstBidder, Bidders, EnvelopeNames, Envelopes}

abbrev Fair : Verdict → Type 0
Fair (refused f) = Unit {0}
Fair (passed next) = Unit {0}
Fair (said i next) = WellFormed i

abbrev pub AllWellFormed : Items → Type 0
AllWellFormed end = Unit {0}
AllWellFormed (broken f) = Unit {0}
AllWellFormed (item i is) = WellFormed i × AllWellFormed is

fair_text : (text : List ℕ) (next : Section) (n : ℕ) (l : List ℕ) → Fair (line_must_be text next n l)
fair_text text next n l = cond_both (bytes_eq l text) (passed next) (refused (Form n)) Fair (λ e. tt) (λ e. tt)

fair_lot : (n : ℕ) (t : Bool) (o : Option ℕ) (v : Option Variant) (terms : List ℕ) (next : Section) → Fair (line_must_say (lot_values n t o v terms) next)
fair_lot n true (Some lot) (Some v) terms next =
    cond_both (leb (length terms) 64) (Ok (lot_item lot v terms)) (Err (TermsLength n)) (λ r. Fair (line_must_say r next)) (λ e. e) (λ e. tt)
fair_lot n true (Some lot) None terms next = tt
fair_lot n true None v terms next = tt
fair_lot n false o v terms next = tt

fair_bidder : (n : ℕ) (t : Bool) (o : Option ℕ) (key : List ℕ) (next : Section) → Fair (line_must_say (bidder_values n t o key) next)
fair_bidder n true (Some b) key next = cond_both (is_key key) (Ok (bidder_item n b key)) (Err (Form n)) (λ r. Fair (line_must_say r next)) (λ e. e) (λ e. tt)
fair_bidder n true None key next = tt
fair_bidder n false o key next = tt

fair_envelope : (n : ℕ) (l : List ℕ) (next : Section) → Fair (line_must_say (envelope_line_item n l) next)
fair_envelope n l next = cond_both (is_envelope l) (Ok (envelope_item n l)) (Err (Form n)) (λ r. Fair (line_must_say r next)) (λ e. e) (λ e. tt)

verdict_is_fair : (s : Section) (n : ℕ) (l : List ℕ) → Fair (verdict_on s n l)
verdict_is_fair LotNames n l = fair_text (codes "lot,variant,terms") LotValues n l
verdict_is_fair LotValues n l = fair_lot n (holds_comma l && holds_comma (behind l)) (number_of (field l)) (variant_of (field (behind l))) (behind (behind l)) LotEnd
verdict_is_fair LotEnd n l = fair_text [] BidderNames n l
verdict_is_fair BidderNames n l = fair_text (codes "bidder,key") FirstBidder n l
verdict_is_fair FirstBidder n l = fair_bidder n (holds_comma l) (number_of (field l)) (behind l) Bidders
verdict_is_fair Bidders n l =
    cond_both (bytes_eq l []) (passed EnvelopeNames) (line_must_say (bidder_line_item n l) Bidders) Fair (λ e. tt) (λ e. fair_bidder n (holds_comma l) (number_of (field l)) (behind l) Bidders)
verdict_is_fair EnvelopeNames n l = fair_text (codes "envelope") Envelopes n l
verdict_is_fair Envelopes n l = fair_envelope n l Envelopes

after_fair : (v : Verdict) (go_on : Section → Items) → Fair v → ((k : Section) → AllWellFormed (go_on k)) → AllWellFormed (after_verdict v go_on)
after_fair (refused f) go_on h g = tt
after_fair (passed next) go_on h g = g next
after_fair (said i next) go_on h g = (h, g next)

end_well_formed : (s : Section) (n : ℕ) → AllWellFormed (at_the_end s n)
end_well_formed LotNames n = tt
end_well_formed LotValues n = tt
end_well_formed LotEnd n = tt
end_well_formed BidderNames n = tt
end_well_formed FirstBidder n = tt
end_well_formed Bidders n = tt
end_well_formed EnvelopeNames n = tt
end_well_formed Envelopes n = tt

pub items_well_formed : (s : Section) (n : ℕ) (ls : Lines) → AllWellFormed (items_from s n ls)
unfolding items_from
items_well_formed s n finished = end_well_formed s n
items_well_formed s n torn = tt
items_well_formed s n (line l ls) = after_fair (verdict_on s n l) (λ next. items_from next (n + 1) ls) (verdict_is_fair s n l) (λ k. items_well_formed k (n + 1) ls)

left_by : (wants : Result Section FileFault) (n : ℕ) (ls : Lines) → AllWellFormed (items_if wants n ls)
left_by (Ok s) n ls = items_well_formed s n ls
left_by (Err f) n ls = tt

pub left_well_formed : (r : Reader) → AllWellFormed (items_left r)
unfolding items_left
left_well_formed r = left_by r.wants r.line (lines_in r.rest.now)

pub first_well_formed : (is : Items) (i : Item) → Some (Ok i) ≡ first_of is → AllWellFormed is → WellFormed i
first_well_formed end i e h = absurd (let z : ◌≡◌ {A = ℕ} 0 1 = cc in omega arith)
first_well_formed (broken f) i e h = absurd (let z : ◌≡◌ {A = ℕ} 0 1 = cc in omega arith)
first_well_formed (item j is) i e h = let p : j ≡ i = cc in subst WellFormed p h.0

-- what a reader gave is the first of what it had left
pub first_then : (is : Items) (i : Item) → Some (Ok i) ≡ first_of is → is ≡ item i (rest_of is)
first_then end i e = absurd (let z : ◌≡◌ {A = ℕ} 0 1 = cc in omega arith)
first_then (broken f) i e = absurd (let z : ◌≡◌ {A = ℕ} 0 1 = cc in omega arith)
first_then (item j is) i e = let p : j ≡ i = cc in ap (λ x. item x is) p

pub first_broken : (is : Items) (f : FileFault) → Some (Err f) ≡ first_of is → is ≡ broken f
first_broken end f e = absurd (let z : ◌≡◌ {A = ℕ} 0 1 = cc in omega arith)
first_broken (broken g) f e = let p : g ≡ f = cc in ap broken p
first_broken (item j is) f e = absurd (let z : ◌≡◌ {A = ℕ} 0 1 = cc in omega arith)

pub first_ended : (is : Items) → None ≡ first_of is → is ≡ end
first_ended end e = refl
first_ended (broken g) e = absurd (let z : ◌≡◌ {A = ℕ} 0 1 = cc in omega arith)
first_ended (item j is) e = absurd (let z : ◌≡◌ {A = ℕ} 0 1 = cc in omega arith)
