-- The line at which a file leaves the format.
use Rattle.std.proofs.Common.{◌≡◌, ℕ, ◌+◌, ◌<◌, ◌≤◌, Bool, true, false, ◌&&◌, leb, List, [], ◌∷◌, ◌++◌, length, Some, None, Ok, Err, codes, Option, Result, sym, refl, ap, ◌∙◌, inl, inr, ◌⊎◌, subst, arith, rules}
use Rattle.std.specs.Str.{bytes_eq}
use Rattle.std.specs.List.{AllByRecursion}
use Rattle.std.proofs.lemmas.Bool.{cond_both, leb-false}
use Rattle.engine.specs.declared.variants.Variant.{Variant}
use Rattle.list.specs.Insertion.{has_equal, list_with, count_ahead}
use Rattle.list.specs.declared.faults.ListFault.{ListFault}
use Rattle.room.specs.Sales.{Bytes, Sale}
use Rattle.room.specs.declared.register.RegisterEntry.{RegisterEntry}
use Rattle.file.specs.Contents.{Refusal, with_lot, with_register, and_then, enrolment, sale_of_items}
use Rattle.file.specs.Faults.{line_of}
use Rattle.file.specs.Fields.{place_of, holds_comma, field, behind}
use Rattle.file.specs.Form.{Items, lot_item, bidder_item, envelope_item, variant_of, lot_values, is_key, bidder_values, bidder_line_item, is_envelope, Verdict, passed, refused, said, line_must_be, line_must_say, verdict_on, after_verdict, at_the_end, items_from}
use Rattle.file.specs.Format.{LawfulBidder, bidder_line}
use Rattle.file.specs.FormatLaws.{IsRefusedThough}
use Rattle.file.specs.Hexadecimal.{all_hex_digits, written_bytes}
use Rattle.file.specs.Lines.{Lines, finished, torn, line}
use Rattle.file.specs.Numbers.{all_digits, value_after, value_of, number_of}
use Rattle.file.specs.declared.faults.FileFault.{FileFault}
use Rattle.file.specs.declared.faults.FileFault.TheVariants.{Form, TermsLength, List as ByList}
use Rattle.file.specs.declared.line.Section.{Section}
use Rattle.file.specs.declared.line.Section.TheVariants.{LotNames, LotValues, LotEnd, BidderNames, FirstBidder, Bidders, EnvelopeNames, Envelopes}
use Rattle.file.proofs.LineTexts.{without_above, lot_is, bidder_by, bidder_written}
use Rattle.file.proofs.Texts.{Without, lines_as}

-- the sections before the first bidder
abbrev pub Early : Section → Type 0
Early LotNames = Unit {0}
Early LotValues = Unit {0}
Early LotEnd = Unit {0}
Early BidderNames = Unit {0}
Early FirstBidder = Unit {0}
Early Bidders = ⊥
Early EnvelopeNames = ⊥
Early Envelopes = ⊥

-- what is told of a line that is refused
abbrev Told : FileFault → Bytes → Type 0
Told f l = (f ≡ Form (line_of f)) ⊎ IsRefusedThough f l

-- a bidder's line
abbrev IsBidderLine : Bytes → Type 0
IsBidderLine l = (e : RegisterEntry) × LawfulBidder e × (l ≡ bidder_line e)

-- what comes of line n: a refusal is at that line, and no line leads back before the first bidder
abbrev Onward : Section → ℕ → Bytes → Verdict → Type 0
Onward sec n l (refused f) = (line_of f ≡ n) × Told f l
Onward sec n l (passed next) = Early next → Early sec
Onward sec n l (said (lot_item lot v terms) next) = Early next → Early sec
Onward sec n l (said (bidder_item m b key) next) = (m ≡ n) × (Early next → ⊥) × IsBidderLine l
Onward sec n l (said (envelope_item m ds) next) = Early next → ⊥

onward_text : (sec : Section) (text : Bytes) (next : Section) (n : ℕ) (l : Bytes) → (Early next → Early sec)
    → Onward sec n l (line_must_be text next n l)
onward_text sec text next n l h = cond_both (bytes_eq l text) (passed next) (refused (Form n)) (Onward sec n l) (λ e. h) (λ e. (refl, inl refl))

onward_lot : (n : ℕ) (l : Bytes) (t : Bool) (o : Option ℕ) (v : Option Variant) (terms : Bytes)
    → ((lot : ℕ) (w : Variant) → t ≡ true → o ≡ Some lot → v ≡ Some w → 64 < length terms → IsRefusedThough (TermsLength n) l)
    → Onward LotValues n l (line_must_say (lot_values n t o v terms) LotEnd)
onward_lot n l true (Some lot) (Some v) terms long =
    cond_both (leb (length terms) 64) (Ok (lot_item lot v terms)) (Err (TermsLength n)) (λ r. Onward LotValues n l (line_must_say r LotEnd)) (λ e. λ u. tt)
    (λ e. (refl, inr (long lot v refl refl refl (leb-false (length terms) 64 e))))
onward_lot n l true (Some lot) None terms long = (refl, inl refl)
onward_lot n l true None v terms long = (refl, inl refl)
onward_lot n l false o v terms long = (refl, inl refl)

onward_bidder_by : (sec : Section) (n : ℕ) (l : Bytes) (t : Bool) (o : Option ℕ) (key : Bytes)
    → ((b : ℕ) → t ≡ true → o ≡ Some b → is_key key ≡ true → IsBidderLine l)
    → Onward sec n l (line_must_say (bidder_values n t o key) Bidders)
onward_bidder_by sec n l true (Some b) key is =
    cond_both (is_key key) (Ok (bidder_item n b key)) (Err (Form n)) (λ r. Onward sec n l (line_must_say r Bidders))
    (λ e. (refl, λ u. u, is b refl refl e)) (λ e. (refl, inl refl))
onward_bidder_by sec n l true None key is = (refl, inl refl)
onward_bidder_by sec n l false o key is = (refl, inl refl)

onward_bidder : (sec : Section) (n : ℕ) (l : Bytes) → Onward sec n l (line_must_say (bidder_line_item n l) Bidders)
onward_bidder sec n l =
    onward_bidder_by sec n l (holds_comma l) (number_of (field l)) (behind l)
    (λ b t o k.
    let r = bidder_written n l (bidder_item n b (behind l)) (bidder_by n b (behind l) (holds_comma l) (number_of (field l)) (behind l) t o refl k) in
    (r.entry, r.lawful, r.is))

verdict_goes_onward : (sec : Section) (n : ℕ) (l : Bytes) → Onward sec n l (verdict_on sec n l)
verdict_goes_onward LotNames n l = onward_text LotNames (codes "lot,variant,terms") LotValues n l (λ u. tt)
verdict_goes_onward LotValues n l =
    onward_lot n l (holds_comma l && holds_comma (behind l)) (number_of (field l)) (variant_of (field (behind l))) (behind (behind l))
    (λ lot v t o w long. let is = lot_is l lot v t o w in (lot, v, behind (behind l), is.0, is.1, long))
verdict_goes_onward LotEnd n l = onward_text LotEnd [] BidderNames n l (λ u. tt)
verdict_goes_onward BidderNames n l = onward_text BidderNames (codes "bidder,key") FirstBidder n l (λ u. tt)
verdict_goes_onward FirstBidder n l = onward_bidder FirstBidder n l
verdict_goes_onward Bidders n l =
    cond_both (bytes_eq l []) (passed EnvelopeNames) (line_must_say (bidder_line_item n l) Bidders) (Onward Bidders n l) (λ e. λ u. u)
    (λ e. onward_bidder Bidders n l)
verdict_goes_onward EnvelopeNames n l = onward_text EnvelopeNames (codes "envelope") Envelopes n l (λ u. u)
verdict_goes_onward Envelopes n l =
    cond_both (is_envelope l) (Ok (envelope_item n l)) (Err (Form n)) (λ r. Onward Envelopes n l (line_must_say r Envelopes)) (λ e. λ u. u)
    (λ e. (refl, inl refl))

-- lines that end a file from a section on
abbrev one_bidder : List Bytes
one_bidder = codes "0,00000000000000000000000000000000" ∷ [] ∷ codes "envelope" ∷ []

abbrev closing : Section → List Bytes
closing Envelopes = []
closing EnvelopeNames = codes "envelope" ∷ []
closing Bidders = [] ∷ codes "envelope" ∷ []
closing FirstBidder = one_bidder
closing BidderNames = codes "bidder,key" ∷ one_bidder
closing LotEnd = [] ∷ codes "bidder,key" ∷ one_bidder
closing LotValues = codes "0,dumbo," ∷ [] ∷ codes "bidder,key" ∷ one_bidder
closing LotNames = codes "lot,variant,terms" ∷ codes "0,dumbo," ∷ [] ∷ codes "bidder,key" ∷ one_bidder

record Closes (sec : Section) (n : ℕ) (s : Sale) : Type 0 where
  more : List Bytes
  clean : AllByRecursion (Without 10) more
  sale : Sale
  gathers : sale_of_items s (items_from sec n (lines_as more)) ≡ Ok sale

clean_text : (text : Bytes) → AllByRecursion (λ c. 44 ≤ c) text → Without 10 text
clean_text text h = without_above 10 44 text (omega arith) h

clean_one : AllByRecursion (Without 10) one_bidder
clean_one = (clean_text (codes "0,00000000000000000000000000000000") (search rules), (tt, (clean_text (codes "envelope") (search rules), tt)))

clean_names : AllByRecursion (Without 10) (closing BidderNames)
clean_names = (clean_text (codes "bidder,key") (search rules), clean_one)

clean_values : AllByRecursion (Without 10) (closing LotValues)
clean_values = (clean_text (codes "0,dumbo,") (search rules), (tt, clean_names))

clean_closing : (sec : Section) → AllByRecursion (Without 10) (closing sec)
clean_closing Envelopes = tt
clean_closing EnvelopeNames = (clean_text (codes "envelope") (search rules), tt)
clean_closing Bidders = (tt, (clean_text (codes "envelope") (search rules), tt))
clean_closing FirstBidder = clean_one
clean_closing BidderNames = clean_names
clean_closing LotEnd = (tt, clean_names)
clean_closing LotValues = clean_values
clean_closing LotNames = (clean_text (codes "lot,variant,terms") (search rules), clean_values)

closes_early : (sec : Section) (n lot : ℕ) (v : Variant) (terms : Bytes) → Early sec
    → Closes sec n (record { variant = v; lot = lot; terms = terms; register = [] })
unfolding sale_of_items items_from place_of number_of value_of value_after all_digits all_hex_digits written_bytes has_equal list_with count_ahead
closes_early LotNames n lot v terms u = record { more = closing LotNames; clean = clean_closing LotNames; sale = _; gathers = refl }
closes_early LotValues n lot v terms u = record { more = closing LotValues; clean = clean_closing LotValues; sale = _; gathers = refl }
closes_early LotEnd n lot v terms u = record { more = closing LotEnd; clean = clean_closing LotEnd; sale = _; gathers = refl }
closes_early BidderNames n lot v terms u = record { more = closing BidderNames; clean = clean_closing BidderNames; sale = _; gathers = refl }
closes_early FirstBidder n lot v terms u = record { more = closing FirstBidder; clean = clean_closing FirstBidder; sale = _; gathers = refl }
closes_early Bidders n lot v terms u = absurd u
closes_early EnvelopeNames n lot v terms u = absurd u
closes_early Envelopes n lot v terms u = absurd u

closes_with : (sec : Section) (n : ℕ) (s : Sale) → Early sec → s.register ≡ [] → Closes sec n s
closes_with sec n s u e =
    subst (λ r. Closes sec n (record { variant = s.variant; lot = s.lot; terms = s.terms; register = r })) (sym e)
    (closes_early sec n s.lot s.variant s.terms u)

closes : (sec : Section) (n : ℕ) (s : Sale) → (Early sec → s.register ≡ []) → Closes sec n s
unfolding sale_of_items items_from
closes LotNames n s h = closes_with LotNames n s tt (h tt)
closes LotValues n s h = closes_with LotValues n s tt (h tt)
closes LotEnd n s h = closes_with LotEnd n s tt (h tt)
closes BidderNames n s h = closes_with BidderNames n s tt (h tt)
closes FirstBidder n s h = closes_with FirstBidder n s tt (h tt)
closes Bidders n s h = record { more = closing Bidders; clean = clean_closing Bidders; sale = s; gathers = refl }
closes EnvelopeNames n s h = record { more = closing EnvelopeNames; clean = clean_closing EnvelopeNames; sale = s; gathers = refl }
closes Envelopes n s h = record { more = []; clean = tt; sale = s; gathers = refl }

-- lines with others above them
abbrev pub onto : List Bytes → Lines → Lines
onto [] rest = rest
onto (l ∷ ls) rest = line l (onto ls rest)

-- and why: the form is broken, or a line that has its form is refused
abbrev pub Why : FileFault → Lines → Type 0
Why f rest = (f ≡ Form (line_of f)) ⊎ ((l : Bytes) × (ls : Lines) × (rest ≡ line l ls) × IsRefusedThough f l)

why_here : (f : FileFault) (l : Bytes) (ls : Lines) → Told f l → Why f (line l ls)
why_here f l ls (inl e) = inl e
why_here f l ls (inr k) = inr (l, ls, refl, k)

why_form : (n : ℕ) (f : FileFault) (rest : Lines) → Form n ≡ f → Why f rest
why_form n f rest e = inl (subst (λ x. x ≡ Form (line_of x)) e refl)

-- where reading stops: the lines above can be gone on with to the end of a file, and whatever follows the line that is refused, it is refused
pub record LeftAt (sec : Section) (n : ℕ) (s : Sale) (ls : Lines) (stop : Refusal) : Type 0 where
  pub above : List Bytes
  pub rest : Lines
  pub are : ls ≡ onto above rest
  pub count : line_of stop.fault ≡ n + length above
  pub more : List Bytes
  pub clean : AllByRecursion (Without 10) more
  pub sale : Sale
  pub why : Why stop.fault rest
  pub completes : sale_of_items s (items_from sec n (lines_as (above ++ more))) ≡ Ok sale
  pub stuck : (l : Bytes) (ls' : Lines) → rest ≡ line l ls' → (m : List Bytes)
      → sale_of_items s (items_from sec n (lines_as (above ++ (l ∷ m)))) ≡ Err stop

stops_here : (sec : Section) (n : ℕ) (s : Sale) (ls : Lines) (stop : Refusal) → (Early sec → s.register ≡ []) → line_of stop.fault ≡ n
    → Why stop.fault ls
    → ((l : Bytes) (ls' : Lines) → ls ≡ line l ls' → (m : List Bytes) → sale_of_items s (items_from sec n (lines_as (l ∷ m))) ≡ Err stop)
    → LeftAt sec n s ls stop
stops_here sec n s ls stop h at why stuck =
    let c = closes sec n s h in
    record {
      above = [];
      rest = ls;
      are = refl;
      count = omega arith;
      more = c.more;
      clean = c.clean;
      sale = c.sale;
      why = why;
      completes = c.gathers;
      stuck = stuck;
    }

goes_on : (sec next : Section) (n : ℕ) (s u : Sale) (l : Bytes) (ls : Lines) (stop : Refusal)
    → ((go_on : Section → Items) → sale_of_items s (after_verdict (verdict_on sec n l) go_on) ≡ sale_of_items u (go_on next))
    → LeftAt next (n + 1) u ls stop → LeftAt sec n s (line l ls) stop
unfolding items_from
goes_on sec next n s u l ls stop carry k = record {
  above = l ∷ k.above;
  rest = k.rest;
  are = ap (line l) k.are;
  count = let c = k.count in omega arith;
  more = k.more;
  clean = k.clean;
  sale = k.sale;
  why = k.why;
  completes = carry (λ next. items_from next (n + 1) (lines_as (k.above ++ k.more))) ∙ k.completes;
  stuck = λ l' ls' e m. carry (λ next. items_from next (n + 1) (lines_as (k.above ++ (l' ∷ m)))) ∙ k.stuck l' ls' e m;
}

module _ (sec : Section) (n : ℕ) (l : Bytes) (ls : Lines) (s : Sale) (stop : Refusal) (early : Early sec → s.register ≡ [])
    (ih : (next : Section) (u : Sale) → (Early next → u.register ≡ []) → sale_of_items u (items_from next (n + 1) ls) ≡ Err stop → LeftAt next (n + 1) u ls stop) where
  -- a line that is refused, whatever comes behind it
  refused_here : (v : Verdict) → verdict_on sec n l ≡ v → line_of stop.fault ≡ n → Told stop.fault l
      → ((go_on : Section → Items) → sale_of_items s (after_verdict v go_on) ≡ Err stop)
      → LeftAt sec n s (line l ls) stop
  unfolding items_from
  refused_here v j at told stays =
      stops_here sec n s (line l ls) stop early at (why_here stop.fault l ls told)
      (λ l' ls' e m.
      let same : l ≡ l' = cc in
      let go_on : Section → Items = λ next. items_from next (n + 1) (lines_as m) in
      ap (λ z. sale_of_items s (after_verdict (verdict_on sec n z) go_on)) (sym same) ∙ ap (λ v. sale_of_items s (after_verdict v go_on)) j ∙ stays go_on)

  bidder_walk : (m b : ℕ) (key : Bytes) (next : Section) (r : Result (List RegisterEntry) ListFault)
      → verdict_on sec n l ≡ said (bidder_item m b key) next → m ≡ n → (Early next → ⊥) → IsBidderLine l
      → enrolment (record { bidder = b; key = written_bytes key }) s.register ≡ r
      → and_then m s r (λ register. sale_of_items (with_register register s) (items_from next (n + 1) ls)) ≡ Err stop
      → LeftAt sec n s (line l ls) stop
  unfolding sale_of_items
  bidder_walk m b key next (Ok ys) j at late is e g =
      goes_on sec next n s (with_register ys s) l ls stop
      (λ go_on. ap (λ v. sale_of_items s (after_verdict v go_on)) j
      ∙ ap (λ r. and_then m s r (λ register. sale_of_items (with_register register s) (go_on next))) e)
      (ih next (with_register ys s) (λ x. absurd (late x)) g)
  bidder_walk m b key next (Err w) j at late is e g =
      let q : record { fault = ByList m w; before = s } ≡ stop = cc in
      refused_here (said (bidder_item m b key) next) j (ap (λ x. line_of x.fault) (sym q) ∙ at) (subst (λ x. Told x.fault l) q (inr is))
      (λ go_on. ap (λ r. and_then m s r (λ register. sale_of_items (with_register register s) (go_on next))) e ∙ ap Err q)

  walk_by : (v : Verdict) → verdict_on sec n l ≡ v → Onward sec n l v → sale_of_items s (after_verdict v (λ next. items_from next (n + 1) ls)) ≡ Err stop
      → LeftAt sec n s (line l ls) stop
  unfolding sale_of_items
  walk_by (refused g) j o e =
      let q : record { fault = g; before = s } ≡ stop = cc in
      refused_here (refused g) j (ap (λ x. line_of x.fault) (sym q) ∙ o.0) (subst (λ x. Told x.fault l) q o.1) (λ go_on. ap Err q)
  walk_by (passed next) j o e =
      goes_on sec next n s s l ls stop (λ go_on. ap (λ v. sale_of_items s (after_verdict v go_on)) j) (ih next s (λ x. early (o x)) e)
  walk_by (said (lot_item lot v terms) next) j o e =
      goes_on sec next n s (with_lot lot v terms s) l ls stop (λ go_on. ap (λ v. sale_of_items s (after_verdict v go_on)) j)
      (ih next (with_lot lot v terms s) (λ x. early (o x)) e)
  walk_by (said (bidder_item m b key) next) j o e =
      bidder_walk m b key next (enrolment (record { bidder = b; key = written_bytes key }) s.register) j o.0 o.1 o.2 refl e
  walk_by (said (envelope_item m ds) next) j o e =
      goes_on sec next n s s l ls stop (λ go_on. ap (λ v. sale_of_items s (after_verdict v go_on)) j) (ih next s (λ x. absurd (o x)) e)

-- at the end of a file a line is missing
ended : (sec : Section) (n : ℕ) (s : Sale) (stop : Refusal) → sale_of_items s (at_the_end sec n) ≡ Err stop
    → record { fault = Form n; before = s } ≡ stop
unfolding sale_of_items
ended LotNames n s stop e = cc
ended LotValues n s stop e = cc
ended LotEnd n s stop e = cc
ended BidderNames n s stop e = cc
ended FirstBidder n s stop e = cc
ended Bidders n s stop e = cc
ended EnvelopeNames n s stop e = cc
ended Envelopes n s stop e = absurd (let z : ◌≡◌ {A = ℕ} 0 1 = cc in omega arith)

pub walk : (ls : Lines) (sec : Section) (n : ℕ) (s : Sale) (stop : Refusal) → (Early sec → s.register ≡ [])
    → sale_of_items s (items_from sec n ls) ≡ Err stop
    → LeftAt sec n s ls stop
unfolding sale_of_items items_from
walk finished sec n s stop early e =
    let q : record { fault = Form n; before = s } ≡ stop = ended sec n s stop e in
    stops_here sec n s finished stop early (ap (λ x. line_of x.fault) (sym q)) (why_form n stop.fault finished (ap (λ x. x.fault) q))
    (λ l ls' p m. absurd (let z : ◌≡◌ {A = ℕ} 0 1 = cc in omega arith))
walk torn sec n s stop early e =
    let q : record { fault = Form n; before = s } ≡ stop = cc in
    stops_here sec n s torn stop early (ap (λ x. line_of x.fault) (sym q)) (why_form n stop.fault torn (ap (λ x. x.fault) q))
    (λ l ls' p m. absurd (let z : ◌≡◌ {A = ℕ} 0 1 = cc in omega arith))
walk (line l ls) sec n s stop early e =
    walk_by sec n l ls s stop early (λ next u k g. walk ls next (n + 1) u stop k g) (verdict_on sec n l) refl (verdict_goes_onward sec n l) e
