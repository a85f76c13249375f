-- Pens: each head has a higher sequence than those before it.
use Rattle.std.proofs.Common.{◌≡◌, ℕ, zero, suc, ◌+◌, ◌^◌, ◌<◌, ◌≤◌, Bool, true, false, cond, leb, ltb, ◌↔◌, List, [], ◌∷◌, ◌++◌, map, length, get_or, Ok, Err, Result, sym, refl, ap, ◌∙◌, subst, arith}
use Rattle.std.specs.List.{AllByRecursion}
use Rattle.std.proofs.ByRecursion.{All-weaker}
use Rattle.std.proofs.lemmas.Bool.{leb-true, le-leb, lt-leb, ltb-true, lt-ltb, le-ltb}
use Rattle.fault.specs.Checks.{is_granted}
use Rattle.fault.proofs.Checks.{granted_exactly_where_passed}
use Rattle.envelope.specs.Terms.{bytes_of_terms}
use Rattle.envelope.specs.Heads.{sequence_of}
use Rattle.envelope.specs.Pens.{last_sequence, next_head, pen_answer, take_answer}
use Rattle.envelope.specs.Takings.{Takings, none, more, heads_given, nonce, NoTwoEqual}
use Rattle.envelope.specs.Theorems.{LawsOfPens}
use Rattle.envelope.specs.declared.heads.Head.{Head}
use Rattle.envelope.specs.declared.pens.Pen.{Pen}
use Rattle.envelope.specs.declared.faults.EnvelopeFault.{EnvelopeFault}
use Rattle.envelope.specs.declared.faults.EnvelopeFault.TheVariants.{TermsLength, HeadsSpent}
use Rattle.envelope.proofs.HeadLaws.{sequence_back}

-- A granted taking gives the next head.
granted_head : (p : Pen) (b : ℕ) (h : Head) → Ok h ≡ take_answer p b → (p.given < last_sequence) × (h ≡ next_head p b)
granted_head p b h e = go (ltb p.given last_sequence) refl e
  where
    go : (t : Bool) → ltb p.given last_sequence ≡ t → ◌≡◌ {A = Result Head EnvelopeFault} (Ok h) (cond t (Ok (next_head p b)) (Err HeadsSpent)) → (p.given < last_sequence) × (h ≡ next_head p b)
    go true w q = (ltb-true p.given last_sequence w, cc)
    go false w q = let z : ◌≡◌ {A = ℕ} 0 1 = cc in absurd (omega arith)

-- Sequences after n, none above the last.
abbrev Later : ℕ → Head → Type 0
Later n h = (n < h.fields.sequence) × (h.fields.sequence ≤ last_sequence)

later : {p q : Pen} {answers : List (Result Head EnvelopeFault)} → Takings p answers q → AllByRecursion (Later p.given) (heads_given answers)
later none = tt
later (more {p = p} {q = q} {bidder = b} {a = Ok h} {rest = answers} t rest) =
    let g = granted_head p b h t.answers in
    let s : h.fields.sequence ≡ p.given + 1 = ap (λ x. x.fields.sequence) g.1 in
    let n : q.given ≡ p.given + 1 = ap (λ x. x.given) t.pen_after in
    ((omega arith, omega arith), All-weaker (Later q.given) (Later p.given) (λ x l. (omega arith, l.1)) (heads_given answers) (later rest))
later (more {p = p} {q = q} {a = Err f} {rest = answers} t rest) =
    subst (λ x. AllByRecursion (Later x.given) (heads_given answers)) t.pen_after (later rest)

-- Heads of different sequences have different bytes.
apart : (h other : Head) → h.fields.sequence < other.fields.sequence → other.fields.sequence ≤ last_sequence → nonce h ≡ nonce other → ⊥
apart h other lt le e =
    let a : sequence_of (nonce h ++ []) ≡ h.fields.sequence = sequence_back h.fields.lot h.fields.bidder h.fields.sequence [] (omega arith) in
    let b : sequence_of (nonce other ++ []) ≡ other.fields.sequence = sequence_back other.fields.lot other.fields.bidder other.fields.sequence [] (omega arith) in
    omega (arith, sym a ∙ ap (λ x. sequence_of (x ++ [])) e ∙ b)

differ : {p q : Pen} {answers : List (Result Head EnvelopeFault)} → Takings p answers q → NoTwoEqual (heads_given answers)
differ none = tt
differ (more {p = p} {q = q} {bidder = b} {a = Ok h} {rest = answers} t rest) =
    let g = granted_head p b h t.answers in
    let s : h.fields.sequence ≡ p.given + 1 = ap (λ x. x.fields.sequence) g.1 in
    let n : q.given ≡ p.given + 1 = ap (λ x. x.given) t.pen_after in
    (All-weaker (Later q.given) (λ x. nonce h ≡ nonce x → ⊥) (λ x l. apart h x (omega arith) l.1) (heads_given answers) (later rest), differ rest)
differ (more {a = Err f} t rest) = differ rest

-- The head at place k has the sequence k + 1 after the last one given before.
counts : {p q : Pen} {answers : List (Result Head EnvelopeFault)} → Takings p answers q → (k : ℕ) → k < length (heads_given answers) → get_or (map (λ h. h.fields.sequence) (heads_given answers)) k 0 ≡ p.given + k + 1
counts none k l = absurd (omega arith)
counts (more {p = p} {q = q} {bidder = b} {a = Ok h} {rest = answers} t rest) zero l =
    ap (λ x. x.fields.sequence) (granted_head p b h t.answers).1 ∙ omega arith
counts (more {p = p} {q = q} {bidder = b} {a = Ok h} {rest = answers} t rest) (suc k) l =
    let n : q.given ≡ p.given + 1 = ap (λ x. x.given) t.pen_after in
    counts rest k (omega arith) ∙ omega arith
counts (more {p = p} {q = q} {a = Err f} {rest = answers} t rest) k l =
    let n : q.given ≡ p.given = ap (λ x. x.given) t.pen_after in
    counts rest k l ∙ omega arith

-- All heads have what the pen has.
abbrev Of : Pen → Head → Type 0
Of p h = (h.fields.lot ≡ p.lot) × (bytes_of_terms h.terms ≡ bytes_of_terms p.terms)

belong : {p q : Pen} {answers : List (Result Head EnvelopeFault)} → Takings p answers q → AllByRecursion (Of p) (heads_given answers)
belong none = tt
belong (more {p = p} {q = q} {bidder = b} {a = Ok h} {rest = answers} t rest) =
    let e = (granted_head p b h t.answers).1 in (
      (ap (λ x. x.fields.lot) e, ap (λ x. bytes_of_terms x.terms) e),
      All-weaker (Of q) (Of p) (λ x l. (l.0 ∙ ap (λ y. y.lot) t.pen_after, l.1 ∙ ap (λ y. bytes_of_terms y.terms) t.pen_after)) (heads_given answers) (belong rest),
    )
belong (more {p = p} {q = q} {a = Err f} {rest = answers} t rest) = subst (λ x. AllByRecursion (Of x) (heads_given answers)) t.pen_after (belong rest)

-- When making a pen and taking a head are granted.
pen_granted : (lot : ℕ) (terms : List ℕ) → ((is_granted (pen_answer lot terms) ≡ true) ↔ (length terms ≤ 64)) × (64 < length terms → pen_answer lot terms ≡ Err TermsLength)
pen_granted lot terms =
    let by_checks = granted_exactly_where_passed ((leb (length terms) 64, TermsLength) ∷ []) (record { lot = lot; terms = terms; given = 0 }) in
    (((λ e. leb-true (length terms) 64 (by_checks.0 e).0), (λ l. by_checks.1 (le-leb (length terms) 64 l, tt))), (λ h. rw (lt-leb (length terms) 64 h)))

taking_granted : (p : Pen) (bidder : ℕ) → ((is_granted (take_answer p bidder) ≡ true) ↔ (p.given + 1 < 2 ^ 32)) × (2 ^ 32 ≤ p.given + 1 → take_answer p bidder ≡ Err HeadsSpent)
taking_granted p bidder =
    let by_checks = granted_exactly_where_passed ((ltb p.given last_sequence, HeadsSpent) ∷ []) (next_head p bidder) in (
      (
        (λ e. let l = ltb-true p.given last_sequence (by_checks.0 e).0 in omega arith),
        (λ l. by_checks.1 (lt-ltb p.given last_sequence (omega arith), tt)),
      ),
      (λ h. rw (le-ltb p.given last_sequence (omega arith))),
    )

pub pen_laws : LawsOfPens
pen_laws =
    record {
      a_pen_is_granted_for_terms_of_at_most_64_bytes = pen_granted;
      taking_is_granted_until_the_last_sequence = taking_granted;
      no_two_heads_of_one_pen_are_equal = λ lot terms p q answers fresh run. differ run;
      sequences_count_from_one = λ lot terms p q answers fresh run k l.
          (let z : p.given ≡ 0 = ap (λ x. x.given) fresh in counts run k l ∙ omega arith);
      heads_have_the_lot_and_terms_of_their_pen = λ lot terms p q answers fresh run.
          All-weaker (Of p) (λ h. (h.fields.lot ≡ lot) × (bytes_of_terms h.terms ≡ terms)) (λ h l. (l.0 ∙ ap (λ x. x.lot) fresh, l.1 ∙ ap (λ x. x.terms) fresh)) (heads_given answers) (belong run);
    }
