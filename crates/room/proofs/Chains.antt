-- The program's rooms keep the rules: what each call promises is a step of them, and so a chain of calls is a run.
use Rattle.std.proofs.Common.{◌≡◌, ℕ, suc, ◌≤◌, Bool, true, false, cond, eqb, ltb, List, [], ◌∷◌, map, length, Some, Ok, Err, sym, refl, ap, ◌∙◌, subst, ap₂, arith}
use mathlib.Core.Path.{fun_ext}
use Rattle.std.specs.List.{AllByRecursion}
use Rattle.std.proofs.lemmas.Bool.{eqb-true, eqb-false, eq-eqb, ne_eqb, both_ways}
use Rattle.fault.specs.Checks.{by_answer}
use Rattle.engine.specs.declared.variants.Variant.{Variant}
use Rattle.envelope.specs.Heads.{bidder_of}
use Rattle.room.specs.Sales.{Bytes, Sale, Lodging, is_registered, key_of}
use Rattle.room.specs.Page.{page}
use Rattle.room.specs.Rooms.{Holding, Contents, entry_of, register_of, sale_of, kept_for, holdings_with, contents_of}
use Rattle.room.specs.Calls.{Call, LodgingOf, Asking, Closing, Opening, Answer, Met, amount_held, amount_of_holding, sheet_entries, page_of_room, lodging_checks, answer_to, room_after, with_holdings}
use Rattle.room.specs.Runs.{Meeting, met_with, Runs, none, more, calls_of}
use Rattle.room.specs.declared.slots.Phase.{Phase}
use Rattle.room.specs.declared.slots.Phase.TheVariants.{Open, Closed}
use Rattle.room.specs.declared.state.RoomState.{RoomState}
use Rattle.room.proofs.Law.{Kept, Stage, Taking, Ended, kept_in, verdict_by, verdict, kept_with, kept_after, opening_answer, amount_for, sheet_by, page_for, answer, next, after, meetings}
use Rattle.room.proofs.Verdicts.{granted}
use Rattle.room.proofs.Pages.{RisesFrom}

-- A room by its phase and what it keeps.
abbrev pub stage_at : Phase → Kept → Stage
stage_at Open k = Taking k
stage_at Closed k = Ended k

abbrev pub stage_of : Contents → Stage
stage_of r = stage_at r.phase (kept_for r.holdings)

pub kept_in-stage_at : (p : Phase) (k : Kept) → kept_in (stage_at p k) ≡ k
kept_in-stage_at Open k = refl
kept_in-stage_at Closed k = refl

-- Accepting an envelope of a registered bidder renews what is kept for that bidder, and leaves the register.
kept_for-holdings_with : (e : Bytes) (hs : List Holding) (b : ℕ) → is_registered (map entry_of hs) (bidder_of e) ≡ true → kept_for (holdings_with e hs) b ≡ kept_with e (kept_for hs) b
kept_for-holdings_with e [] b known = absurd (both_ways false refl known)
kept_for-holdings_with e (h ∷ hs) b known = go (eqb h.bidder (bidder_of e)) refl known (kept_for-holdings_with e hs b)
  where
    go : (t : Bool) → eqb h.bidder (bidder_of e) ≡ t → cond t true (is_registered (map entry_of hs) (bidder_of e)) ≡ true
        → (is_registered (map entry_of hs) (bidder_of e) ≡ true → kept_for (holdings_with e hs) b ≡ kept_with e (kept_for hs) b)
        → kept_for (cond t (record { bidder = h.bidder; key = h.key; envelope = Some e } ∷ hs) (h ∷ holdings_with e hs)) b
        ≡ cond (eqb (bidder_of e) b) (Some e) (cond (eqb h.bidder b) h.envelope (kept_for hs b))
    go true same k ih = ap (λ c. cond (eqb c b) (Some e) (kept_for hs b)) (eqb-true _ _ same) ∙ pick (eqb (bidder_of e) b) refl
      where
        pick : (u : Bool) → eqb (bidder_of e) b ≡ u → cond u (Some e) (kept_for hs b) ≡ cond u (Some e) (cond (eqb h.bidder b) h.envelope (kept_for hs b))
        pick true q = refl
        pick false q = ap (λ c. cond c h.envelope (kept_for hs b)) (sym (ap (λ c. eqb c b) (eqb-true _ _ same) ∙ q))
    go false other k ih = pick (eqb h.bidder b) refl (eqb (bidder_of e) b) refl (ih k)
      where
        pick : (u : Bool) → eqb h.bidder b ≡ u → (w : Bool) → eqb (bidder_of e) b ≡ w → kept_for (holdings_with e hs) b ≡ cond w (Some e) (kept_for hs b)
            → cond u h.envelope (kept_for (holdings_with e hs) b) ≡ cond w (Some e) (cond u h.envelope (kept_for hs b))
        pick true p true q r = absurd (eqb-false _ _ other (eqb-true _ _ p ∙ sym (eqb-true _ _ q)))
        pick true p false q r = refl
        pick false p w q r = r

entries-holdings_with : (e : Bytes) (hs : List Holding) → map entry_of (holdings_with e hs) ≡ map entry_of hs
entries-holdings_with e [] = refl
entries-holdings_with e (h ∷ hs) = go (eqb h.bidder (bidder_of e)) (entries-holdings_with e hs)
  where
    go : (t : Bool) → map entry_of (holdings_with e hs) ≡ map entry_of hs → map entry_of (cond t (record { bidder = h.bidder; key = h.key; envelope = Some e } ∷ hs) (h ∷ holdings_with e hs)) ≡ map entry_of (h ∷ hs)
    go true ih = refl
    go false ih = ap (λ xs. entry_of h ∷ xs) ih

-- Where bidders rise strictly, each holding is found under its bidder.
abbrev FoundIn : List Holding → ℕ → List Holding → Type 0
FoundIn hs m xs = AllByRecursion (λ h. (m ≤ h.bidder) × (key_of (map entry_of hs) h.bidder ≡ h.key) × (kept_for hs h.bidder ≡ h.envelope)) xs

found_behind : (x : Holding) (hs : List Holding) (m : ℕ) (ys : List Holding) → m ≤ x.bidder → FoundIn hs (suc x.bidder) ys → FoundIn (x ∷ hs) m ys
found_behind x hs m [] l h = tt
found_behind x hs m (y ∷ ys) l h =
    let low = h.0.0 in
    let other : eqb x.bidder y.bidder ≡ false = ne_eqb _ _ (λ e. omega arith) in (
      (
        omega arith,
        ap (λ t. cond t x.key (key_of (map entry_of hs) y.bidder)) other ∙ h.0.1,
        ap (λ t. cond t x.envelope (kept_for hs y.bidder)) other ∙ h.0.2,
      ),
      found_behind x hs m ys l h.1,
    )

all_found : (m : ℕ) (hs : List Holding) → RisesFrom m (map entry_of hs) → FoundIn hs m hs
all_found m [] r = tt
all_found m (x ∷ hs) r =
    let same : eqb x.bidder x.bidder ≡ true = eq-eqb _ _ refl in (
      (
        r.0,
        ap (λ t. cond t x.key (key_of (map entry_of hs) x.bidder)) same,
        ap (λ t. cond t x.envelope (kept_for hs x.bidder)) same,
      ),
      found_behind x hs m hs r.0 (all_found (suc x.bidder) hs r.1),
    )

module _ (r : Contents) where
  abbrev amounts : ℕ → ℕ
  amounts b = amount_for (sale_of r) b (kept_for r.holdings b)

  sheet_entries-by : (m : ℕ) (hs : List Holding) → FoundIn r.holdings m hs → sheet_entries r hs ≡ sheet_by amounts (map entry_of hs)
  sheet_entries-by m [] h = refl
  sheet_entries-by m (x ∷ hs) h =
      let is : amounts x.bidder ≡ amount_of_holding r x = ap₂ (λ k o. amount_held r.variant k r.terms o) h.0.1 h.0.2 in
      ap₂ (λ n xs. cond (ltb 0 n) (record { bidder = x.bidder; amount = n } ∷ xs) xs) (sym is) (sheet_entries-by m hs h.1)

  -- The page of a room with a lawful register.
  pub page_is : RisesFrom 0 (register_of r) → page_of_room r ≡ page_for (sale_of r) (kept_for r.holdings)
  page_is rising = ap (page r.lot) (sheet_entries-by 0 r.holdings (all_found 0 r.holdings rising))

-- A call upon a room: its answer, what is kept, and the sale, which stays.
module _ (v : Variant) (lot : ℕ) (terms : Bytes) (hs : List Holding) where
  abbrev pub room_in : Phase → Contents
  room_in p = record { variant = v; lot = lot; terms = terms; phase = p; holdings = hs }

  abbrev pub its : Sale
  its = record { variant = v; lot = lot; terms = terms; register = map entry_of hs }

  pub same_answer : (p : Phase) (c : Call) → RisesFrom 0 (map entry_of hs) → answer_to (room_in p) c ≡ answer its (stage_at p (kept_for hs)) c
  unfolding lodging_checks verdict_by
  same_answer Open (LodgingOf l) r = refl
  same_answer Open (Asking b) r = refl
  same_answer Open Closing r = refl
  same_answer Open (Opening o) r = refl
  same_answer Closed (LodgingOf l) r = refl
  same_answer Closed (Asking b) r = refl
  same_answer Closed Closing r = refl
  same_answer Closed (Opening o) r = ap (λ p. opening_answer o (length p)) (page_is (room_in Closed) r)

  taken : (l : Lodging) (a : Answer) → verdict its (kept_for hs) l ≡ a
      → (stage_of (by_answer a (with_holdings (holdings_with l.envelope hs) (room_in Open)) (room_in Open)) ≡ Taking (kept_after a (kept_for hs) l.envelope))
      × (sale_of (by_answer a (with_holdings (holdings_with l.envelope hs) (room_in Open)) (room_in Open)) ≡ its)
  taken l (Ok n) h = (
    ap Taking (fun_ext (λ b. kept_for-holdings_with l.envelope hs b (granted its (kept_for hs) l n h).0.known)),
    ap (λ xs. record { variant = v; lot = lot; terms = terms; register = xs }) (entries-holdings_with l.envelope hs),
  )
  taken l (Err f) h = (refl, refl)

  pub same_after : (p : Phase) (c : Call) → (stage_of (room_after (room_in p) c) ≡ next its (stage_at p (kept_for hs)) c) × (sale_of (room_after (room_in p) c) ≡ its)
  unfolding lodging_checks verdict_by
  same_after Open (LodgingOf l) = taken l (verdict its (kept_for hs) l) refl
  same_after Open (Asking b) = (refl, refl)
  same_after Open Closing = (refl, refl)
  same_after Open (Opening o) = (refl, refl)
  same_after Closed (LodgingOf l) = (refl, refl)
  same_after Closed (Asking b) = (refl, refl)
  same_after Closed Closing = (refl, refl)
  same_after Closed (Opening o) = (refl, refl)

-- One call upon a place of the program.
module _ (v : Variant) {r : RoomState} {c : Call} {a : Answer} {t : RoomState} (m : Met v r c a t) where
  call_answers : RisesFrom 0 (register_of (contents_of v r)) → a ≡ answer (sale_of (contents_of v r)) (stage_of (contents_of v r)) c
  call_answers rising = m.answers ∙ same_answer v _ _ _ r.phase c rising

  call_leaves : stage_of (contents_of v t) ≡ next (sale_of (contents_of v r)) (stage_of (contents_of v r)) c
  call_leaves = ap stage_of m.leaves ∙ (same_after v _ _ _ r.phase c).0

  call_sale : sale_of (contents_of v t) ≡ sale_of (contents_of v r)
  call_sale = ap sale_of m.leaves ∙ (same_after v _ _ _ r.phase c).1

-- Chains of calls.
module _ (v : Variant) where
  pub chain_sale : {r : RoomState} {ms : List Meeting} {u : RoomState} → Runs v r ms u → sale_of (contents_of v u) ≡ sale_of (contents_of v r)
  chain_sale none = refl
  chain_sale (more m rest) = chain_sale rest ∙ call_sale v m

  pub chain_stage : {r : RoomState} {ms : List Meeting} {u : RoomState} → Runs v r ms u → stage_of (contents_of v u) ≡ after (sale_of (contents_of v r)) (stage_of (contents_of v r)) (calls_of ms)
  chain_stage none = refl
  chain_stage (more {c = c} {ms = ms} m rest) = chain_stage rest ∙ ap₂ (λ s x. after s x (calls_of ms)) (call_sale v m) (call_leaves v m)

  pub chain_meetings : {r : RoomState} {ms : List Meeting} {u : RoomState} → RisesFrom 0 (sale_of (contents_of v r)).register → Runs v r ms u → ms ≡ meetings (sale_of (contents_of v r)) (stage_of (contents_of v r)) (calls_of ms)
  chain_meetings rising none = refl
  chain_meetings rising (more {c = c} {ms = ms} m rest) =
      ap₂ (λ a l. met_with c a ∷ l) (call_answers v m rising)
      (chain_meetings (subst (λ s. RisesFrom 0 s.register) (sym (call_sale v m)) rising) rest ∙ ap₂ (λ s x. meetings s x (calls_of ms)) (call_sale v m) (call_leaves v m))
