-- What a history leaves: the envelopes that stand are kept, and a closed room prints their page.
use Rattle.std.proofs.Common.{◌≡◌, ℕ, Bool, true, false, cond, ◌&&◌, eqb, leb, List, [], ◌∷◌, ◌++◌, map, length, take, replicate, None, Ok, sym, refl, ap, ◌∙◌, subst, ap₂, subst₂, inl, inr}
use mathlib.Core.Path.{fun_ext}
use Rattle.std.proofs.lemmas.List.{take_at}
use Rattle.std.proofs.lemmas.Bool.{and_parts}
use Rattle.envelope.specs.Letters.{letter_bytes}
use Rattle.room.specs.Limits.{most_bidders, most_page_bytes}
use Rattle.room.specs.Sales.{Bytes, Sale, is_registered}
use Rattle.room.specs.Rooms.{Contents, entry_of, sale_of, kept_for, contents_of}
use Rattle.room.specs.Calls.{Call, Answer, Met, Opening, room_after, opening_checks, answer_to, sheet_of, page_of_room}
use Rattle.engine.specs.declared.variants.Variant.{Variant}
use Rattle.room.specs.Making.{Made, making_checks, rises_from, empty_holding, new_room}
use Rattle.room.specs.Opening.{Lent, sizes_of, place_with}
use Rattle.room.specs.Runs.{Meeting, met_with, Runs, none, more, calls_of, lodgings_before_closing, History, IsClosed, lodgings, Stands, OpeningPrints, Prints}
use Rattle.room.specs.ExactlyOne.{ExactlyOne}
use Rattle.room.specs.declared.register.RegisterEntry.{RegisterEntry}
use Rattle.room.specs.declared.state.RoomState.{RoomState}
use Rattle.room.proofs.Law.{Kept, Taking, Ended, kept_in, nothing, amount_for, page_for, after, meetings}
use Rattle.room.proofs.Verdicts.{passes, granted_value}
use Rattle.room.proofs.Holding.{Holds, keeps, ended_stays, amount_of_held, amount_one}
use Rattle.room.proofs.Pages.{RisesFrom, rises}
use Rattle.room.proofs.Chains.{stage_at, stage_of, kept_in-stage_at, page_is, chain_sale, chain_stage, chain_meetings}
use Rattle.room.proofs.Amounts.{Lawful, Left}

-- A room just made.
pub entries_back : (xs : List RegisterEntry) → map entry_of (map empty_holding xs) ≡ xs
entries_back [] = refl
entries_back (x ∷ xs) = ap (λ ys. x ∷ ys) (entries_back xs)

pub nothing_kept : (xs : List RegisterEntry) (b : ℕ) → kept_for (map empty_holding xs) b ≡ None
nothing_kept [] b = refl
nothing_kept (x ∷ xs) b = go (eqb x.bidder b) (nothing_kept xs b)
  where
    go : (t : Bool) → kept_for (map empty_holding xs) b ≡ None → cond t None (kept_for (map empty_holding xs) b) ≡ None
    go true h = refl
    go false h = h

-- The room that calls leave, each upon what the earlier ones left.
abbrev pub after_all : Contents → List Call → Contents
after_all r [] = r
after_all r (c ∷ cs) = after_all (room_after r c) cs

-- It is what a place that has met them holds.
pub runs_leave : (v : Variant) {r : RoomState} {ms : List Meeting} {u : RoomState} → Runs v r ms u → contents_of v u ≡ after_all (contents_of v r) (calls_of ms)
runs_leave v none = refl
runs_leave v (more {ms = ms} m rest) = runs_leave v rest ∙ ap (λ r. after_all r (calls_of ms)) m.leaves

module _ (x : History) where
  -- What the room holds hangs on its sale and the calls that it met.
  pub room_left : contents_of x.sale.variant x.room ≡ after_all (new_room x.sale) (calls_of x.meetings)
  room_left = runs_leave x.sale.variant x.runs ∙ ap (λ r. after_all r (calls_of x.meetings)) x.made.leaves

  start_sale : sale_of (contents_of x.sale.variant x.start) ≡ x.sale
  start_sale = ap sale_of x.made.leaves ∙ ap (λ r. record x.sale { register = r }) (entries_back x.sale.register)

  start_stage : stage_of (contents_of x.sale.variant x.start) ≡ Taking nothing
  start_stage = ap stage_of x.made.leaves ∙ ap Taking (fun_ext (nothing_kept x.sale.register))

  pub lawful_sale : Lawful x.sale
  lawful_sale =
      let p = passes (making_checks x.sale) tt tt (sym x.made.answers) in
      let few = and_parts (leb 1 (length x.sale.register)) (leb (length x.sale.register) 64 && rises_from 0 x.sale.register) p.1.0 in
      let up = (and_parts (leb (length x.sale.register) 64) (rises_from 0 x.sale.register) few.1).1 in
      record { lot = x.made.lot_fits; bidders = x.made.bidders_fit; rising = rises 0 x.sale.register up }

  start_rises : RisesFrom 0 (sale_of (contents_of x.sale.variant x.start)).register
  start_rises = subst (λ s. RisesFrom 0 s.register) (sym start_sale) lawful_sale.rising

  pub same_meetings : x.meetings ≡ meetings x.sale (Taking nothing) (calls_of x.meetings)
  same_meetings =
      chain_meetings x.sale.variant start_rises x.runs
      ∙ ap₂ (λ s r. meetings s r (calls_of x.meetings)) start_sale start_stage

  room_stage : stage_of (contents_of x.sale.variant x.room) ≡ after x.sale (Taking nothing) (calls_of x.meetings)
  room_stage = chain_stage x.sale.variant x.runs ∙ ap₂ (λ s r. after s r (calls_of x.meetings)) start_sale start_stage

  room_sale : sale_of (contents_of x.sale.variant x.room) ≡ x.sale
  room_sale = chain_sale x.sale.variant x.runs ∙ start_sale

  -- What the room keeps is what stands.
  unfoldable pub room_kept : Kept
  room_kept = kept_for (contents_of x.sale.variant x.room).holdings

  pub room_holds : Holds x.sale (lodgings x) room_kept
  unfolding room_kept
  room_holds =
      let same : kept_in (after x.sale (Taking nothing) (calls_of x.meetings)) ≡ kept_for (contents_of x.sale.variant x.room).holdings =
      ap kept_in (sym room_stage) ∙ kept_in-stage_at x.room.phase _ in
      subst₂ (λ ms k. Holds x.sale (lodgings_before_closing ms) k) (sym same_meetings) same (keeps x.sale (calls_of x.meetings))

  pub one_amount : (b : ℕ) → ExactlyOne (Stands x b)
  one_amount b =
      let a = amount_of_held x.sale (lodgings x) b (room_kept b) (room_holds b) in
      (amount_for x.sale b (room_kept b), a, λ m st. amount_one x.sale (lodgings x) b m _ st a)

  pub unregistered : (b n : ℕ) → (is_registered x.sale.register b ≡ true → ⊥) → Stands x b n → n ≡ 0
  unregistered b n out (inl (e, st, is)) = absurd (out (subst (λ c. is_registered x.sale.register c ≡ true) st.of st.genuine.known))
  unregistered b n out (inr (none_stands, is)) = is

  module _ (closed : IsClosed x) where
    room_ended : stage_of (contents_of x.sale.variant x.room) ≡ Ended room_kept
    unfolding room_kept
    room_ended = ap (λ p. stage_at p (kept_for (contents_of x.sale.variant x.room).holdings)) closed

    unfoldable pub its_page : Bytes
    its_page = page_for x.sale room_kept

    -- The page of the room as it is after more calls.
    pub later_page : (ms : List Meeting) (u : RoomState) → Runs x.sale.variant x.room ms u → page_of_room (contents_of x.sale.variant u) ≡ its_page
    unfolding its_page
    later_page ms u runs =
        let same : sale_of (contents_of x.sale.variant u) ≡ x.sale = chain_sale x.sale.variant runs ∙ room_sale in
        let ended : stage_of (contents_of x.sale.variant u) ≡ Ended room_kept =
        chain_stage x.sale.variant runs ∙ ap (λ r. after (sale_of (contents_of x.sale.variant x.room)) r (calls_of ms)) room_ended ∙ ended_stays _ room_kept (calls_of ms) in
        let kept : kept_for (contents_of x.sale.variant u).holdings ≡ room_kept = sym (kept_in-stage_at u.phase _) ∙ ap kept_in ended in
        page_is (contents_of x.sale.variant u) (subst (λ s. RisesFrom 0 s.register) (sym same) lawful_sale.rising) ∙ ap₂ page_for same kept

    pub only_page : (p : Bytes) → Prints x p → p ≡ its_page
    only_page p h =
        let c = contents_of x.sale.variant h.later in
        let o = h.opening in
        let long : length (page_of_room c) ≡ o.long = granted_value (opening_checks c (sizes_of o.given)) _ _ (sym o.opened.meets.answers) in
        sym o.written ∙ ap (take o.long) o.opened.page ∙ take_at (page_of_room c) _ o.long long ∙ later_page h.more_calls h.later h.runs

    pub same_page_later : (ms : List Meeting) (u : RoomState) → Runs x.sale.variant x.room ms u → (p q : Bytes)
        → OpeningPrints x.sale.variant x.room p → OpeningPrints x.sale.variant u q → p ≡ q
    same_page_later ms u runs p q now then =
        only_page p (record { more_calls = []; later = x.room; runs = none; opening = now })
        ∙ sym (only_page q (record { more_calls = ms; later = u; runs = runs; opening = then }))

    -- An opening that is granted.
    wide : Lent
    wide = record { sheet = replicate most_bidders (record { bidder = 0; amount = 0 }); page = replicate most_page_bytes 0; work = replicate letter_bytes 0 }

    wide_granted : answer_to (contents_of x.sale.variant x.room) (Opening (sizes_of wide)) ≡ Ok (length (page_of_room (contents_of x.sale.variant x.room)))
    unfolding wide
    wide_granted = rw closed refl

    pub some_page : Prints x its_page
    unfolding wide
    some_page =
        let c = contents_of x.sale.variant x.room in
        record {
          more_calls = [];
          later = x.room;
          runs = none;
          opening = record {
            given = wide;
            long = length (page_of_room c);
            given_back = record { sheet = place_with (sheet_of c) wide.sheet; page = place_with (page_of_room c) wide.page; work = replicate (length wide.work) 0 };
            after = x.room;
            opened = record {
              meets = record { answers = sym wide_granted; leaves = refl; place = refl };
              sheet = refl;
              page = refl;
              work = refl;
            };
            written = take_at (page_of_room c) _ _ refl ∙ later_page [] x.room none;
          };
        }

    pub left_by : (p : Bytes) → Prints x p → Left x.sale (lodgings x) p
    unfolding its_page
    left_by p h = record { kept = room_kept; is = only_page p h; holds = room_holds }

-- Calls one after the other, and then more of them.
pub runs_on : {v : Variant} {r s t : RoomState} {ms ns : List Meeting} → Runs v r ms s → Runs v s ns t → Runs v r (ms ++ ns) t
runs_on none b = b
runs_on (more m a) b = more m (runs_on a b)

-- A history of no calls, and one of one call more.
abbrev pub begun : (s : Sale) (before start : RoomState) → Made s before (Ok tt) start → History
begun s before start m = record {
  sale = s;
  before = before;
  start = start;
  meetings = [];
  room = start;
  made = m;
  runs = none;
}

abbrev pub gone_on : (x : History) (c : Call) (a : Answer) (t : RoomState) → Met x.sale.variant x.room c a t → History
gone_on x c a t m = record x { meetings = x.meetings ++ (met_with c a ∷ []); room = t; runs = runs_on x.runs (more m none) }
