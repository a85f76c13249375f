-- Rooms that meet what the promise asks of histories: two that differ in a letter, and two that differ in order.
use Rattle.std.proofs.Common.{◌≡◌, ℕ, zero, suc, ◌^◌, ◌<◌, ◌≤◌, ◌⊎◌, ◌↔◌, List, [], ◌∷◌, replicate, Some, sym, refl, ap, ◌∙◌, subst, subst₂, inl, inr, ⊎_elim, arith}
use Rattle.std.specs.List.{slice_get, AllZip}
use Rattle.engine.specs.declared.variants.Variant.{Variant}
use Rattle.envelope.specs.Letters.{most_cents}
use Rattle.envelope.specs.Heads.{sequence_of}
use Rattle.room.specs.Sales.{Sale, Lodging, Genuine, Among, OneToAHead}
use Rattle.room.specs.Calls.{Call, LodgingOf, Asking, Closing, Opening}
use Rattle.room.specs.Runs.{lodgings, Stands}
use Rattle.room.specs.Sealings.{Sealed, SameButForALetter, equal_calls, but_for_a_letter}
use Rattle.room.specs.RoomsThatDifferInALetter.{RoomsThatDifferInALetter}
use Rattle.room.specs.RoomsThatDifferInOrder.{RoomsThatDifferInOrder}
use Rattle.room.proofs.Bids.{bid_sequence, bid_genuine}
use Rattle.room.proofs.Amounts.{pages_tell}
use Rattle.room.proofs.Histories.{lawful_sale, left_by, one_amount}
use Rattle.room.proofs.ClosedRooms.{IsMakeable, ClosedRoom, closed_room}
use Rattle.room.proofs.SealedBids.{bid_in, sealed_in, sealed_head}
use Rattle.room.proofs.RoomsWith.{bid_stands}

module _ (v : Variant) where
  -- A sale of lot 17 without terms to one bidder.
  abbrev sold : Sale
  sold = record { variant = v; lot = 17; terms = []; register = record { bidder = 3; key = replicate 16 7 } ∷ [] }

  makeable : IsMakeable sold
  makeable = record { lot = omega arith; terms = omega arith; register = refl; bidders = (omega arith, tt) }

  -- The lodging of a bid of an amount, with the sequence n.
  abbrev bid_lodged : ℕ → ℕ → Lodging
  bid_lodged n amount = bid_in sold 3 n amount

  abbrev sealed : (n amount : ℕ) → n < 2 ^ 32 → amount ≤ most_cents → Sealed sold 17 3 n (bid_lodged n amount).envelope
  sealed n amount small affordable = sealed_in sold makeable (refl, tt) 3 n amount refl small affordable

  -- One bid, and closing.
  module _ (amount : ℕ) (affordable : amount ≤ most_cents) where
    abbrev its_bid : Sealed sold 17 3 1 (bid_lodged 1 amount).envelope
    its_bid = sealed 1 amount (omega arith) affordable

    a_single_bid : ClosedRoom sold (bid_lodged 1 amount ∷ [])
    a_single_bid = closed_room sold makeable (bid_lodged 1 amount ∷ []) (sealed_head sold 17 3 1 (bid_lodged 1 amount).envelope its_bid, tt)

    one_stands : Stands a_single_bid.x 3 amount
    one_stands =
        bid_stands sold (bid_lodged 1 amount ∷ []) a_single_bid 3 1 (bid_lodged 1 amount) its_bid (omega arith) (0, refl)
        (λ x at of higher. only at.0 x at.1)
      where
        only : (i : ℕ) (x : Lodging) → slice_get (bid_lodged 1 amount ∷ []) i ≡ Some x → x ≡ bid_lodged 1 amount
        only zero x at = cc
        only (suc i) x at = let z : ◌≡◌ {A = ℕ} 0 1 = cc in absurd (omega arith)

    -- It is sealed in each room of that sale.
    sealed_there : (s : Sale) → s ≡ sold → Sealed s 17 3 1 (bid_lodged 1 amount).envelope
    sealed_there s is = subst (λ t. Sealed t 17 3 1 (bid_lodged 1 amount).envelope) (sym is) its_bid

  pub differ_in_a_letter : RoomsThatDifferInALetter v
  differ_in_a_letter =
      let a : 5 ≤ most_cents = omega arith in
      let b : 6 ≤ most_cents = omega arith in
      let r = a_single_bid 5 a in
      let t = a_single_bid 6 b in
      let alike : r.x.sale ≡ t.x.sale = r.of_the_sale ∙ sym t.of_the_sale in
      record {
        x = r.x;
        y = t.x;
        of_the_variant = ap (λ s. s.variant) r.of_the_sale;
        x_closed = r.is_closed;
        y_closed = t.is_closed;
        alike = alike;
        only_letters_differ = subst₂ (AllZip (SameButForALetter r.x.sale)) (sym r.calls) (sym t.calls) (
          but_for_a_letter (sealed_there 5 a r.x.sale r.of_the_sale) (sealed_there 6 b r.x.sale r.of_the_sale),
          (equal_calls, tt),
        );
        pages_differ = λ p q hp hq same.
            let tells =
            pages_tell r.x.sale t.x.sale (lawful_sale r.x) (lawful_sale t.x) (ap (λ s. s.lot) alike)
            (lodgings r.x) (lodgings t.x) p q (left_by r.x r.is_closed p hp) (left_by t.x t.is_closed q hq) in
            let five : Stands t.x 3 5 = (tells.0 same 3 5).0 (one_stands 5 a) in
            let only = one_amount t.x 3 in
            omega (arith, only.2 5 five, only.2 6 (one_stands 6 b));
      }

  -- Two bids in both orders, and closing.
  abbrev first : Lodging
  first = bid_lodged 1 5

  abbrev second : Lodging
  second = bid_lodged 2 6

  abbrev first_bid : Sealed sold 17 3 1 first.envelope
  first_bid = sealed 1 5 (omega arith) (omega arith)

  abbrev second_bid : Sealed sold 17 3 2 second.envelope
  second_bid = sealed 2 6 (omega arith) (omega arith)

  in_order : ClosedRoom sold (first ∷ second ∷ [])
  in_order =
      closed_room sold makeable (first ∷ second ∷ [])
      (sealed_head sold 17 3 1 first.envelope first_bid, (sealed_head sold 17 3 2 second.envelope second_bid, tt))

  in_reverse : ClosedRoom sold (second ∷ first ∷ [])
  in_reverse =
      closed_room sold makeable (second ∷ first ∷ [])
      (sealed_head sold 17 3 2 second.envelope second_bid, (sealed_head sold 17 3 1 first.envelope first_bid, tt))

  abbrev its_sequence : Lodging → ℕ
  its_sequence l = sequence_of l.envelope

  first_sequence : sequence_of first.envelope ≡ 1
  first_sequence = bid_sequence sold 17 3 1 first.envelope first_bid

  second_sequence : sequence_of second.envelope ≡ 2
  second_sequence = bid_sequence sold 17 3 2 second.envelope second_bid

  -- What is at a place of a list of two.
  at_two : (a b x : Lodging) (i : ℕ) → slice_get (a ∷ b ∷ []) i ≡ Some x → (a ≡ x) ⊎ (b ≡ x)
  at_two a b x zero h = inl cc
  at_two a b x (suc zero) h = inr cc
  at_two a b x (suc (suc i)) h = let z : ◌≡◌ {A = ℕ} 0 1 = cc in absurd (omega arith)

  swapped : (a b x : Lodging) → Among (a ∷ b ∷ []) x → Among (b ∷ a ∷ []) x
  swapped a b x (i, h) = ⊎_elim (λ e. (1, ap Some e)) (λ e. (0, ap Some e)) (at_two a b x i h)

  first_call : List Call → ℕ
  first_call [] = 0
  first_call (LodgingOf l ∷ cs) = sequence_of l.envelope
  first_call (Asking b ∷ cs) = 0
  first_call (Closing ∷ cs) = 0
  first_call (Opening o ∷ cs) = 0

  two_stand : Stands in_order.x 3 6
  two_stand =
      bid_stands sold (first ∷ second ∷ []) in_order 3 2 second second_bid (omega arith) (1, refl)
      (λ x at of higher. ⊎_elim (λ a. absurd (omega (arith, first_sequence, second_sequence, ap its_sequence a, higher))) sym (at_two first second x at.0 at.1))

  one_to_each_head : OneToAHead sold (first ∷ second ∷ [])
  one_to_each_head e f (i, he) (j, hf) ge gf lot bidder sequence =
      ⊎_elim
      (λ a. ⊎_elim (λ b. ap (λ l. l.envelope) (sym a ∙ b)) (λ b. absurd (omega (arith, first_sequence, second_sequence, ap its_sequence a, ap its_sequence b, sequence))) (at_two first second f j hf))
      (λ a. ⊎_elim (λ b. absurd (omega (arith, first_sequence, second_sequence, ap its_sequence a, ap its_sequence b, sequence))) (λ b. ap (λ l. l.envelope) (sym a ∙ b)) (at_two first second f j hf))
      (at_two first second e i he)

  pub differ_in_order : RoomsThatDifferInOrder v
  unfolding first_call
  differ_in_order =
      let genuine_there : (l : Lodging) → Genuine sold l → Genuine in_order.x.sale l = λ l. subst (λ s. Genuine s l) (sym in_order.of_the_sale) in
      record {
        x = in_order.x;
        y = in_reverse.x;
        of_the_variant = ap (λ s. s.variant) in_order.of_the_sale;
        x_closed = in_order.is_closed;
        y_closed = in_reverse.is_closed;
        alike = in_order.of_the_sale ∙ sym in_reverse.of_the_sale;
        first = first;
        second = second;
        two = λ same. omega (arith, first_sequence, second_sequence, ap sequence_of same);
        first_genuine = genuine_there first (bid_genuine sold 17 3 1 first.envelope first_bid refl (omega arith));
        second_genuine = genuine_there second (bid_genuine sold 17 3 2 second.envelope second_bid refl (omega arith));
        in_order = in_order.lodgings_are;
        in_reverse = in_reverse.lodgings_are;
        lists_differ = λ h. omega (arith, first_sequence, second_sequence, ap first_call (sym in_order.calls ∙ h ∙ in_reverse.calls));
        same_lodgings = subst₂ (λ ls ms. (l : Lodging) → Among ls l ↔ Among ms l) (sym in_order.lodgings_are) (sym in_reverse.lodgings_are)
            (λ l. (swapped first second l, swapped second first l));
        one_to_a_head = subst₂ OneToAHead (sym in_order.of_the_sale) (sym in_order.lodgings_are) one_to_each_head;
        bidder = 3;
        amount = 6;
        above_0 = omega arith;
        stands = two_stand;
      }
