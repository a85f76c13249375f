-- The promise, entire.
use Rattle.std.proofs.Common.{◌≡◌, ◌↔◌, sym, refl, ap, ◌∙◌, subst, ap₂, inl}
use mathlib.Core.Path.{fun_ext}
use Rattle.std.specs.List.{AllZip}
use Rattle.envelope.proofs.PenLaws.{pen_laws}
use Rattle.room.specs.Sales.{Bytes, Lodging, Among, OneToAHead}
use Rattle.room.specs.Rooms.{contents_of}
use Rattle.room.specs.Making.{new_room}
use Rattle.room.specs.Runs.{calls_of, answers_to_closing, History, IsClosed, lodgings, Prints}
use Rattle.room.specs.Promise.{Promise}
use Rattle.room.specs.Sealings.{SameButForALetter}
use Rattle.room.proofs.Law.{Taking, nothing, page_for, meetings}
use Rattle.room.proofs.Order.{same_held}
use Rattle.room.proofs.Secret.{secret}
use Rattle.room.proofs.Bids.{bid_genuine, bid_amount}
use Rattle.room.proofs.Amounts.{Left, pages_tell}
use Rattle.room.proofs.Histories.{after_all, room_left, lawful_sale, same_meetings, its_page, some_page, only_page, same_page_later, left_by, one_amount, unregistered, begun, gone_on}
use Rattle.room.proofs.Occurring.{differ_in_a_letter, differ_in_order}

order_proof : (x y : History) → IsClosed x → IsClosed y → x.sale ≡ y.sale → ((l : Lodging) → Among (lodgings x) l ↔ Among (lodgings y) l) → OneToAHead x.sale (lodgings x) → (p q : Bytes) → Prints x p → Prints y q → p ≡ q
order_proof x y cx cy alike same one p q hp hq =
    let l = left_by x cx p hp in
    let m : Left x.sale (lodgings y) q = subst (λ s. Left s (lodgings y) q) (sym alike) (left_by y cy q hq) in
    l.is ∙ ap (page_for x.sale) (fun_ext (λ b. same_held x.sale (lodgings x) (lodgings y) same one b (l.kept b) (m.kept b) (l.holds b) (m.holds b))) ∙ sym m.is

letters_proof : (x y : History) → x.sale ≡ y.sale → AllZip (SameButForALetter x.sale) (calls_of x.meetings) (calls_of y.meetings) → answers_to_closing x.meetings ≡ answers_to_closing y.meetings
letters_proof x y alike h =
    ap answers_to_closing (same_meetings x)
    ∙ secret x.sale (calls_of x.meetings) (calls_of y.meetings) h nothing nothing (λ b. refl)
    ∙ (λ i. answers_to_closing (meetings (alike i) (Taking nothing) (calls_of y.meetings)))
    ∙ sym (ap answers_to_closing (same_meetings y))

variant_proof : (x y : History) → x.sale ≡ y.sale → calls_of x.meetings ≡ calls_of y.meetings
    → (x.meetings ≡ y.meetings) × (contents_of x.sale.variant x.room ≡ contents_of y.sale.variant y.room)
variant_proof x y alike same = (
  same_meetings x ∙ ap₂ (λ s cs. meetings s (Taking nothing) cs) alike same ∙ sym (same_meetings y),
  room_left x ∙ ap₂ (λ s cs. after_all (new_room s) cs) alike same ∙ sym (room_left y),
)

pub promised : Promise
promised = record {
  pages_are_equal_exactly_when_the_standing_amounts_are = λ x y cx cy lot p q hp hq.
      pages_tell x.sale y.sale (lawful_sale x) (lawful_sale y) lot (lodgings x) (lodgings y) p q (left_by x cx p hp) (left_by y cy q hq);
  order_and_repetition_do_not_matter = order_proof;
  no_two_heads_of_one_pen_are_equal = pen_laws.no_two_heads_of_one_pen_are_equal;
  answers_until_closing_do_not_depend_on_the_letters = letters_proof;
  a_closed_room_prints_exactly_one_page = λ x c. (its_page x c, some_page x c, only_page x c);
  an_opening_prints_the_same_page_after_more_calls = same_page_later;
  every_bidder_has_exactly_one_standing_amount = one_amount;
  unregistered_bidders_stand_with_0 = unregistered;
  sealed_bids_are_genuine_and_stand_with_their_amount = λ x b n l q counted.
      (bid_genuine x.sale x.sale.lot b n l.envelope q refl counted, λ st. inl (l, st, sym (bid_amount x.sale x.sale.lot b n l.envelope q)));
  sale_and_calls_determine_answers_and_contents = variant_proof;
  every_making_begins_a_history = λ s before start m. (begun s before start m, refl, refl, refl);
  every_call_goes_on = λ x c a t m. (gone_on x c a t m, refl, refl, refl);
  some_rooms_differ_in_a_letter = differ_in_a_letter;
  some_rooms_differ_in_order = differ_in_order;
}
