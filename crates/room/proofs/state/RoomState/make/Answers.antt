use Rattle.std.proofs.Common.{◌≡◌, ◌-◌, ◌≤◌, true, ◌++◌, map, length, drop, refl, sym, arith, ap, ◌∙◌, rules}
use Rattle.std.proofs.lemmas.List.{length-map}
use borrow.Rule.Slice.PartMut.{post_of}
use Rattle.room.specs.Slots.{new_slot}
use Rattle.room.specs.Making.{is_lawful_register}
use Rattle.room.proofs.CodeMaking.{made_granted, made_rising}
use Rattle.room.proofs.state.RoomState.make.Goals as goal

pub invariant_of-self-clause-rising : goal.invariant_of-self-clause-rising
invariant_of-self-clause-rising c =
    let lawful : is_lawful_register c.args.register.now ≡ true = search rules in
    let slots = c.enroll.ensures.slots ∙ ap (λ n. map new_slot c.args.register.now ++ drop n c.args.self.now.slots) (sym (length-map c.args.register.now new_slot)) in
    made_rising c.args.register.now c.args.self.now.slots _ lawful slots

pub returns : goal.returns
returns c v =
    let short : length c.args.terms.now ≤ 64 = search rules in
    let lawful : is_lawful_register c.args.register.now ≡ true = search rules in
    let all : length c.args.terms.now - 0 ≡ length c.args.terms.now = omega arith in
    let over = ap (λ z. z ++ post_of 0 (length c.args.terms.now - 0) c.args.self.now.terms) c.copy_from_slice.ensures.after ∙ ap (λ n. c.args.terms.now ++ drop n c.args.self.now.terms) all in
    let slots = c.enroll.ensures.slots ∙ ap (λ n. map new_slot c.args.register.now ++ drop n c.args.self.now.slots) (sym (length-map c.args.register.now new_slot)) in
    made_granted (record { variant = v; lot = c.args.lot; terms = c.args.terms.now; register = c.args.register.now }) c.args.self.now _ _ _ short lawful c.ranges.lot.fits c.enroll.ensures.fit over slots refl refl refl
