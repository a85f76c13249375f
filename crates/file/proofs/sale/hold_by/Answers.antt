use Rattle.std.proofs.Common.{◌++◌, codes, sym, ap, ◌∙◌}
use Rattle.room.specs.Calls.{page_of_room}
use Rattle.room.specs.Rooms.{contents_of}
use Rattle.room.proofs.AnswerLaws.{not_both}
use Rattle.file.specs.Contents.{items_in, envelopes_in, sale_of}
use Rattle.file.proofs.Held.{through_by, met_by, made_granted, close_granted, was_held, all_printed}
use Rattle.file.proofs.Lawful.{accepted_keeps_limits, accepted_unbroken}
use Rattle.file.proofs.sale.hold_by.Goals as goal

pub lodge_all-requires : goal.lodge_all-requires
lodge_all-requires g c = accepted_unbroken c.args.text.now _ c.requires.accepted

pub returns-in_err-make : goal.returns-in_err-make
returns-in_err-make g c =
    absurd (not_both _ _ (sym ((c.in_err-make.ensures.made c.args.sale.now.variant).answers ∙ made_granted (sale_of c.args.sale.now c.args.register.now) (accepted_keeps_limits c.args.text.now _ c.requires.accepted))))

pub returns-in_err-close : goal.returns-in_err-close
returns-in_err-close g c =
    let kind = g.E.Engine.kind in
    let through = through_by (ap kind c.make.ensures.engine) c.in_ok-lodge_all.ensures.0 in
    let closing = met_by (ap kind (c.in_ok-lodge_all.ensures.1 ∙ c.make.ensures.engine)) c.in_err-close.ensures.meets in
    absurd (not_both _ _ (sym (closing.answers ∙ close_granted (kind c.args.engine) (sale_of c.args.sale.now c.args.register.now) _ c.requires.variant _ _ _ _ _ (c.in_ok-make.ensures.made c.args.sale.now.variant) through)))

pub returns : goal.returns
returns g c =
    let kind = g.E.Engine.kind in
    let s = sale_of c.args.sale.now c.args.register.now in
    let es = envelopes_in (items_in c.args.text.now) in
    let made = c.in_ok-make.ensures.made s.variant in
    let through = through_by (ap kind c.make.ensures.engine) c.in_ok-lodge_all.ensures.0 in
    let same = c.in_ok-lodge_all.ensures.1 ∙ c.make.ensures.engine in
    let closing = met_by (ap kind same) c.in_ok-close.ensures.meets in
    let page = c.in_ok-add_page.ensures ∙ ap (λ e. c.extend_from_slice-2.new.self.items ++ page_of_room (contents_of (kind e) c.close.new.self.inner.now)) (c.close.ensures.engine ∙ same) in
    let of = c.requires.variant in
    record {
      prints = all_printed (kind c.args.engine) s es of _ _ _ _ _ made through _ closing _ _ (c.in_ok-extend_from_slice.ensures.items ∙ ap (λ z. z ++ codes "line,answer\n") c.new-out.ensures.items) c.in_ok-extend_from_slice-2.ensures.items page;
      held = was_held (kind c.args.engine) s es of _ _ _ _ _ made through _ closing;
    }
