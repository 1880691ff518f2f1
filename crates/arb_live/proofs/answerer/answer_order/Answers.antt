use Rattle.std.proofs.Common.{sym, ap, ◌∙◌, subst}
use Rattle.arb_script.specs.Report.{order_line, standing_next}
use Rattle.arb_live.specs.Pieces.{Stands, reported}
use Rattle.arb_live.proofs.OrdersLaws.{line_reported, standing_reported}
use Rattle.arb_live.proofs.answerer.answer_order.Goals as goal

pub returns-clause-line : goal.returns-clause-line
returns-clause-line c = λ talk same few.
    c.answer.ensures.line
    ∙ line_reported c.args.orders c.make_room.new.core talk c.args.given c.make_room.ensures.room (c.make_room.ensures.stands talk same) few
    ∙ ap (λ m. order_line (reported c.args.orders m) talk c.args.given) c.make_room.ensures.machine

pub returns-clause-stands : goal.returns-clause-stands
returns-clause-stands c = λ talk same few.
    let made = c.make_room.new.core in
    let after = standing_next (reported c.args.orders made.machine) talk c.args.given in
    subst (λ m. Stands c.args.orders c.answer.new.core.standing (standing_next (reported c.args.orders m) talk c.args.given)) c.make_room.ensures.machine
    (subst (λ s. Stands c.args.orders s after) (sym c.answer.ensures.standing)
    (standing_reported c.args.orders made talk c.args.given c.make_room.ensures.room (c.make_room.ensures.stands talk same) few))
