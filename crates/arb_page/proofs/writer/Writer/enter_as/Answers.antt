use Rattle.std.proofs.Common.{◌<◌, sym, ap, ◌∙◌, arith}
use Rattle.arb_config.specs.Limits.{max_orders}
use Rattle.arb_model.specs.History.{History}
use Rattle.arb_model.specs.Reading.{reading}
use Rattle.arb_page.proofs.CountLaws.{counts_entry, has_room}
use Rattle.arb_page.proofs.writer.Writer.enter_as.Goals as goal

pub overflow_add-self-inside : goal.overflow_add-self-inside
overflow_add-self-inside g c =
    let i = c.self.invariant in
    let few : c.self.inside.orders < max_orders = has_room _ _ _ _ _ _ c.self.view_is c.requires.event i.2 i.0.legal i.1 c.requires.follows in
    omega arith

pub append-requires-clause-value : goal.append-requires-clause-value
append-requires-clause-value g c = counts_entry _ _ _ _ c.requires.event c.self.invariant.1

pub overflow_add-self : goal.overflow_add-self
overflow_add-self g c =
    let i = c.self.invariant in
    let few : c.self.inside.orders < max_orders = has_room _ _ _ _ _ _ c.self.view_is c.requires.event i.2 i.0.legal i.1 c.requires.follows in
    omega arith

pub invariant_of-self : goal.invariant_of-self
invariant_of-self g c =
    let i = c.self.invariant in
    let count = counts_entry _ _ _ _ c.requires.event i.1 in
    (c.append.ensures.seat, count ∙ ap (λ (h : History). reading h 0) (sym c.append.ensures.seen), i.2)
