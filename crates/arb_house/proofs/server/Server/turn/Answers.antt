use Rattle.std.proofs.Common.{◌≡◌, ◌∷◌, [], true, sym, ap, ◌∙◌, subst, refl}
use Rattle.crossbeam_queue.specs.Passes.{view}
use Rattle.arb_model.specs.History.{History, entries_of}
use Rattle.arb_desk.specs.declared.message.Message.{Message}
use Rattle.arb_desk.specs.declared.rule.PassView.{PassView}
use Rattle.arb_desk.specs.Passes.{has, takes}
use Rattle.arb_house.specs.Taking.{FollowsTaken}
use Rattle.arb_house.proofs.ClosingLaws.{marked_close, marked_more}
use Rattle.arb_house.proofs.TakingLaws.{follows_admission, follows_close, taken_more}
use Rattle.arb_house.proofs.server.Server.turn.Goals as goal

-- where room was made before a message was taken: what the pass has taken then, and that it made the message's client
taken_of : {first kept after : PassView} (m : Message) → kept ≡ first → after ≡ takes kept m → has m.client kept.made ≡ true
    → (after ≡ takes first m) × (has m.client first.made ≡ true)
taken_of m same taken made = (taken ∙ ap (λ (v : PassView). takes v m) same, subst (λ (v : PassView). has m.client v.made ≡ true) same made)

pub invariant_of-self-in-Close : goal.invariant_of-self-in-Close
invariant_of-self-in-Close g c =
    let i = c.self.invariant in
    let m : Message = c.in-Ok.message in
    let took = taken_of m c.make_room.ensures.pass c.in-Ok.ensures.taken c.in-Ok.ensures.of_client in
    let was = (view c.self.inside.pass).taken in (
      rw (← c.deref-2.ensures) c.take_one.ensures.queue,
      ap (λ (v : PassView). v.is_server) took.0 ∙ i.1,
      rw (took.0, c.make_room.ensures.seen) (follows_close g.K.Set.machine.orders (entries_of c.self.inside.recorder.seen) was m i.2 c.in-Close.is),
      rw (took.0, c.close.ensures) (marked_close c.self.inside.clients m was i.3 c.in-Close.is),
      rw (took.0, c.close.ensures) (taken_more c.self.inside.clients.list was m i.4 (i.5 m.client took.1)),
      rw (took.0, c.close.ensures) i.5,
      rw c.close.ensures i.6,
    )

pub invariant_of-self-in-Put : goal.invariant_of-self-in-Put
invariant_of-self-in-Put g c =
    let i = c.self.invariant in
    let m : Message = c.in-Ok.message in
    let took = taken_of m c.make_room.ensures.pass c.in-Ok.ensures.taken c.in-Ok.ensures.of_client in
    let was = (view c.self.inside.pass).taken in
    let a = c.record-answer.ensures in
    let seen : c.have_room.new.recorder.seen ≡ c.self.inside.recorder.seen = c.have_room.ensures.same ∙ c.make_room.ensures.seen in
    let before = subst (λ (h : History). FollowsTaken g.K.Set.machine.orders (entries_of h) was) (sym seen) i.2 in (
      rw (← c.deref-2.ensures) c.take_one.ensures.queue,
      ap (λ (v : PassView). v.is_server) took.0 ∙ i.1,
      rw took.0
          (follows_admission g.K.Set.machine c.have_room.new.recorder.seen m.client c.in-Put.order c.record-answer.result.admission c.record-answer.new.self.seen was m a.machine a.legal a.admits refl c.in-Put.is before),
      rw took.0 (marked_more c.self.inside.clients.list c.self.inside.clients.closed was m i.3),
      rw took.0 (taken_more c.self.inside.clients.list was m i.4 (i.5 m.client took.1)),
      rw took.0 i.5,
      i.6,
    )

pub returns-in-Close-clause-taken : goal.returns-in-Close-clause-taken
returns-in-Close-clause-taken g c = (c.in-Ok.message ∷ [], rw (← c.self.view_is, c.in-Ok.ensures.taken, c.make_room.ensures.pass))

pub returns-in-Put-clause-taken : goal.returns-in-Put-clause-taken
returns-in-Put-clause-taken g c = (c.in-Ok.message ∷ [], rw (c.send.ensures.same, ← c.self.view_is, c.in-Ok.ensures.taken, c.make_room.ensures.pass))
