use Rattle.std.proofs.Common.{◌≡◌, ◌<◌, ◌-◌, ℕ, List, sym, ap, ◌∙◌, subst, arith}
use Rattle.std.specs.Prelude.{vec_capacity, vec_len}
use Rattle.crossbeam_queue.specs.Passes.{view}
use Rattle.arb_model.specs.declared.orders.Entry.{Entry}
use Rattle.arb_model.specs.Arbiter.{arbiter_in}
use Rattle.arb_model.specs.History.{History, IsLegal, IsSettled, entries_of, orders_in, state_after}
use Rattle.arb_desk.specs.declared.message.Message.{Message}
use Rattle.arb_house.specs.Serving.{AllClosed, Remains, ServerState}
use Rattle.arb_house.specs.Taking.{FollowsTaken, TakenFrom}
use Rattle.arb_house.proofs.TakingLaws.{entered_from}
use Rattle.arb_house.proofs.server.Server.end.Goals as goal

pub invariant_of-result : goal.invariant_of-result
invariant_of-result g c =
    let m = g.K.Set.machine in
    let kept = c.new.ensures in
    let p = c.into_parts-journal.ensures in
    let seen : c.new.result.seen ≡ c.self.inside.recorder.seen = ap (λ (r : Remains). r.seen) kept ∙ p.seen in
    let taken : c.new.result.taken ≡ (view c.self.inside.pass).taken = ap (λ (r : Remains). r.taken) kept in
    let clients : c.new.result.clients ≡ c.self.inside.clients.list = ap (λ (r : Remains). r.clients) kept ∙ c.into_list.ensures in
    let orders : FollowsTaken m.orders c.into_parts-journal.result.0.items c.new.result.taken = subst (λ (l : List Entry). FollowsTaken m.orders l c.new.result.taken) (sym p.journal)
    (subst (λ (l : List Message). FollowsTaken m.orders (entries_of c.self.inside.recorder.seen) l) (sym taken) c.self.invariant.2) in
    let listed : TakenFrom c.new.result.clients c.new.result.taken = rw (clients, taken) c.self.invariant.4 in
    record {
      legal = subst (IsLegal m) (sym seen) p.stands.legal;
      entries = p.journal ∙ ap entries_of (sym seen);
      state = p.stands.state ∙ ap (λ (h : History). arbiter_in m (state_after m h)) (sym seen);
      settled = subst (IsSettled m) (sym seen) p.settled;
      orders = orders;
      listed = listed;
      own = entered_from m.orders c.new.result.clients c.into_parts-journal.result.0.items c.new.result.taken orders listed;
      closed = λ none. subst (λ (l : List ℕ). AllClosed l c.new.result.taken) (sym clients)
          (subst (λ (l : List Message). AllClosed c.self.inside.clients.list l) (sym taken)
          (subst (λ (s : ServerState). AllClosed s.clients s.taken) (sym c.self.view_is) (c.requires.closed none)));
      early = λ some.
          let room : vec_capacity c.into_parts-journal.result.0 - vec_len c.into_parts-journal.result.0 ≡ 0 = p.room ∙ ap (λ (s : ServerState). s.room) c.self.view_is ∙ (c.requires.early some).1 in (
            subst (λ (h : History). orders_in h < m.orders) (ap (λ (s : ServerState). s.seen) (sym c.self.view_is) ∙ sym seen) (c.requires.early some).0,
            omega (arith, room),
          );
    }
