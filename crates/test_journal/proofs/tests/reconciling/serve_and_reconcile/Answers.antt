use Rattle.std.proofs.Common.{◌≡◌, List, ◌∷◌, ◌++◌, [], Bool, true, false, Some, if◌then◌else◌, ap, sym, subst, ◌∙◌}
use Rattle.std.specs.Prelude.{slice_get}
use Rattle.arb_model.specs.declared.orders.Order.{Order}
use Rattle.arb_model.specs.declared.orders.Reply.{Reply}
use Rattle.arb_desk.specs.declared.message.Message.{Message}
use Rattle.arb_desk.specs.Messages.{is_closed, messages_by}
use Rattle.arb_client.specs.Sides.{Side, StandIn, close_mark}
use Rattle.arb_client.proofs.SideLaws.{stand_on}
use Rattle.test_journal.proofs.tests.reconciling.serve_and_reconcile.Goals as goal

-- what is taken of a client up to its close mark is all that it put
all_put : (a : Side) (put taken : List Message) → is_closed a.put ≡ false → is_closed taken ≡ true → put ≡ taken → (marked : Bool) → put ≡ (if marked then a.put ++ close_mark a.id ∷ [] else a.put) → taken ≡ a.put ++ close_mark a.id ∷ []
all_put a put taken unclosed shut same true e = sym same ∙ e
all_put a put taken unclosed shut same false e = let closed : is_closed a.put ≡ true = ap is_closed (sym e ∙ same) ∙ shut in absurd (cc (sym unclosed ∙ closed))

pub returns : goal.returns
returns g c =
    let left = c.serve_and_close-ended.ensures in
    let back = c.reconcile-mine.ensures in
    record {
      stand = subst (λ (l : List (Order × Reply)). StandIn c.args.client.id l c.reconcile-mine.new.self.served.seen) (sym back.mine) (stand_on _ _ _ _ back.seen left.stand);
      taken = λ place here none.
          let client = c.args.client in
          let served = subst (λ clients. slice_get clients place ≡ Some client.id) (sym left.clients) here in
          let shut = left.closed (sym back.same.2 ∙ none) place client.id served in
          let put = back.whole (subst (λ id. is_closed (messages_by id c.serve_and_close-ended.result.0.served.taken) ≡ true) (sym left.client) shut) ∙ ap (λ id. messages_by id c.serve_and_close-ended.result.0.served.taken) left.client in
          subst (λ taken. messages_by client.id taken ≡ client.put ++ close_mark client.id ∷ []) (ap (λ k. k.taken) (sym back.same.3)) (all_put client _ _ c.requires.unclosed shut put left.put.marked left.put.put);
    }
