use Rattle.std.proofs.Common.{◌≡◌, ℕ, Bool, true, false, ap, ◌∙◌}
use Rattle.std.specs.Prelude.{MatchBool}
use Rattle.crossbeam_queue.specs.Passes.{view}
use Rattle.arb_model.specs.declared.orders.Order.{Order}
use Rattle.arb_model.specs.declared.orders.Order.TheVariants.{Join}
use Rattle.arb_desk.specs.declared.rule.PassView.{PassView}
use Rattle.arb_desk.specs.Messages.{is_closed}
use Rattle.arb_desk.specs.Passes.{puts}
use Rattle.arb_client.specs.Sides.{message}
use Rattle.arb_client.proofs.SideLaws.{unclosed-snoc}
use Rattle.test_client.proofs.tests.woken.fill.Goals as goal

-- whether an order was put or not, the pass is its client's, and has put no close mark
stays : (put : Bool) (v w : PassView) (id : ℕ) (order : Order) → MatchBool put (w ≡ puts v (message id order)) (w ≡ v) → v.is_client ≡ true → w.is_client ≡ true
stays true v w id order e is = ap (λ (x : PassView). x.is_client) e ∙ is
stays false v w id order e is = ap (λ (x : PassView). x.is_client) e ∙ is

stays_own : (put : Bool) (v w : PassView) (id client : ℕ) (order : Order) → MatchBool put (w ≡ puts v (message id order)) (w ≡ v) → v.client ≡ client → w.client ≡ client
stays_own true v w id client order e is = ap (λ (x : PassView). x.client) e ∙ is
stays_own false v w id client order e is = ap (λ (x : PassView). x.client) e ∙ is

stays_open : (put : Bool) (v w : PassView) (id : ℕ) (order : Order) → MatchBool put (w ≡ puts v (message id order)) (w ≡ v) → is_closed v.put ≡ false → is_closed w.put ≡ false
stays_open true v w id order e is = ap (λ (x : PassView). is_closed x.put) e ∙ unclosed-snoc v.put id order is
stays_open false v w id order e is = ap (λ (x : PassView). is_closed x.put) e ∙ is

pub loop-preserved : goal.loop-preserved
loop-preserved g c =
    let i = c.loop.invariant in
    let v = view c.loop.pass in
    let w = view c.put-put.new.pass in
    let id = c.of_thread-client.result in
    let e = c.put-put.ensures.put in (
      c.put-put.ensures.queue,
      stays c.put-put.result v w id Join e i.1,
      stays_own c.put-put.result v w id 32 Join e i.2,
      stays_open c.put-put.result v w id Join e i.3,
    )
