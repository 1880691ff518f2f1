use Rattle.std.proofs.Common.{◌≡◌, ◌++◌, [], ◌∷◌, ap, ◌∙◌, rules, tests}
use Rattle.arb_script.proofs.GivenLaws.{orders_by-append}
use Rattle.arb_script.proofs.order_list.OrderList.push.Goals as goal

pub returns : goal.returns
returns c =
    let clients : c.push.new.self.items ≡ c.self.inside.clients.items ++ c.args.given.client ∷ [] = search (rules, tests) in
    let orders : c.push-2.new.self.items ≡ c.self.inside.orders.items ++ c.args.given.order ∷ [] = search (rules, tests) in
    rw (clients, orders) (orders_by-append _ _ c.args.given.client c.args.given.order c.self.invariant ∙ ap (λ given. given ++ c.args.given ∷ []) c.self.view_is)
