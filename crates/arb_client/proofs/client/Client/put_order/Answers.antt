use Rattle.std.proofs.Common.{◌++◌, ◌∷◌, [], sym, ap, ◌∙◌, rules}
use Rattle.crossbeam_queue.specs.Passes.{view}
use Rattle.arb_desk.specs.declared.rule.PassView.{PassView}
use Rattle.arb_desk.specs.Messages.{is_closed}
use Rattle.arb_client.specs.declared.client.OpenOrder.{OpenOrder}
use Rattle.arb_client.specs.Sides.{message, puts_of}
use Rattle.arb_client.proofs.SideLaws.{puts_posted, unclosed-snoc}
use Rattle.arb_client.proofs.client.Client.put_order.Goals as goal

pub invariant_of-self-2 : goal.invariant_of-self-2
invariant_of-self-2 g c =
    let i = c.self.invariant in
    let more = c.if-not-put.ensures.put in
    let id = c.self.inside.id in
    let mine = c.self.inside.mine.items in
    let asked : OpenOrder = c.args.asked in (
      search rules,
      ap (λ (v : PassView). v.is_client) more ∙ i.1,
      ap (λ (v : PassView). v.client) more ∙ i.2,
      ap (λ (v : PassView). is_closed v.put) more ∙ unclosed-snoc (view c.self.inside.pass).put id asked.order i.3,
      (λ full shut. ap (λ (v : PassView). v.put) more ∙ (ap (λ l. l ++ message id asked.order ∷ []) (i.4 full shut) ∙ (sym (puts_posted id mine c.self.inside.out.items asked) ∙ ap (λ o. puts_of id mine o) (sym c.push_reserved.ensures.items)))),
      i.5,
      i.6,
      search rules,
      search rules,
      search rules,
      i.10,
      i.11,
    )

pub returns : goal.returns
returns g c = search rules
