use Rattle.std.proofs.Common.{sym, ap, ◌∙◌}
use Rattle.crossbeam_queue.specs.Passes.{view}
use Rattle.arb_desk.specs.declared.rule.PassView.{PassView}
use Rattle.arb_desk.specs.Messages.{ends_at_mark, messages_by, put_by}
use Rattle.arb_desk.proofs.RuleLaws.{absorb_keeps, accounts, settles}
use Rattle.arb_desk.proofs.queue.reconcile.Goals as goal

pub absorb-requires-clause-rule : goal.absorb-requires-clause-rule
absorb-requires-clause-rule c = absorb_keeps _ _ _ _ c.requires.server c.requires.client

pub learn_as-requires-clause-rule : goal.learn_as-requires-clause-rule
learn_as-requires-clause-rule c =
    let a = c.absorb.ensures.rule in
    accounts _ _ (ap (λ (v : PassView). v.is_server) a ∙ c.requires.server) (ap (λ (v : PassView). v.is_client) a)

pub returns-clause-begins : goal.returns-clause-begins
returns-clause-begins c =
    let a = c.absorb.ensures.rule in
    let l = c.learn_as.ensures.rule in (
      messages_by (view c.args.client).client l.0,
      sym (sym (ap (λ (v : PassView). v.put) a) ∙ (l.1.put ∙ ap (λ (v : PassView). put_by v.client v.taken l.0) a)),
    )

pub returns-clause-whole : goal.returns-clause-whole
returns-clause-whole c =
    let a = c.absorb.ensures.rule in
    let l = c.learn_as.ensures.rule in
    λ closed. settles (view c.args.client).put (messages_by (view c.args.client).client (view c.args.server.now).taken) (messages_by (view c.args.client).client l.0)
    (sym (ap (λ (v : PassView). v.put) a) ∙ (l.1.put ∙ ap (λ (v : PassView). put_by v.client v.taken l.0) a))
    (sym (ap (λ (v : PassView). ends_at_mark v.put) a) ∙ l.1.marks)
    closed
