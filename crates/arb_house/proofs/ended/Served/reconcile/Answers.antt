use Rattle.std.proofs.Common.{rules, subst}
use mathlib.Core.List.{IsPrefix}
use Rattle.arb_model.specs.History.{History}
use Rattle.arb_client.proofs.SideLaws.{prefix_trans}
use Rattle.arb_house.proofs.ended.Served.reconcile.Goals as goal

-- (what an edit makes wrong has an answer, so that it is refused at once)
pub returns-clause-begins : goal.returns-clause-begins
returns-clause-begins g c = search rules

pub returns-clause-whole : goal.returns-clause-whole
returns-clause-whole g c = search rules

pub returns-clause-seen : goal.returns-clause-seen
returns-clause-seen g c = prefix_trans _ _ _ c.into_reader-reader.ensures.seen (subst (λ (h : History). IsPrefix h c.learn.new.self.seen) c.tell-note.ensures.note c.learn.ensures.told)

pub returns-clause-same : goal.returns-clause-same
returns-clause-same g c = search rules
