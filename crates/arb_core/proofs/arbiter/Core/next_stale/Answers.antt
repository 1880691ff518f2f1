use Rattle.std.proofs.Common.{ap, sym, subst, ◌∙◌}
use Rattle.arb_model.specs.Arbiter.{Arbiter, IsArbiter}
use Rattle.arb_model.specs.Posting.{next_stale_of}
use Rattle.arb_model.proofs.WordsLaws.{none_stale}
use Rattle.arb_core.proofs.CoreLaws.{next_within, shown_next}
use Rattle.arb_core.proofs.arbiter.Core.next_stale.Goals as goal

pub returns-clause-next : goal.returns-clause-next
returns-clause-next c =
    c.next_stale.ensures ∙ shown_next c.self.inside.state c.seats.result.now c.words.result.now c.self.invariant c.seats.ensures c.words.ensures.posted c.words.ensures.shows
    ∙ ap (λ (a : Arbiter). next_stale_of a.standing a.posted) c.self.view_is

pub returns-clause-arbiter : goal.returns-clause-arbiter
returns-clause-arbiter c = subst (λ (a : Arbiter). IsArbiter a) c.self.view_is c.self.invariant

pub returns-clause-within : goal.returns-clause-within
returns-clause-within c = next_within c.args.self.now c.next_stale.result (returns-clause-arbiter c) (returns-clause-next c)

pub returns-clause-up_to_date : goal.returns-clause-up_to_date
returns-clause-up_to_date c = λ none. none_stale _ _ (sym (returns-clause-next c) ∙ none)
