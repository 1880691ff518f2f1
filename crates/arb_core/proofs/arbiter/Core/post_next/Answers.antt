use Rattle.std.proofs.Common.{sym, subst, Option, ℕ}
use Rattle.arb_seats.specs.NextPost.{PostsNext}
use Rattle.arb_core.proofs.CoreLaws.{posted_all, posts_one}
use Rattle.arb_core.proofs.arbiter.Core.post_next.Goals as goal

pub post_next-requires : goal.post_next-requires
post_next-requires c = sym c.self.invariant.consistent.counted

pub invariant_of-self : goal.invariant_of-self
invariant_of-self c = (posts_one c.post_next.result c.self.inside.state c.post_next.new.self c.self.invariant c.post_next.ensures.rest c.post_next.ensures.next).formed

pub returns-clause-arbiter : goal.returns-clause-arbiter
returns-clause-arbiter c = invariant_of-self c

pub returns-clause-within : goal.returns-clause-within
returns-clause-within c = (posts_one c.post_next.result c.self.inside.state c.post_next.new.self c.self.invariant c.post_next.ensures.rest c.post_next.ensures.next).within

pub returns-clause-one_less : goal.returns-clause-one_less
returns-clause-one_less c = rw (← c.self.view_is) ((posts_one c.post_next.result c.self.inside.state c.post_next.new.self c.self.invariant c.post_next.ensures.rest c.post_next.ensures.next).one_less)

pub returns-clause-up_to_date : goal.returns-clause-up_to_date
returns-clause-up_to_date c = λ none.
    posted_all c.self.inside.state c.post_next.new.self c.post_next.ensures.rest
    (subst (λ (next : Option (ℕ × ℕ)). PostsNext c.self.inside.state.standing c.self.inside.state.posted c.post_next.new.self.posted next) none c.post_next.ensures.next)
