use Rattle.std.proofs.Common.{Some, sym, ◌∙◌, ap}
use Rattle.arb_model.specs.Arbiter.{Arbiter}
use Rattle.arb_model.specs.Posting.{next_stale_of}
use Rattle.arb_core.proofs.CoreLaws.{next_within, posts_as}
use Rattle.arb_core.proofs.arbiter.Core.post.Goals as goal

pub post-requires-clause-some : goal.post-requires-clause-some
post-requires-clause-some c = (next_within c.self.inside.state (Some c.args.w) c.self.invariant (sym (ap (λ (x : Arbiter). next_stale_of x.standing x.posted) c.self.view_is ∙ c.requires))).0

pub post-requires-clause-within : goal.post-requires-clause-within
post-requires-clause-within c = (next_within c.self.inside.state (Some c.args.w) c.self.invariant (sym (ap (λ (x : Arbiter). next_stale_of x.standing x.posted) c.self.view_is ∙ c.requires))).1

pub invariant_of-self : goal.invariant_of-self
invariant_of-self c = (posts_as _ c.args.self.now _ c.args.w c.self.view_is c.self.invariant c.requires c.post.ensures).formed

pub returns-clause-arbiter : goal.returns-clause-arbiter
returns-clause-arbiter c = invariant_of-self c

pub returns-clause-posted : goal.returns-clause-posted
returns-clause-posted c = (posts_as _ c.args.self.now _ c.args.w c.self.view_is c.self.invariant c.requires c.post.ensures).is

pub returns-clause-one_less : goal.returns-clause-one_less
returns-clause-one_less c = (posts_as _ c.args.self.now _ c.args.w c.self.view_is c.self.invariant c.requires c.post.ensures).one_less
