use Rattle.arb_core.proofs.SettlingLaws.{settles_as}
use Rattle.arb_core.proofs.arbiter.Core.settle.Goals as goal

pub invariant_of-self : goal.invariant_of-self
invariant_of-self c = (settles_as c.self.inside.state c.args.self.now c.settle.new.self c.self.view_is c.self.invariant c.settle.ensures.rest c.settle.ensures.long c.settle.ensures.counted c.settle.ensures.posted).formed

pub returns-clause-rest : goal.returns-clause-rest
returns-clause-rest c = (settles_as c.self.inside.state c.args.self.now c.settle.new.self c.self.view_is c.self.invariant c.settle.ensures.rest c.settle.ensures.long c.settle.ensures.counted c.settle.ensures.posted).rest

pub returns-clause-settled : goal.returns-clause-settled
returns-clause-settled c = (settles_as c.self.inside.state c.args.self.now c.settle.new.self c.self.view_is c.self.invariant c.settle.ensures.rest c.settle.ensures.long c.settle.ensures.counted c.settle.ensures.posted).settled

pub returns-clause-up_to_date : goal.returns-clause-up_to_date
returns-clause-up_to_date c = (settles_as c.self.inside.state c.args.self.now c.settle.new.self c.self.view_is c.self.invariant c.settle.ensures.rest c.settle.ensures.long c.settle.ensures.counted c.settle.ensures.posted).up_to_date

pub returns-clause-arbiter : goal.returns-clause-arbiter
returns-clause-arbiter c = (settles_as c.self.inside.state c.args.self.now c.settle.new.self c.self.view_is c.self.invariant c.settle.ensures.rest c.settle.ensures.long c.settle.ensures.counted c.settle.ensures.posted).formed

pub returns-clause-posts : goal.returns-clause-posts
returns-clause-posts c = (settles_as c.self.inside.state c.args.self.now c.settle.new.self c.self.view_is c.self.invariant c.settle.ensures.rest c.settle.ensures.long c.settle.ensures.counted c.settle.ensures.posted).leads
