-- The owner that the arbiter answers is told.
use Rattle.std.proofs.Common.{None, Some, rules, subst}
use Rattle.arb_common.specs.Limits.{StandsAt}
use Rattle.arb_c.specs.MemberHolding.{MemberHolding}
use Rattle.arb_c.specs.Members.{FindsOwner}
use Rattle.arb_c.proofs.OwnerLaws.{Finds, told, not_told, free, not_free}
use Rattle.arb_c.proofs.member.readers.owner_in.Goals as goal

pub returns-in_default-clause-owner : goal.returns-in_default-clause-owner
returns-in_default-clause-owner c = λ _.
    let t = c.look.ensures.told in
    let a = t.0 in
    let found : FindsOwner a c.args.core c.look.result = search rules in
    let finds : Finds a c.args.core None = subst (Finds a c.args.core) c.in_default.is found.finds in
    (a, subst (λ (m : MemberHolding). StandsAt m.stance.side.machine m.stance.side.seen a) c.opened.view_is t.1, (not_told a c.args.core c.args.thread.now finds, free a c.args.core finds))

pub returns-clause-owner : goal.returns-clause-owner
returns-clause-owner c = λ _.
    let t = c.look.ensures.told in
    let a = t.0 in
    let found : FindsOwner a c.args.core c.look.result = search rules in
    let finds : Finds a c.args.core (Some c.in-Some.owner) = subst (Finds a c.args.core) c.in-Some.is found.finds in
    (a, subst (λ (m : MemberHolding). StandsAt m.stance.side.machine m.stance.side.seen a) c.opened.view_is t.1, (told a c.args.core c.in-Some.owner c.index.result c.index.ensures.value finds, not_free a c.args.core c.in-Some.owner finds))
