use Rattle.std.proofs.Common.{subst}
use Rattle.std.specs.Arc.{arc_value}
use Rattle.arb_common.specs.Lawful.{IsLawfulThroughout}
use Rattle.arb_common.specs.Sides.{Side}
use Rattle.arb_common.proofs.LawfulLaws.{lawful_throughout}
use Rattle.arb_common.proofs.member.Member.history_is_lawful.Goals as goal

pub returns-clause-lawful : goal.returns-clause-lawful
returns-clause-lawful c = subst (λ (s : Side). IsLawfulThroughout s.machine s.seen) c.self.view_is (lawful_throughout _ _ (arc_value c.self.inside.common).machine c.self.invariant.2)
