use Rattle.std.proofs.Common.{◌≡◌, Some, arith, subst}
use Rattle.std.specs.Arc.{arc_value}
use Rattle.arb_c.specs.Codes.{ok, settled}
use Rattle.arb_c.specs.MemberHolding.{MemberHolding}
use Rattle.arb_c.specs.Members.{posting_code}
use Rattle.arb_c.proofs.MemberLaws.{code_posted}
use Rattle.arb_c.proofs.member.short_turns.posted_or_ended.Goals as goal

pub overflow_cast-post : goal.overflow_cast-post
overflow_cast-post c = omega (arith, c.in-Some.ensures.word)

pub returns-clause-code : goal.returns-clause-code
returns-clause-code c =
    let before : MemberHolding = record { stance = c.opened.inside.member; described = arc_value c.opened.inside.described } in
    subst (λ (m : MemberHolding). ok ≡ posting_code ok settled (Some m)) c.opened.view_is (code_posted before _ _ _ c.if-not-is_in_turn.ensures c.in-Some.ensures.posted)
