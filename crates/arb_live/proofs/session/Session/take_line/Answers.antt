use Rattle.std.proofs.Common.{drop, length-drop, take_all, ◌∙◌, arith}
use Rattle.std.proofs.lemmas.Bool.Decides.{nat_tests}
use Rattle.arb_share.proofs.TextLaws.{empty-is}
use Rattle.arb_live.proofs.AnsweredLaws.{answered_ok, answered_err}
use Rattle.arb_live.proofs.FrontLaws.{front_after, front_begun, front_heard, front_lines}
use Rattle.arb_live.proofs.session.Session.take_line.Goals as goal

pub returns-in_err-answer_heard-clause-answered : goal.returns-in_err-answer_heard-clause-answered
returns-in_err-answer_heard-clause-answered g c =
    let front = c.in-Some.ensures.line in
    answered_err c.from_residual.result c.from_residual.ensures.0 ((c.in_err-answer_heard.ensures {u = tt}).answered _ (front_heard front)) (front_lines front _ (empty-is _ (grind (arith, nat_tests, c.is_empty-whole.ensures, c.if-whole.true))))

pub returns-clause-answered : goal.returns-clause-answered
returns-clause-answered g c =
    let front = c.in-Some.ensures.line in
    answered_ok _ ((c.in_ok-answer_heard.ensures {u = tt}).answered _ (front_heard front)) (front_lines front _ (empty-is _ (grind (arith, nat_tests, c.is_empty-whole.ensures, c.if-whole.true))))

pub returns-clause-begun : goal.returns-clause-begun
returns-clause-begun g c = front_begun c.in-Some.ensures.line _ (empty-is _ (grind (arith, nat_tests, c.is_empty-whole.ensures, c.if-whole.true)))

pub returns-clause-rest : goal.returns-clause-rest
returns-clause-rest g c =
    take_all _ (drop c.in-Some.used c.args.bytes.now) (omega (arith, length-drop c.in-Some.used c.args.bytes.now)) ∙ front_after c.in-Some.ensures.line
