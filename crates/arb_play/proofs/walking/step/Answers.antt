use Rattle.std.proofs.Common.{arith, inl, inr}
use Rattle.std.proofs.lemmas.Option.{slice_get_within}
use Rattle.arb_play.proofs.GivingUpLaws.{if_none}
use Rattle.arb_play.proofs.walking.step.Goals.{in-Some, in_default+then-is_none, in_default+else-is_none}
use Rattle.arb_play.proofs.walking.step.Goals as goal

pub returns-clause-let_through : goal.returns-clause-let_through
returns-clause-let_through g c = λ script at through k given below there own.
    elim c.match-by.branch [
      | in-Some w ↦ grind (arith, through k given, w.account-is, w.in-Some.ensures.let_through)
      | in_default+then-is_none w ↦ grind (arith, through k given, w.account-is, w.if-is_none.ensures {u = tt})
      | in_default+else-is_none w ↦ grind (arith, through k given, w.account-is, w.if-is_none.ensures {u = tt})
    ]

pub returns-clause-given_up : goal.returns-clause-given_up
returns-clause-given_up g c = λ script at given_up.
    elim c.match-by.branch [
      | in-Some w ↦ grind (arith, given_up, w.account-is, w.ask.ensures.gave_up)
      | in_default+then-is_none w ↦
          let may = if_none c.by.result (g.G.Gate.may_give_up c.args.gate.now c.args.index) c.by.ensures.given_up (λ leave is. w.in_default.not-Some leave is) in
          grind (arith, given_up, w.account-is, slice_get_within script c.args.index c.args.given at, may)
      | in_default+else-is_none w ↦ grind (arith, given_up, w.account-is)
    ]

pub returns-clause-posted : goal.returns-clause-posted
returns-clause-posted g c =
    elim c.match-by.branch [
      | in-Some w ↦ inr w.in-Some.ensures.let_through
      | in_default+then-is_none w ↦ inl w.client-is
      | in_default+else-is_none w ↦ inl w.client-is
    ]

pub returns-clause-asked : goal.returns-clause-asked
returns-clause-asked g c =
    let given_up = if_none c.by.result (g.G.Gate.may_give_up c.args.gate.now c.args.index) c.by.ensures.given_up in
    elim c.match-by.branch [
      | in-Some w ↦ inr w.in-Some.ensures.let_through
      | in_default+then-is_none w ↦ inl (given_up (λ leave is. w.in_default.not-Some leave is))
      | in_default+else-is_none w ↦ inl (given_up (λ leave is. w.in_default.not-Some leave is))
    ]
