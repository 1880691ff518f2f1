use Rattle.std.proofs.Common.{◌≡◌, ℕ, ◌<◌, ◌∙◌, List, false, true, length, get_or, take, sym, subst, arith}
use Rattle.std.proofs.lemmas.Bool.{false≢true}
use Rattle.std.proofs.lemmas.List.{get_or-replicate, get_or_default, length-replicate, length-set, take_all}
use Rattle.arb_house.specs.Pasts.{IsMissing}
use Rattle.arb_house.specs.Walks.{Marks}
use Rattle.arb_house.proofs.CountLaws.{missing_more, missing_same}
use Rattle.arb_house.proofs.survey.Survey.missing.Goals as goal
use Rattle.arb_house.proofs.survey.Survey.missing.Goals.{then-self-number-eq0, else-self-number-eq0}

pub loop-client-init : goal.loop-client-init
loop-client-init c = (
  length-replicate 513 false,
  λ k h. (
    (λ m. absurd (false≢true (sym (get_or-replicate 513 k false false h) ∙ m))),
    λ p. absurd (omega (arith, p.0.1)),
  ),
)

pub loop-client-preserved : goal.loop-client-preserved
loop-client-preserved c =
    let i = c.loop-client.client-index in
    let house = c.args.clients.now in
    let pasts = c.args.self.now.pasts.now in
    let marks = c.loop-client.marks in
    let number = c.index-number.result in
    let inside : i < length house = c.loop-client-test.true in
    let is : number ≡ get_or house i number = c.index-number.ensures.value ∙ c.client-item.is ∙ get_or_default house i c.client-item.result number inside in
    let room : number < length marks = omega (arith, c.loop-client.invariant.0, c.index-number.ensures.within) in
    let counted = c.args.self.now.counted number c.index-number.ensures.within in
    elim c.if-self-number-eq0.branch [
      | then-self-number-eq0 w ↦ rw w.marks-is (length-set marks number true ∙ c.loop-client.invariant.0, missing_more house pasts marks i number inside is room (sym counted ∙ w.if-self-number-eq0.true) c.loop-client.invariant.1)
      | else-self-number-eq0 w ↦ rw w.marks-is (c.loop-client.invariant.0, missing_same house pasts marks i number inside is (λ none. w.if-self-number-eq0.false (counted ∙ none)) c.loop-client.invariant.1)
    ]

pub returns : goal.returns
returns c =
    let all : take c.loop-client.client-index c.args.clients.now ≡ c.args.clients.now = take_all c.loop-client.client-index c.args.clients.now c.loop-client-test.false in
    subst (λ (house : List ℕ). Marks (IsMissing house c.args.self.now.pasts.now) c.loop-client.marks) all c.loop-client.invariant.1
