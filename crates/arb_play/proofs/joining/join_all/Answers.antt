use Rattle.std.proofs.Common.{◌≡◌, Option, ℕ, length, map, sym, ap, ◌∙◌, subst, arith, rules}
use Rattle.std.specs.Prelude.{All, IfSome, unwrap_or}
use Rattle.std.specs.Vec.Iter.{into_iter_items}
use Rattle.std.specs.declared.thread.PromisedHandle.{PromisedHandle}
use Rattle.std.proofs.lemmas.Bool.{or_parts}
use Rattle.std.proofs.lemmas.List.{nil_from_length}
use Rattle.std.proofs.lemmas.List.Elements.{All-nil, All-rest}
use Rattle.arb_desk.specs.Passes.{QueueId}
use Rattle.arb_house.specs.OwnPasts.{IsOwnPast}
use Rattle.arb_play.specs.declared.walking.Walk.{Walk}
use Rattle.arb_play.specs.declared.walking.Walks.{Walks}
use Rattle.arb_play.specs.GivingUp.{MayBeGivenUp}
use Rattle.arb_play.specs.Walking.{Walked}
use Rattle.arb_play.proofs.GivingUpLaws.{ThroughBut, all_joined, none_joined, one_joined}
use Rattle.arb_play.proofs.JoinLaws.{all_first, earlier_either}
use Rattle.arb_play.proofs.joining.join_all.Goals as goal

pub loop-handle-init : goal.loop-handle-init
loop-handle-init g c =
    let Threads : Type 0 = PromisedHandle Walk (Walks g.row.G.Denot g.row.K.Denot) in
    let IsSame : Threads → Type 0 = λ h. (h.promise.0.now ≡ c.args.script.now) × (h.promise.1.now ≡ c.args.gate.now) in
    let whole = c.into_iter-handle-iterator.ensures.into_iter_gives.0 in (
      tt,
      tt,
      subst (All IsSame) (sym whole) c.requires.same,
      search rules,
      search rules,
      search rules,
      (λ going. none_joined _ _ _ _ (ap (map (λ (h : Threads). h.promise.2)) whole ∙ c.requires.clients)),
      λ queue all. (subst (All (λ (h : Threads). h.promise.3.value.queue ≡ queue)) (sym whole) all, rw c.requires.none.0 (All-nil (IsOwnPast g.K.Set.table g.K.Set.machine queue))),
    )

pub loop-handle-preserved : goal.loop-handle-preserved
loop-handle-preserved g c =
    let may = g.G.Gate.may_give_up c.args.gate.now in
    let lets = g.G.Gate.may_let_through c.args.gate.now in
    let script = c.args.script.now in
    let at = c.loop-handle.invariant in
    let handle = c.in-Some.handle in
    let walk = c.join.result in
    let steps = c.in-Some.ensures.steps.0 in
    let Threads : Type 0 = PromisedHandle Walk (Walks g.row.G.Denot g.row.K.Denot) in
    let IsSame : Threads → Type 0 = λ h. (h.promise.0.now ≡ script) × (h.promise.1.now ≡ c.args.gate.now) in
    let same = all_first IsSame _ handle _ steps at.2 in
    let walked : Walked may lets script handle.promise.2 walk = rw (same.0, same.1) at c.join.ensures.0 in (
      tt,
      tt,
      All-rest IsSame handle _ _ steps at.2,
      subst (λ (o : Option ℕ). IfSome o (MayBeGivenUp may script)) (sym c.gather.ensures.gave_up) (earlier_either (MayBeGivenUp may script) _ _ at.3 walked.given_up),
      c.gather.ensures.answered,
      omega (arith, at.5, c.in-Some.ensures.steps.1, ap length steps),
      (λ going.
          let both = or_parts _ _ (sym c.gather.ensures.stopped ∙ going) in
          subst (λ (o : Option ℕ). ThroughBut lets script (unwrap_or o (length script)) (map (λ (h : Threads). h.promise.2) (into_iter_items c.next.new.self))) (sym c.gather.ensures.gave_up)
          (one_joined may lets script _ _ _ _ handle.promise.2 (ap (map (λ (h : Threads). h.promise.2)) steps) at.3 walked.given_up (at.6 both.0) (walked.let_through both.1))),
      λ queue all.
          let both = at.7 queue all in
          let IsOf : Threads → Type 0 = λ h. h.promise.3.value.queue ≡ queue in
          let past = subst (λ (q : QueueId). IsOwnPast g.K.Set.table g.K.Set.machine q walk.past) (all_first IsOf _ handle _ steps both.0) c.join.ensures.1 in
          (All-rest IsOf handle _ _ steps both.0, c.gather.ensures.own queue both.1 past),
    )

pub returns-clause-gives_up : goal.returns-clause-gives_up
returns-clause-gives_up g c = λ going.
    let at = c.loop-handle.invariant in
    let Threads : Type 0 = PromisedHandle Walk (Walks g.row.G.Denot g.row.K.Denot) in
    let none = nil_from_length _ (sym at.5 ∙ c.in-None.ensures.steps.0) in
    all_joined (g.G.Gate.may_give_up c.args.gate.now) (g.G.Gate.may_let_through c.args.gate.now) c.args.script.now _ _ (ap (map (λ (h : Threads). h.promise.2)) none) at.3 (at.6 going)

pub returns-clause-own : goal.returns-clause-own
returns-clause-own g c = λ queue all. (c.loop-handle.invariant.7 queue all).1
