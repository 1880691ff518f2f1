use Rattle.std.proofs.Common.{◌≡◌, ◌∷◌, ◌++◌, [], length, map, ap, sym, subst, ◌∙◌, arith, rules}
use Rattle.std.specs.Prelude.{All}
use Rattle.std.specs.declared.thread.PromisedHandle.{PromisedHandle}
use Rattle.std.proofs.lemmas.Bool.{and_parts}
use Rattle.std.proofs.lemmas.List.{nil_from_length}
use Rattle.std.proofs.lemmas.List.Elements.{All-rest}
use Rattle.arb_client.specs.Sides.{Side}
use Rattle.arb_desk.specs.Passes.{QueueId}
use Rattle.arb_house.specs.declared.promises.LeavesEnded.{LeavesEnded}
use Rattle.arb_house.specs.OwnPasts.{IsOwnPast}
use Rattle.arb_house.specs.Serving.{ServerState}
use Rattle.arb_play.specs.declared.walking.Walk.{Walk}
use Rattle.arb_play.specs.declared.walking.Walks.{Walks}
use Rattle.arb_play.specs.Performing.{IsFresh}
use Rattle.arb_play.proofs.JoinLaws.{all_first, kept_one, no_more, ok_some, one_started}
use Rattle.arb_play.proofs.performing.fn.run_all.scope.Goals as goal

pub spawn_with-started-requires-clause-runs : goal.spawn_with-started-requires-clause-runs
spawn_with-started-requires-clause-runs g c κs within =
    let first : IsFresh c.captures.server.queue c.in-Some.client = all_first (IsFresh c.captures.server.queue) _ c.in-Some.client _ c.in-Some.ensures.steps.0 c.loop-client.invariant.2 in
    ((first.0, first.1), search rules)

pub loop-client-preserved : goal.loop-client-preserved
loop-client-preserved g c =
    let script = c.captures.script.now in
    let gate = c.captures.gate.now in
    let at = c.loop-client.invariant in
    let steps = c.in-Some.ensures.steps.0 in
    let Thread : Type 0 = PromisedHandle Walk (Walks g.row.G.Denot g.row.K.Denot) in
    let queue = c.captures.server.queue in
    let IsSame : Thread → Type 0 = λ h. (h.promise.0.now ≡ script) × (h.promise.1.now ≡ gate) × (h.promise.3.value.queue ≡ queue) in
    let first : IsFresh queue c.in-Some.client = all_first (IsFresh queue) _ c.in-Some.client _ steps at.2 in
    let ours = ok_some _ IsSame c.spawn_with-started.result c.ok.result
    (λ h e. (ap (λ (p : Walks g.row.G.Denot g.row.K.Denot). p.0.now) e, ap (λ (p : Walks g.row.G.Denot g.row.K.Denot). p.1.now) e, ap (λ (p : Walks g.row.G.Denot g.row.K.Denot). p.3.value.queue) e ∙ (ap (λ (s : Side). s.queue) c.of.ensures ∙ first.2))) c.spawn_with-started.ensures.ok c.ok.ensures.value in
    let IsKept : Thread → Type 0 = λ h. c.keep-all.new.handles.items ≡ c.loop-client.handles.items ++ h ∷ [] in (
      tt,
      tt,
      All-rest (IsFresh c.captures.server.queue) c.in-Some.client _ _ steps at.2,
      c.keep-all.ensures.same script gate queue at.3 ours,
      omega (arith, at.4, c.in-Some.ensures.steps.1, ap length steps),
      λ all.
          let both = and_parts _ _ all in
          let one = kept_one _ IsKept c.spawn_with-started.result c.ok.result c.spawn_with-started.ensures.ok c.ok.ensures.value (c.keep-all.ensures.one_more both.1) in
          one_started (λ (h : Thread). h.promise.2) (λ (s : Side). s.id) _ _ _ _ one.0 c.in-Some.client _ one.2 steps (ap (λ (p : Walks g.row.G.Denot g.row.K.Denot). p.2) one.1 ∙ c.id-id.ensures) (at.5 both.0),
    )

pub from_handles-requires-clause-all : goal.from_handles-requires-clause-all
from_handles-requires-clause-all g c κs within =
    let at = c.loop-client.invariant in
    let none = nil_from_length _ (sym at.4 ∙ c.in-None.ensures.steps.0) in
    let Thread : Type 0 = PromisedHandle Walk (Walks g.row.G.Denot g.row.K.Denot) in
    ap (map (λ (h : Thread). h.promise.2)) c.as_slice.ensures.value ∙ no_more (λ (s : Side). s.id) _ _ _ none (at.5 c.if-not-all.false)

pub join_all-joined-requires-clause-clients : goal.join_all-joined-requires-clause-clients
join_all-joined-requires-clause-clients g c κs within =
    let at = c.loop-client.invariant in
    let none = nil_from_length _ (sym at.4 ∙ c.in-None.ensures.steps.0) in
    no_more (λ (s : Side). s.id) _ _ _ none (at.5 c.if-not-all.false)

pub returns-else-joined : goal.returns-else-joined
returns-else-joined g c =
    let j = c.join_all-joined.ensures in
    let Thread : Type 0 = PromisedHandle Walk (Walks g.row.G.Denot g.row.K.Denot) in
    let queue = c.captures.server.queue in
    let all : All (λ (h : Thread). h.promise.3.value.queue ≡ queue) c.loop-client.handles.items = λ k h below. (c.loop-client.invariant.3 k h below).2 in
    record {
      runs = record { fault = tt; gives_up = j.gives_up c.if-joined.false; answered = j.answered };
      own = subst (λ (q : QueueId). All (IsOwnPast g.K.Set.table g.K.Set.machine q) c.join_all-joined.result.pasts.items)
          (sym (c.join-ended.ensures.0 ∙ (ap (λ (p : LeavesEnded g.row.K.Denot). p.0.value.queue) c.in-Ok.ensures.ok ∙ ap (λ (s : ServerState). s.queue) c.of-2.ensures)))
          (j.own queue all);
    }
