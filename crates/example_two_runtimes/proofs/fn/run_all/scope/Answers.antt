use Rattle.std.proofs.Common.{◌≡◌, [], ap, rules, subst, sym, ◌∙◌}
use Rattle.std.specs.Prelude.{All, Result}
use Rattle.std.specs.Arc.{arc_value}
use Rattle.std.specs.declared.thread.PromisedHandle.{PromisedHandle}
use Rattle.std.proofs.lemmas.List.Elements.{All-head, All-nil, All-push, All-rest}
use Rattle.arb_house.specs.declared.Past.{Past}
use Rattle.arb_house.specs.declared.WaitFault.{WaitFault}
use Rattle.arb_house.specs.declared.promises.LeavesPast.{LeavesPast}
use Rattle.arb_house.specs.OwnPasts.{IsOwnPast}
use Rattle.arb_house.specs.Passes.{QueueId, queue_id}
use Rattle.arb_house.specs.Serving.{ServerState}
use Rattle.arb_house.specs.Sides.{Side}
use Rattle.example_two_runtimes.specs.declared.runtime.Done.{Done}
use Rattle.example_two_runtimes.proofs.fn.run_all.scope.Goals as goal

-- the thread of a client, which promises the client's past
abbrev Thread : Type 0 → Type 0
Thread K = PromisedHandle (Result Done WaitFault × Past) (LeavesPast K)

pub loop-client-init : goal.loop-client-init
loop-client-init g c =
    let queue : QueueId = queue_id (arc_value c.server.inside.ends.desk).orders in
    let IsNew : Side → Type 0 = λ s. (s.out ≡ []) × (s.queue ≡ queue) in
    let same : c.captures.server.queue ≡ queue = sym (ap (λ (s : ServerState). s.queue) c.server.view_is) in
    let new : All IsNew c.captures.clients.items = λ k d below. ((c.requires k d below).0, (c.requires k d below).1 ∙ same) in (
      tt,
      tt,
      subst (All IsNew) (sym c.into_iter-client-iterator.ensures.into_iter_gives.0) new,
      rw (c.in_ok-threads.ensures {u = tt}).items (All-nil (λ (h : Thread g.row.K.Denot). h.promise.0.value.queue ≡ queue)),
      search rules,
    )

pub loop-client-preserved : goal.loop-client-preserved
loop-client-preserved g c =
    let queue : QueueId = queue_id (arc_value c.server.inside.ends.desk).orders in
    let IsNew : Side → Type 0 = λ s. (s.out ≡ []) × (s.queue ≡ queue) in
    let IsOf : Thread g.row.K.Denot → Type 0 = λ h. h.promise.0.value.queue ≡ queue in
    let at = c.loop-client.invariant in
    let steps = c.in-Some.ensures.steps.0 in
    let first : IsNew c.in-Some.client = All-head IsNew c.in-Some.client _ (subst (All IsNew) steps at.2) in
    let of : IsOf c.in_ok-spawn_with.field-0 = ap (λ (p : LeavesPast g.row.K.Denot). p.0.value.queue) (c.in_ok-spawn_with.ensures {u = tt}).ok ∙ (ap (λ (s : Side). s.queue) c.of.ensures ∙ first.1) in (
      tt,
      tt,
      All-rest IsNew c.in-Some.client _ _ steps at.2,
      rw (c.in_ok-push.ensures {u = tt}).items (All-push IsOf c.loop-client.threads.items c.in_ok-spawn_with.field-0 at.3 of),
      search rules,
    )

pub loop-thread-init : goal.loop-thread-init
loop-thread-init g c =
    let queue = c.serve-ended.result.served.queue in
    let IsOf : Thread g.row.K.Denot → Type 0 = λ h. h.promise.0.value.queue ≡ queue in
    let of : All IsOf c.loop-client.threads.items = λ k d below. c.loop-client.invariant.3 k d below ∙ (ap (λ (s : ServerState). s.queue) c.server.view_is ∙ sym c.serve-ended.ensures.queue) in (
      tt,
      tt,
      subst (All IsOf) (sym c.into_iter-thread-iterator.ensures.into_iter_gives.0) of,
      rw (c.in_ok-left.ensures {u = tt}).items (All-nil (λ (left : Result Done WaitFault × Past). IsOwnPast g.K.Set.table g.K.Set.machine queue left.1)),
      search rules,
    )

pub loop-thread-preserved : goal.loop-thread-preserved
loop-thread-preserved g c =
    let queue = c.serve-ended.result.served.queue in
    let IsOf : Thread g.row.K.Denot → Type 0 = λ h. h.promise.0.value.queue ≡ queue in
    let IsOwn : Result Done WaitFault × Past → Type 0 = λ left. IsOwnPast g.K.Set.table g.K.Set.machine queue left.1 in
    let at = c.loop-thread.invariant in
    let steps = c.in-Some-thread.ensures.steps.0 in
    let of : IsOf c.in-Some-thread.thread = All-head IsOf c.in-Some-thread.thread _ (subst (All IsOf) steps at.2) in
    let own : IsOwn c.join.result = subst (λ (q : QueueId). IsOwnPast g.K.Set.table g.K.Set.machine q c.join.result.1) of c.join.ensures in (
      tt,
      tt,
      All-rest IsOf c.in-Some-thread.thread _ _ steps at.2,
      rw (c.in_ok-push-2.ensures {u = tt}).items (All-push IsOwn c.loop-thread.left.items c.join.result at.3 own),
      search rules,
    )
