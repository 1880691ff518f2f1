-- A new client has no open order, and is of the server's queue.
use Rattle.std.proofs.Common.{◌≡◌, [], List, refl, rules, subst, sym}
use Rattle.std.specs.List.{All}
use Rattle.std.specs.Prelude.{Result}
use Rattle.std.proofs.lemmas.List.Elements.{All-head, All-map, All-push, All-rest}
use Rattle.arb_house.specs.declared.Past.{Past}
use Rattle.arb_house.specs.declared.WaitFault.{WaitFault}
use Rattle.arb_house.specs.OwnPasts.{IsOwnPast}
use Rattle.arb_house.specs.Sides.{Side, fresh}
use Rattle.example_two_runtimes.specs.declared.runtime.Done.{Done}
use Rattle.example_two_runtimes.proofs.share.Goals as goal

pub run_all-requires-after_bounds : goal.run_all-requires-after_bounds
run_all-requires-after_bounds g c κs within =
    subst (λ (l : List Side). All (λ s. (s.out ≡ []) × (s.queue ≡ c.in-Ok.server.queue)) l) (sym c.in-Ok.ensures.clients)
    (All-map (λ (s : Side). (s.out ≡ []) × (s.queue ≡ c.in-Ok.server.queue)) (fresh _) _ (λ k d below. (refl, refl)))

pub loop-done-preserved : goal.loop-done-preserved
loop-done-preserved g c =
    let queue = c.in_ok-ended.ended.served.queue in
    let Left : Type 0 = Result Done WaitFault × Past in
    let IsOwn : Left → Type 0 = λ left. IsOwnPast g.K.Set.table g.K.Set.machine queue left.1 in
    let IsGathered : Past → Type 0 = λ past. IsOwnPast g.K.Set.table g.K.Set.machine queue past in
    let at = c.loop-done.invariant in
    let left : Left = (c.in-Some.done, c.in-Some.past) in
    let steps = c.in-Some.ensures.steps.0 in
    let own : IsOwn left = All-head IsOwn left _ (subst (All IsOwn) steps at.2) in (
      tt,
      tt,
      All-rest IsOwn left _ _ steps at.2,
      rw (c.in_ok-push-2.ensures {u = tt}).items (All-push IsGathered c.loop-done.pasts.items c.in-Some.past at.3 own),
      search rules,
    )
