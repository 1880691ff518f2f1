use Rattle.std.proofs.Common.{◌≡◌, ◌<◌, ◌++◌, ◌∷◌, [], sym, ap, ◌∙◌, subst, refl, rules, length, length-append, arith, Some, List, ℕ, ◌+◌}
use Rattle.std.specs.Prelude.{slice_get}
use Rattle.std.specs.Arc.{arc_value}
use Rattle.std.proofs.lemmas.Option.{slice_get_read}
use Rattle.crossbeam_queue.specs.Passes.{view}
use Rattle.arb_desk.specs.declared.rule.PassView.{PassView}
use Rattle.arb_desk.specs.Passes.{queue_id}
use Rattle.arb_client.specs.Sides.{Side, fresh}
use Rattle.arb_house.proofs.OpeningLaws.{MadeFrom, fresh_more, lists_made, made_more, made_new, made_none}
use Rattle.arb_house.proofs.opening.open_clients.Goals as goal

pub open_client-requires-clause-new : goal.open_client-requires-clause-new
open_client-requires-clause-new g c =
    let clients = c.args.clients.now in
    let below : c.loop-k.k < length clients = search rules in
    let here : slice_get clients c.loop-k.k ≡ Some c.index-clients-k.result = slice_get_read clients (length clients) c.loop-k.k c.index-clients-k.result refl below c.index-clients-k.is in
    made_new c.loop-k.k clients (view c.loop-k.server).made c.index-clients-k.result c.requires.apart c.loop-k.invariant.3 here

pub loop-k-preserved : goal.loop-k-preserved
loop-k-preserved g c =
    let i = c.loop-k.invariant in
    let e = c.in_ok-client.ensures in
    let clients = c.args.clients.now in
    let k = c.loop-k.k in
    let d = c.index-clients-k.result in
    let queue = queue_id (arc_value c.args.desk.now).orders in
    let below : k < length clients = search rules in
    let here : slice_get clients k ≡ Some d = slice_get_read clients (length clients) k d refl below c.index-clients-k.is in (
      e.queue,
      ap (λ (v : PassView). v.is_server) e.made ∙ i.1,
      ap (λ (v : PassView). v.taken) e.made ∙ i.2,
      subst (λ (l : List ℕ). MadeFrom (k + 1) clients l) (sym (ap (λ (v : PassView). v.made) e.made)) (made_more k clients (view c.loop-k.server).made d i.3 here),
      c.tell.ensures.same ∙ i.4,
      c.in_ok-push.ensures.items ∙ (ap (λ (s : Side). c.loop-k.sides.items ++ s ∷ []) e.client
          ∙ (ap (λ (x : ℕ). c.loop-k.sides.items ++ fresh queue x ∷ []) c.index-clients-k.is ∙ fresh_more queue k clients d c.loop-k.sides.items below i.5)),
      omega (arith, ap length c.in_ok-push-2.ensures.items, length-append c.loop-k.answers.items (c.in_ok-client.to ∷ []), i.6),
    )

pub loop-k-init : goal.loop-k-init
loop-k-init g c =
    let v = c.requires.server in (
      c.requires.queue,
      ap (λ (x : PassView). x.is_server) v,
      ap (λ (x : PassView). x.taken) v,
      subst (λ (l : List ℕ). MadeFrom 0 c.args.clients.now l) (sym (ap (λ (x : PassView). x.made) v)) (made_none c.args.clients.now),
      c.requires.writer,
      c.requires.none.0,
      ap length c.requires.none.1,
    )

pub returns-clause-listed : goal.returns-clause-listed
returns-clause-listed g c = lists_made c.loop-k.k c.args.clients.now (view c.loop-k.server).made c.loop-k.invariant.3
