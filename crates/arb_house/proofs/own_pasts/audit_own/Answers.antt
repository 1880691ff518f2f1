use Rattle.std.proofs.Common.{◌≡◌, ℕ, ◌+◌, ◌*◌, ◌++◌, ◌∷◌, [], true, List, is_some, length, length-append, append-nil, append_assoc, sym, ap, ◌∙◌, subst, arith, rules}
use Rattle.std.specs.Prelude.{All, IfErr}
use Rattle.std.specs.Vec.Iter.{into_iter_items}
use Rattle.std.proofs.lemmas.Grind.{common_steps}
use Rattle.std.proofs.lemmas.List.{nil_from_length}
use Rattle.std.proofs.lemmas.List.Elements.{All-push, All-rest}
use mathlib.Core.List.{IsPrefix}
use Rattle.crossbeam_queue.specs.Passes.{view}
use Rattle.arb_config.specs.Machine.{IsMachine}
use Rattle.arb_model.specs.Arbiter.{Arbiter}
use Rattle.arb_desk.specs.declared.past.Past.{Past}
use Rattle.arb_desk.specs.Messages.{is_closed, messages_by}
use Rattle.arb_house.specs.Auditing.{IsOwnFault}
use Rattle.arb_house.specs.OwnPasts.{IsOwnPast, IsTakenIn}
use Rattle.arb_house.specs.Serving.{Remains, stepped}
use Rattle.arb_house.proofs.OwnListLaws.{gives, none_given}
use Rattle.arb_house.proofs.OwnPastLaws.{Leaves, own_faults, own_passes}
use Rattle.arb_house.proofs.own_pasts.audit_own.Goals as goal

pub loop-past-preserved : goal.loop-past-preserved
loop-past-preserved g c =
    let i = c.loop-past.invariant in
    let was : Remains = c.args.ended.now.served in
    let past : Past = c.in-Some.past in
    let steps = c.in-Some.ensures.steps.0 in
    let back = c.reconcile-mine.ensures in
    let done : List Past = i.4.0 in
    let at : c.loop-past.ended.served ≡ stepped was (2 * length done) = i.4.3 in
    let two : was.steps + 2 * length done + 2 ≡ was.steps + 2 * length (done ++ past ∷ []) = omega (arith, length-append done (past ∷ [])) in
    let served : c.reconcile-mine.new.self.served ≡ stepped was (2 * length (done ++ past ∷ [])) = back.same.3 ∙ (ap (λ (r : Remains). stepped r 2) at ∙ ap (λ (n : ℕ). record was { steps = n }) two) in
    let told : IsTakenIn was.seen was.taken past = record {
      seen = subst (λ (r : Remains). IsPrefix past.point.seen r.seen) served back.seen;
      begins = subst (λ (r : Remains). IsPrefix (messages_by past.client r.taken) (view past.pass).put) at back.begins;
      all = subst (λ (r : Remains). is_closed (messages_by past.client r.taken) ≡ true → (view past.pass).put ≡ messages_by past.client r.taken) at back.whole;
    } in
    let given = c.keep.ensures in
    let lists = gives c.args.lists.now c.loop-past.lists c.keep.new.lists done past c.reconcile-mine.result i.4.4 back.mine i.5 given.kept given.dropped in (
      tt,
      tt,
      omega (arith, i.2, c.in-Some.ensures.steps.1, ap length steps),
      All-rest (λ (p : Past). IsOwnPast g.K.Set.table g.K.Set.machine was.queue p) past _ _ steps i.3,
      (done ++ past ∷ [], i.4.1 ∙ (ap (λ (l : List Past). done ++ l) steps ∙ sym (append_assoc done (past ∷ []) (into_iter_items c.next.new.self))), All-push (IsTakenIn was.seen was.taken) done past i.4.2 told, served, lists),
      c.keep.ensures.capacity ∙ i.5,
      back.same.0 ∙ i.6,
      back.same.1 ∙ i.7,
      back.same.2 ∙ i.8,
    )

pub returns-clause-told : goal.returns-clause-told
returns-clause-told g c =
    let i = c.loop-past.invariant in
    let none = nil_from_length _ (sym i.2 ∙ c.in-None.ensures.steps.0) in
    let all : c.args.pasts.items ≡ i.4.0 = i.4.1 ∙ (ap (λ (l : List Past). i.4.0 ++ l) none ∙ append-nil i.4.0) in
    subst (All (IsTakenIn c.args.ended.now.served.seen c.args.ended.now.served.taken)) (sym all) i.4.2

pub returns-clause-finds : goal.returns-clause-finds
returns-clause-finds g c =
    let i = c.loop-past.invariant in
    let e = c.args.ended.now in
    let done : List Past = i.4.0 in
    let none = nil_from_length _ (sym i.2 ∙ c.in-None.ensures.steps.0) in
    let all : c.args.pasts.items ≡ done = i.4.1 ∙ (ap (λ (l : List Past). done ++ l) none ∙ append-nil done) in
    let told : All (IsTakenIn e.served.seen e.served.taken) c.args.pasts.items = subst (All (IsTakenIn e.served.seen e.served.taken)) (sym all) i.4.2 in
    let left : Leaves g.K.Set.machine e.served.seen e.served.clients e.journal.items e.served.taken = record {
      machine = subst IsMachine (ap (λ (a : Arbiter). a.machine) e.state) c.orders-orders.ensures.arbiter.machine;
      legal = e.legal;
      entries = e.entries;
      orders = e.orders;
      own = e.own;
    } in
    let finds = subst (λ (l : List Past). IfErr c.audit-outcome.result (Rattle.arb_house.specs.Auditing.IsFirstFault (is_some e.fault) e.served.clients e.journal.items l)) c.as_slice.ensures.value c.audit-outcome.ensures.finds in
    own_faults (is_some e.fault) g.K.Set.machine e.served.seen e.served.clients e.journal.items e.served.taken c.args.pasts.items c.audit-outcome.result left (λ on. e.closed (grind (arith, common_steps, on))) told (λ k past within. (c.requires k past within).complete) finds

pub returns-clause-passes : goal.returns-clause-passes
returns-clause-passes g c = λ one. own_passes (is_some c.args.ended.now.fault) c.args.ended.now.served.clients c.args.pasts.items c.audit-outcome.result one (returns-clause-finds g c)

pub returns-clause-capacity : goal.returns-clause-capacity
returns-clause-capacity g c = c.loop-past.invariant.5

pub returns-clause-agrees : goal.returns-clause-agrees
returns-clause-agrees g c = search rules

pub loop-past-init : goal.loop-past-init
loop-past-init g c = search (none_given, rules)
