use Rattle.std.proofs.Common.{◌++◌, ◌∷◌, [], List, ap, arith, sym, ◌∙◌, subst, rules}
use Rattle.arb_model.specs.declared.orders.Entry.{Entry}
use Rattle.arb_model.specs.History.{entries_of, orders_in}
use Rattle.arb_desk.specs.declared.answer.Admission.{Admission}
use Rattle.arb_desk.specs.Answers.{StandsIn}
use Rattle.arb_house.specs.Recording.{Admits, IsReady, Record}
use Rattle.arb_house.proofs.AdmissionLaws.{admission_stands, admitted_orders, admitted_posts, entries_grow, unadmitted_orders}
use Rattle.arb_house.proofs.recorder.Recorder.record.Goals.{in-Entered, in_default}
use Rattle.arb_house.proofs.recorder.Recorder.record.Goals as goal

pub invariant_of-self : goal.invariant_of-self
invariant_of-self g c =
    let m = g.K.Set.machine in
    let before = c.self.inside.publisher in
    let after = c.publish-admission.new.self in
    let e = c.publish-admission.ensures in
    let admitted = subst (λ (a : Admission). Admits m before c.args.client c.args.order.now a after) c.in-Entered.is e.admits in
    c.push_reserved.ensures.items
    ∙ ap (λ (l : List Entry). l ++ c.in-Entered.entry ∷ []) c.self.invariant
    ∙ sym (entries_grow before after c.in-Entered.entry (admitted_posts _ _ _ _ _ _ _ e.machine e.legal admitted))
    ∙ ap entries_of (sym c.tell-note.ensures.same)

pub new-requires : goal.new-requires
new-requires g c =
    let e = c.publish-admission.ensures in
    subst (StandsIn g.K.Set.machine c.publish-admission.result) (sym c.tell-note.ensures.note)
    (admission_stands _ _ _ _ _ _ e.machine e.legal e.settled e.admits)

pub returns-clause-room : goal.returns-clause-room
returns-clause-room g c =
    let m = g.K.Set.machine in
    let before = c.self.inside.publisher in
    let after = c.publish-admission.new.self in
    let e = c.publish-admission.ensures in
    let same = ap orders_in c.tell-note.ensures.same in
    let was = ap (λ (r : Record). r.room) c.self.view_is in
    let had = ap (λ (r : Record). orders_in r.seen) c.self.view_is in
    elim c.match-admission.branch [
      | in-Entered w ↦
          let admitted = subst (λ (a : Admission). Admits m before c.args.client c.args.order.now a after) w.in-Entered.is e.admits in
          let more = admitted_orders m before c.args.client c.args.order.now w.in-Entered.entry _ after e.machine e.legal admitted in
          let ready = subst (IsReady m) (sym c.self.view_is) c.requires admitted.room in
          omega (arith, ready, more, same, was, had, w.push_reserved.ensures.len, w.push_reserved.ensures.capacity, ap (λ (r : Record). r.room) w.self-is, ap (λ (r : Record). orders_in r.seen) w.self-is)
      | in_default w ↦
          let still = unadmitted_orders m before c.args.client c.args.order.now c.publish-admission.result after e.admits (λ entry place is. w.in_default.not-Entered entry place is) in
          omega (arith, still, same, was, had, ap (λ (r : Record). r.room) w.self-is, ap (λ (r : Record). orders_in r.seen) w.self-is)
    ]

pub returns-clause-told : goal.returns-clause-told
returns-clause-told g c = search rules
