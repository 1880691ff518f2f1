use Rattle.std.proofs.Common.{◌≡◌, ◌⊎◌, ◌+◌, ◌≤◌, ◌++◌, ◌∷◌, length, inl, inr, ⊎_elim, List, [], Bool, true, false, not, refl, sym, ap, ◌∙◌, subst, arith, true≢false, rules}
use Rattle.std.proofs.lemmas.Bool.{cases_Bool, not-false, not-true}
use Rattle.std.proofs.lemmas.List.{append-nil}
use mathlib.Core.List.{IsPrefix}
use Rattle.crossbeam_queue.specs.Passes.{view}
use Rattle.arb_desk.specs.declared.message.Message.{Message}
use Rattle.arb_desk.specs.declared.rule.PassView.{PassView}
use Rattle.arb_desk.specs.Answers.{IsFullPast}
use Rattle.arb_desk.specs.Passes.{queue_id}
use Rattle.arb_model.specs.declared.orders.Order.{Order}
use Rattle.arb_model.specs.declared.orders.Reply.{Reply}
use Rattle.arb_model.specs.History.{History, IsLegal}
use Rattle.arb_model.proofs.SettlingLaws.{orders_within}
use Rattle.arb_model.proofs.PrefixLaws.{prefix_self}
use Rattle.arb_page.specs.Names.{Standpoint}
use Rattle.arb_client.specs.declared.client.OpenOrder.{OpenOrder}
use Rattle.arb_client.specs.Closing.{AreReplies}
use Rattle.arb_client.specs.Sides.{Side, StandIn, close_mark, puts_of}
use Rattle.arb_client.proofs.ClosingLaws.{closes_tried, has_tried, marked_so, none_more, none_open, tried_keeps, tried_most, tried_room, unmarked}
use Rattle.arb_client.proofs.SideLaws.{prefix_trans}
use Rattle.arb_client.proofs.client.Client.close.Goals.{then-marked, else-marked}
use Rattle.arb_client.proofs.client.Client.close.Goals as goal

pub loop-self-init : goal.loop-self-init
loop-self-init g c =
    let a : Side = c.args.self in (
      refl,
      prefix_self a.seen,
      record { replies = []; is = sym (append-nil a.mine); same = refl; are = λ h whole more most later shut e. e },
      refl,
      (λ shut. shut),
      record { rest = λ mine seen e. e; shut = λ was. inl was },
      refl,
      omega arith,
      refl,
    )

pub loop-self-preserved : goal.loop-self-preserved
loop-self-preserved g c =
    let i = c.loop-self.invariant in
    let e = c.collect-reply.ensures in
    let m = g.K.Set.machine in
    let before : Side = c.loop-self.self in
    let after : Side = c.collect-reply.new.self in
    let kept = tried_keeps m before after c.collect-reply.result e.reply e.missed in (
      e.same ∙ i.0,
      prefix_trans _ _ _ i.1 e.later,
      has_tried m c.args.self before after c.collect-reply.result i.2 e.later e.reply e.missed,
      kept.0 ∙ i.3,
      (λ shut. kept.2 (i.4 shut)),
      closes_tried m c.args.self before after c.collect-reply.result i.5 e.reply e.missed,
      kept.1 ∙ i.6,
      omega (arith, tried_most m before after c.collect-reply.result e.reply e.missed, i.7),
      tried_room m before after c.collect-reply.result e.reply e.missed ∙ i.8,
    )

pub returns-clause-leaves : goal.returns-clause-leaves
returns-clause-leaves g c =
    let m = g.K.Set.machine in
    let last : Side = c.loop-self.self in
    let had = c.loop-self.invariant.2 in
    let v = c.self.view_is in
    let rest = c.tell.ensures.same.rest in
    let seen : History = c.into_point-point.result.seen in
    let is : seen ≡ last.seen = ap (λ (p : Standpoint). p.seen) c.into_point-point.ensures.point ∙ c.tell.ensures.note in
    let legal : IsLegal m seen = subst (IsLegal m) (ap (λ (p : Standpoint). p.seen) (sym c.into_point-point.ensures.point)) c.into_point-point.ensures.legal in
    let here : c.self.inside.reader.seen ≡ seen = ap (λ (s : Side). s.seen) v ∙ c.tell.ensures.seen ∙ sym is in
    let whole : Bool = c.if-marked.result in
    let cut : c.self.inside.shut ≡ true → whole ≡ false = λ shut. elim c.if-marked.branch [ then-marked w ↦ w.result-is ∙ ap not shut | else-marked w ↦ w.result-is ∙ w.if-marked.false ] in
    let none : last.out ≡ [] = none_open last.out (omega (arith, c.loop-self-test.false, c.out.ensures.count)) in
    let id : c.self.inside.id ≡ c.args.self.id = ap (λ (s : Side). s.id) v ∙ ap (λ (s : Side). s.id) rest ∙ c.loop-self.invariant.0 in
    record {
      legal = legal;
      later = subst (λ (h : History). IsPrefix c.args.self.seen h) (sym is) c.loop-self.invariant.1;
      stand = subst (λ (h : History). StandIn c.args.self.id c.self.inside.mine.items h) here (subst (λ id. StandIn id c.self.inside.mine.items c.self.inside.reader.seen) id c.self.invariant.6);
      replies = had.replies;
      is = ap (λ (s : Side). s.mine) v ∙ ap (λ (s : Side). s.mine) rest ∙ had.is;
      are = subst (λ (l : List (Order × Reply)). AreReplies m seen c.args.self.id (length c.args.self.mine) whole c.args.self.out l) (append-nil had.replies)
          (had.are seen whole [] (orders_within m seen c.self.invariant.10 legal) (subst (λ (h : History). IsPrefix last.seen h) (sym is) (prefix_self last.seen)) (λ shut. cut (ap (λ (s : Side). s.shut) v ∙ ap (λ (s : Side). s.shut) rest ∙ shut))
          (subst (λ (out : List OpenOrder). AreReplies m seen c.args.self.id (length last.mine) whole out []) (sym none) refl));
    }

pub returns-clause-queue : goal.returns-clause-queue
returns-clause-queue g c =
    let q = c.put_mark-marked.ensures.queue in
    let same = ap (λ (s : Side). s.queue) c.self.view_is ∙ ap (λ (s : Side). s.queue) c.tell.ensures.same.rest ∙ c.loop-self.invariant.6 in
    (q.0 ∙ ap (λ d. queue_id d.orders) c.deref.ensures ∙ same, q.1)

pub returns-clause-mine : goal.returns-clause-mine
returns-clause-mine g c = λ none.
    let a : Side = c.args.self in
    let last : Side = c.loop-self.self in
    let had = c.loop-self.invariant.2 in
    let most : length last.mine + length last.out ≤ length a.mine + length a.out = c.loop-self.invariant.7 in
    let was : length a.out ≡ 0 = ap (λ (l : List OpenOrder). length l) none in
    let long : length last.mine ≡ length (a.mine ++ had.replies) = ap (λ (l : List (Order × Reply)). length l) had.is in
    ap (λ (s : Side). s.mine) c.self.view_is ∙ ap (λ (s : Side). s.mine) c.tell.ensures.same.rest ∙ (had.is ∙ none_more a.mine had.replies (omega (arith, most, was, long)))

pub returns-clause-most : goal.returns-clause-most
returns-clause-most g c =
    let a : Side = c.args.self in
    let last : Side = c.loop-self.self in
    let most : length last.mine + length last.out ≤ length a.mine + length a.out = c.loop-self.invariant.7 in
    let long : length c.self.inside.mine.items ≡ length last.mine = ap (λ (s : Side). length s.mine) c.self.view_is ∙ ap (λ (s : Side). length s.mine) c.tell.ensures.same.rest in
    omega (arith, most, long)

pub returns-clause-cut : goal.returns-clause-cut
returns-clause-cut g c = λ cut.
    let a : Side = c.args.self in
    let last : Side = c.loop-self.self in
    let v = c.self.view_is in
    let rest = c.tell.ensures.same.rest in
    let mine : c.self.inside.mine.items ≡ last.mine = ap (λ (s : Side). s.mine) v ∙ ap (λ (s : Side). s.mine) rest in
    let seen : c.into_point-point.result.seen ≡ last.seen = ap (λ (p : Standpoint). p.seen) c.into_point-point.ensures.point ∙ c.tell.ensures.note in
    let marked : Bool = c.put_mark-marked.result in
    let why : (marked ≡ false) ⊎ (c.self.inside.shut ≡ true) = elim c.if-marked.branch [ then-marked w ↦ inr (not-false c.self.inside.shut (sym w.result-is ∙ cut)) | else-marked w ↦ inl w.if-marked.false ] in
    ⊎_elim
    (λ (none : marked ≡ false). inl (ap (λ (w : PassView). w.put) (unmarked marked (view c.self.inside.pass) (view c.put_mark-marked.new.pass) (close_mark c.self.inside.id) none c.put_mark-marked.ensures.put) ∙ (ap (λ (s : Side). s.put) v ∙ ap (λ (s : Side). s.put) rest ∙ c.loop-self.invariant.3)))
    (λ (shut : c.self.inside.shut ≡ true).
    ⊎_elim
    (λ (was : a.shut ≡ true). inr (inl was))
    (λ here. inr (inr (here.1 c.self.inside.mine.items c.into_point-point.result.seen mine seen)))
    (c.loop-self.invariant.5.shut (sym (ap (λ (s : Side). s.shut) rest) ∙ (ap (λ (s : Side). s.shut) (sym v) ∙ shut))))
    why

pub returns-clause-complete : goal.returns-clause-complete
returns-clause-complete g c = λ whole.
    let m = g.K.Set.machine in
    let i = c.self.invariant in
    let id = c.self.inside.id in
    let mine = c.self.inside.mine.items in
    let is : c.into_point-point.result.seen ≡ c.self.inside.reader.seen = ap (λ (p : Standpoint). p.seen) c.into_point-point.ensures.point ∙ (c.tell.ensures.note ∙ (sym c.tell.ensures.seen ∙ ap (λ (s : Side). s.seen) (sym c.self.view_is))) in
    let none : c.self.inside.out.items ≡ [] = ap (λ (s : Side). s.out) c.self.view_is ∙ (ap (λ (s : Side). s.out) c.tell.ensures.same.rest ∙ none_open c.loop-self.self.out (omega (arith, c.loop-self-test.false, c.out.ensures.count))) in
    let put : (c.put_mark-marked.result ≡ true) × (c.self.inside.shut ≡ false) = elim c.if-marked.branch [
      | then-marked w ↦ (w.if-marked.true, not-true c.self.inside.shut (sym w.result-is ∙ whole))
      | else-marked w ↦ absurd (true≢false (sym whole ∙ (w.result-is ∙ w.if-marked.false)))
    ] in
    let mark : (view c.put_mark-marked.new.pass).put ≡ (view c.self.inside.pass).put ++ close_mark id ∷ [] = ap (λ (w : PassView). w.put) (marked_so c.put_mark-marked.result (view c.self.inside.pass) (view c.put_mark-marked.new.pass) (close_mark id) put.0 c.put_mark-marked.ensures.put) in
    record {
      stand = subst (λ (h : History). StandIn id mine h) (sym is) i.6;
      all = elim (cases_Bool c.self.inside.full) [
        | inl full ↦ inr (subst (λ (h : History). IsFullPast m h id (length mine)) (sym is) (i.11 full))
        | inr below ↦ inl (mark ∙ ap (λ (l : List Message). l ++ close_mark id ∷ []) (i.4 below put.1 ∙ ap (puts_of id mine) none))
      ];
    }

pub returns-clause-room : goal.returns-clause-room
returns-clause-room g c = search rules

pub returns-clause-whole : goal.returns-clause-whole
returns-clause-whole g c = search rules
