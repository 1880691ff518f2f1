use Rattle.std.proofs.Common.{ℕ, ◌≡◌, false, inl, inr, ◌++◌, ◌∷◌, [], sym, ap, ◌∙◌, subst, rules, refl, arith, length, List, true, true≢false, Some, ◌-◌, ◌+◌}
use Rattle.std.specs.Prelude.{vec_capacity, vec_len}
use Rattle.std.proofs.lemmas.Bool.{cases_Bool}
use Rattle.arb_model.specs.declared.orders.Entry.{Entry}
use Rattle.arb_model.specs.declared.orders.Order.{Order}
use Rattle.arb_model.specs.declared.orders.Reply.{Reply}
use Rattle.arb_model.specs.History.{History}
use Rattle.arb_model.proofs.JournalLaws.{entries_stay}
use Rattle.arb_desk.specs.declared.answer.Admission.{Admission}
use Rattle.arb_desk.specs.Answers.{IsFullPast, StandsIn}
use Rattle.arb_client.specs.Sides.{Side, StandIn, own_entry, puts_of}
use Rattle.arb_client.proofs.SideLaws.{first_removed, full_on, not_entered, puts_answered, stand_on, stand_snoc}
use Rattle.arb_client.proofs.client.Client.take_answer.Goals as goal

pub invariant_of-self : goal.invariant_of-self
invariant_of-self g c =
    let i = c.self.invariant in
    let is = c.if-not-is_next.ensures.0 refl in
    let note : History = c.into_parts-admission.result.1 in
    let seen : History = c.learn.new.self.seen in
    let mine = c.self.inside.mine.items in
    let stands : IsFullPast g.K.Set.machine note c.in-Full.client c.in-Full.number = subst (λ (a : Admission). StandsIn g.K.Set.machine a note) c.in-Full.is c.into_parts-admission.ensures.stands in
    let own : c.in-Full.number ≡ length mine = is.1 ∙ ap (λ (l : List (Order × Reply)). length l) c.as_slice.ensures.value in
    let told : IsFullPast g.K.Set.machine note c.self.inside.id (length mine) = subst (λ (n : ℕ). IsFullPast g.K.Set.machine note c.self.inside.id n) own (subst (λ (who : ℕ). IsFullPast g.K.Set.machine note who c.in-Full.number) is.0 stands) in
    let limit : IsFullPast g.K.Set.machine seen c.self.inside.id (length mine) = full_on g.K.Set.machine note seen c.self.inside.id (length mine) i.10 c.learn.ensures.legal c.learn.ensures.told told in
    (i.0, i.1, i.2, i.3, (λ full shut. absurd (true≢false full)), c.learn.ensures.legal, stand_on c.self.inside.id mine c.self.inside.reader.seen seen c.learn.ensures.later i.6, search rules, search rules, search rules, i.10, (λ full. limit))

pub invariant_of-self-in-Entered : goal.invariant_of-self-in-Entered
invariant_of-self-in-Entered g c =
    let i = c.self.invariant in
    let stands = subst (λ (a : Admission). StandsIn g.K.Set.machine a c.into_parts-admission.result.1) c.in-Entered.is c.into_parts-admission.ensures.stands in
    let is = c.if-not-is_answer.ensures.0 refl in
    let id = c.self.inside.id in
    let mine = c.self.inside.mine.items in
    let reply = c.in-Entered.entry.reply in
    let asked = c.index.result.now in
    let first = first_removed c.self.inside.out.items asked (search rules) c.index.ensures ∙ ap (λ l. asked ∷ l) (sym c.remove-in-Entered.ensures.items) in
    let seen = c.learn-in-Entered.new.self.seen in
    let at = entries_stay c.into_parts-admission.result.1 seen c.in-Entered.place c.in-Entered.entry c.learn-in-Entered.ensures.told stands.0 ∙ ap Some (is.0 ∙ ap (λ n. own_entry id n asked.order reply) (ap (λ (l : List (Order × Reply)). length l) c.as_slice-in-Entered.ensures.value)) in
    let mine' = c.push_reserved.ensures.items ∙ ap (λ (o : Order). mine ++ (o, reply) ∷ []) (ap (λ (e : Entry). e.order) is.0) in (
      i.0,
      i.1,
      i.2,
      i.3,
      (λ full shut. i.4 full shut ∙ (ap (λ o. puts_of id mine o) first ∙ (sym (puts_answered id mine asked reply c.remove-in-Entered.new.self.items) ∙ ap (λ m. puts_of id m c.remove-in-Entered.new.self.items) (sym mine')))),
      c.learn-in-Entered.ensures.legal,
      subst (λ (m : List (Order × Reply)). StandIn id m seen) (sym mine') (stand_snoc id mine seen asked.order reply c.in-Entered.place (stand_on id mine c.self.inside.reader.seen seen c.learn-in-Entered.ensures.later i.6) at),
      search rules,
      search rules,
      search rules,
      i.10,
      (λ full. absurd (not_entered g.K.Set.machine c.self.inside.reader.seen seen id (length mine) asked.order reply c.in-Entered.place i.10 c.learn-in-Entered.ensures.legal c.learn-in-Entered.ensures.later at (i.11 full))),
    )

pub returns-else-not-is_answer-clause-reply : goal.returns-else-not-is_answer-clause-reply
returns-else-not-is_answer-clause-reply g c =
    let stands = subst (λ (a : Admission). StandsIn g.K.Set.machine a c.into_parts-admission.result.1) c.in-Entered.is c.into_parts-admission.ensures.stands in
    let is = c.if-not-is_answer.ensures.0 refl in
    let mine = c.self.inside.mine.items in
    let reply = c.in-Entered.entry.reply in
    let asked = c.index.result.now in
    let first = first_removed c.self.inside.out.items asked (search rules) c.index.ensures ∙ ap (λ l. asked ∷ l) (sym c.remove-in-Entered.ensures.items) in
    let mine' = c.push_reserved.ensures.items ∙ ap (λ (o : Order). mine ++ (o, reply) ∷ []) (ap (λ (e : Entry). e.order) is.0) in
    let i = c.self.invariant in
    let id = c.self.inside.id in
    let seen = c.learn-in-Entered.new.self.seen in
    let at = entries_stay c.into_parts-admission.result.1 seen c.in-Entered.place c.in-Entered.entry c.learn-in-Entered.ensures.told stands.0 ∙ ap Some (is.0 ∙ ap (λ n. own_entry id n asked.order reply) (ap (λ (l : List (Order × Reply)). length l) c.as_slice-in-Entered.ensures.value)) in
    let below : c.self.inside.full ≡ false = elim (cases_Bool c.self.inside.full) [
      | inl full ↦ absurd (not_entered g.K.Set.machine c.self.inside.reader.seen seen id (length mine) asked.order reply c.in-Entered.place i.10 c.learn-in-Entered.ensures.legal c.learn-in-Entered.ensures.later at (i.11 full))
      | inr none ↦ none
    ] in
    let capacity : vec_capacity c.push_reserved.new.self ≡ vec_capacity c.self.inside.mine = search rules in
    let one : vec_len c.push_reserved.new.self ≡ vec_len c.self.inside.mine + 1 = search rules in
    let less : vec_len c.remove-in-Entered.new.self + 1 ≡ vec_len c.self.inside.out = search rules in
    let room : vec_capacity c.push_reserved.new.self - (vec_len c.push_reserved.new.self + vec_len c.remove-in-Entered.new.self) ≡ vec_capacity c.self.inside.mine - (vec_len c.self.inside.mine + vec_len c.self.inside.out) = omega (arith, capacity, one, less) in
    let places : vec_capacity c.remove-in-Entered.new.self ≡ vec_capacity c.self.inside.out = search rules in
    let v = c.self.view_is in record {
      below = ap (λ (s : Side). s.full) (sym v) ∙ below;
      asked = asked;
      out = ap (λ (s : Side). s.out) (sym v) ∙ first;
      answer = record {
        point = c.into_parts-admission.result.1;
        place = c.in-Entered.place;
        seen = c.learn-in-Entered.ensures.told;
        settled = stands.1;
        stands = stands.0 ∙ ap Some (is.0 ∙ (ap (λ n. own_entry c.self.inside.id n asked.order reply) (ap (λ (l : List (Order × Reply)). length l) c.as_slice-in-Entered.ensures.value) ∙ ap (λ (s : Side). own_entry s.id (length s.mine) asked.order reply) v));
        past = is.1;
      };
      rest = λ k. record (v k) {
        seen = c.learn-in-Entered.new.self.seen;
        steps = c.learn-in-Entered.new.self.steps;
        mine = (mine' ∙ ap (λ (s : Side). s.mine ++ (asked.order, reply) ∷ []) v) k;
        out = c.remove-in-Entered.new.self.items;
        room = (room ∙ ap (λ (s : Side). s.room) v) k;
        places = (places ∙ ap (λ (s : Side). s.places) v) k;
      };
    }

pub returns-else-not-is_next-clause-missed : goal.returns-else-not-is_next-clause-missed
returns-else-not-is_next-clause-missed g c =
    let i = c.self.invariant in
    let v = c.self.view_is in
    let is = c.if-not-is_next.ensures.0 refl in
    let asked = c.index.result.now in
    let note : History = c.into_parts-admission.result.1 in
    let seen : History = c.learn.new.self.seen in
    let mine = c.self.inside.mine.items in
    let first = first_removed c.self.inside.out.items asked (search rules) c.index.ensures ∙ ap (λ l. asked ∷ l) (sym c.remove.ensures.items) in
    let stands : IsFullPast g.K.Set.machine note c.in-Full.client c.in-Full.number = subst (λ (a : Admission). StandsIn g.K.Set.machine a note) c.in-Full.is c.into_parts-admission.ensures.stands in
    let own : c.in-Full.number ≡ length mine = is.1 ∙ ap (λ (l : List (Order × Reply)). length l) c.as_slice.ensures.value in
    let told : IsFullPast g.K.Set.machine note c.self.inside.id (length mine) = subst (λ (n : ℕ). IsFullPast g.K.Set.machine note c.self.inside.id n) own (subst (λ (who : ℕ). IsFullPast g.K.Set.machine note who c.in-Full.number) is.0 stands) in
    let less : vec_len c.remove.new.self + 1 ≡ vec_len c.self.inside.out = search rules in
    let room : vec_capacity c.self.inside.mine - (vec_len c.self.inside.mine + vec_len c.remove.new.self) ≡ vec_capacity c.self.inside.mine - (vec_len c.self.inside.mine + vec_len c.self.inside.out) + 1 = omega (arith, less, i.7) in
    let places : vec_capacity c.remove.new.self ≡ vec_capacity c.self.inside.out = search rules in
    record {
      asked = asked;
      out = ap (λ (s : Side). s.out) (sym v) ∙ first;
      rest = λ k. record (v k) { seen = seen; steps = c.learn.new.self.steps; out = c.remove.new.self.items; full = true; room = (room ∙ ap (λ (s : Side). s.room + 1) v) k; places = (places ∙ ap (λ (s : Side). s.places) v) k };
      limit = subst (λ (s : Side). IsFullPast g.K.Set.machine seen s.id (length s.mine)) v (full_on g.K.Set.machine note seen c.self.inside.id (length mine) i.10 c.learn.ensures.legal c.learn.ensures.told told);
    }

pub returns-else-not-is_next-clause-comes : goal.returns-else-not-is_next-clause-comes
returns-else-not-is_next-clause-comes g c = search rules
