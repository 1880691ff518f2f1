-- Laws of taking the lock by many tries, and of an order that is given then.
use Rattle.std.proofs.Common.{◌≡◌, ℕ, ◌+◌, [], ◌∷◌, ◌++◌, length, length-append, Option, Some, None, arith, sym, ap, ◌∙◌, subst}
use Rattle.std.specs.Prelude.{IfSome, IfNone}
use mathlib.Core.List.{IsPrefix}
use Rattle.arb_config.specs.Machine.{Machine}
use Rattle.arb_model.specs.declared.orders.Order.{Order}
use Rattle.arb_model.specs.declared.orders.Reply.{Reply}
use Rattle.arb_model.specs.History.{History, IsSettled, orders_in, settled_from}
use Rattle.arb_common.specs.Giving.{Begins, EntersOne, StandsAfter, busier, entered_at}
use Rattle.arb_common.specs.Sides.{Side}
use Rattle.arb_common.proofs.StandLaws.{settled_is, stands_at}
use Rattle.arb_waiting.specs.Trying.{BeginsAtLast, MeetsLimit, StandsAtLast, tried}

-- some tries found the lock taken, and nothing else happened
pub record TriesOn (before now : Side) : Type 0 where
  pub tries : ℕ
  pub is : now ≡ tried tries before

-- before the first try
pub tries_none : (before : Side) → TriesOn before before
tries_none before =
    let steps : before.steps ≡ before.steps + 0 = omega arith in
    let busy : before.busy ≡ before.busy + 0 = omega arith in
    record { tries = 0; is = λ i. record before { steps = steps i; busy = busy i } }

-- one try more
pub tries_more : (before now next : Side) → TriesOn before now → next ≡ busier now → TriesOn before next
tries_more before now next t is =
    let steps : before.steps + t.tries + 1 ≡ before.steps + (t.tries + 1) = omega arith in
    let busy : before.busy + t.tries + 1 ≡ before.busy + (t.tries + 1) = omega arith in
    record { tries = t.tries + 1; is = is ∙ ap busier t.is ∙ (λ i. record before { steps = steps i; busy = busy i }) }

-- and then one that takes the lock
pub begins_at_last : (before now next : Side) → TriesOn before now → Begins now next → BeginsAtLast before next
begins_at_last before now next t b = record { tries = t.tries; begins = subst (λ (s : Side). Begins s next) t.is b }

-- a turn in which all stale words were posted, and which ended
pub record PostsAndEnds (entered posted after : Side) : Type 0 where
  pub side : posted ≡ record entered { seen = posted.seen; steps = posted.steps }
  pub seen : posted.seen ≡ settled_from entered.machine entered.seen
  pub settled : IsSettled entered.machine posted.seen
  pub steps : posted.steps + length entered.seen ≡ entered.steps + length posted.seen
  pub end : after ≡ record posted { steps = posted.steps + 1 }

-- the order of the turn stands in what is seen then
pub stands_at_last : (before begun entered posted after : Side) (client : ℕ) (order : Order) (reply : Reply)
    → BeginsAtLast before begun → EntersOne begun client order reply entered → PostsAndEnds entered posted after → StandsAtLast before client order reply after
stands_at_last before begun entered posted after client order reply at e p =
    let b : Begins (tried at.tries before) begun = at.begins in
    let between : History = b.later.0 in
    let point : before.seen ++ between ≡ begun.seen = b.later.1 in
    let begun_on : begun.machine ≡ before.machine = ap (λ (s : Side). s.machine) b.after_is in
    let entered_on : entered.machine ≡ begun.machine = ap (λ (s : Side). s.machine) e.after_is in
    let next : History = begun.seen ++ entered_at begun.seen client order reply ∷ [] in
    let same : after.seen ≡ posted.seen = ap (λ (s : Side). s.seen) p.end in
    let seen : after.seen ≡ settled_from begun.machine next = same ∙ p.seen ∙ (λ i. settled_from (entered_on i) (e.enters.seen i)) in
    let quiet : IsSettled begun.machine after.seen = subst (λ (m : Machine). IsSettled m after.seen) entered_on (subst (IsSettled entered.machine) (sym same) p.settled) in
    let stands : StandsAfter begun.machine begun.seen client order reply after.seen = record {
      room = e.enters.room;
      settled = e.enters.settled;
      reply_is = e.enters.reply_is;
      seen = seen;
      quiet = quiet;
      place = stands_at begun.machine begun.seen client order reply after.seen seen;
    } in
    let there : StandsAfter before.machine (before.seen ++ between) client order reply after.seen =
    subst (λ (m : Machine). StandsAfter m (before.seen ++ between) client order reply after.seen) begun_on
    (subst (λ (h : History). StandsAfter begun.machine h client order reply after.seen) (sym point) stands) in
    let mine : after.mine ≡ begun.mine ++ orders_in begun.seen ∷ [] = ap (λ (s : Side). s.mine) p.end ∙ ap (λ (s : Side). s.mine) p.side ∙ ap (λ (s : Side). s.mine) e.after_is in
    let was : begun.mine ≡ before.mine = ap (λ (s : Side). s.mine) b.after_is in
    record {
      tries = at.tries;
      stands = record {
        between = between;
        stands = there;
        mine = mine ∙ (λ i. was i ++ orders_in (sym point i) ∷ []);
        busy = ap (λ (s : Side). s.busy) p.end ∙ ap (λ (s : Side). s.busy) p.side ∙ ap (λ (s : Side). s.busy) e.after_is ∙ ap (λ (s : Side). s.busy) b.after_is;
        steps = omega (arith, ap (λ (s : Side). s.steps) p.end, p.steps, ap (λ (s : Side). s.steps) e.after_is, ap (λ (s : Side). s.steps) b.after_is, ap length e.enters.seen, length-append begun.seen (entered_at begun.seen client order reply ∷ []), ap length point, ap length same);
      };
    }

-- or the limit was reached, and the turn ends as it began
pub meets_limit : (before begun entered posted after : Side) → BeginsAtLast before begun → entered ≡ record begun { steps = begun.steps + 1 } → orders_in begun.seen ≡ begun.machine.orders → PostsAndEnds entered posted after → MeetsLimit before after
meets_limit before begun entered posted after at is reached p =
    let b : Begins (tried at.tries before) begun = at.begins in
    let begun_on : begun.machine ≡ before.machine = ap (λ (s : Side). s.machine) b.after_is in
    let none : settled_from entered.machine entered.seen ≡ begun.seen = ap (λ (s : Side). settled_from s.machine s.seen) is ∙ settled_is begun.machine begun.seen b.settled in
    let quiet : posted.seen ≡ begun.seen = p.seen ∙ none in
    let seen : after.seen ≡ begun.seen = ap (λ (s : Side). s.seen) p.end ∙ quiet in
    let whole : after ≡ record begun { seen = posted.seen; steps = posted.steps + 1 } = p.end ∙ ap (λ (s : Side). record s { steps = posted.steps + 1 }) p.side ∙ ap (λ (s : Side). record s { seen = posted.seen; steps = posted.steps + 1 }) is in
    let all : after ≡ record before { seen = posted.seen; steps = posted.steps + 1; busy = before.busy + at.tries } = whole ∙ ap (λ (s : Side). record s { seen = posted.seen; steps = posted.steps + 1 }) b.after_is in
    let steps : posted.steps + 1 ≡ before.steps + at.tries + 3 = omega (arith, p.steps, ap (λ (s : Side). s.steps) is, ap (λ (s : Side). length s.seen) is, ap length quiet, ap (λ (s : Side). s.steps) b.after_is) in
    let last : posted.seen ≡ after.seen = quiet ∙ sym seen in
    record {
      tries = at.tries;
      later = subst (IsPrefix before.seen) (sym seen) b.later;
      reached = ap orders_in seen ∙ reached ∙ ap (λ (m : Machine). m.orders) begun_on;
      after_is = all ∙ (λ i. record before { seen = last i; steps = steps i; busy = before.busy + at.tries });
    }

-- whichever of the two it was
pub answered_at_last : (before begun entered posted after : Side) (client : ℕ) (order : Order) (result : Option Reply) → BeginsAtLast before begun → PostsAndEnds entered posted after
    → IfSome result (λ reply. EntersOne begun client order reply entered) → IfSome result (λ reply. StandsAtLast before client order reply after)
answered_at_last before begun entered posted after client order (Some reply) at p e = stands_at_last before begun entered posted after client order reply at e p
answered_at_last before begun entered posted after client order None at p e = tt

pub full_at_last : (before begun entered posted after : Side) (result : Option Reply) → BeginsAtLast before begun → PostsAndEnds entered posted after
    → IfNone result ((entered ≡ record begun { steps = begun.steps + 1 }) × (orders_in begun.seen ≡ begun.machine.orders)) → IfNone result (MeetsLimit before after)
full_at_last before begun entered posted after (Some reply) at p f = tt
full_at_last before begun entered posted after None at p f = meets_limit before begun entered posted after at f.0 f.1 p
