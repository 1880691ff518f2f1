-- What a step and a post of the arbiter do to the history that it stands at the end of.
use Rattle.std.proofs.Common.{◌≡◌, ℕ, ◌+◌, ◌<◌, ◌≤◌, ◌++◌, ◌∷◌, List, [], refl, sym, ap, ◌∙◌, subst, arith, append_assoc, Option, Some, None, Bool, true, false}
use Rattle.std.specs.Prelude.{◌↔◌, IfNone, IfSome, IsTrue, MatchBool, is_some, not, length, slice_get, slice_index, slice_set}
use Rattle.std.proofs.lemmas.List.{append-nil}
use mathlib.Core.List.{IsPrefix}
use Rattle.atomic_table.specs.Table.{Me, rest}
use Rattle.arb_config.specs.Machine.{Machine}
use Rattle.arb_model.specs.declared.orders.Event.{Event}
use Rattle.arb_model.specs.declared.orders.Event.TheVariants.{Posted}
use Rattle.arb_model.specs.declared.orders.Order.{Order}
use Rattle.arb_model.specs.declared.orders.Reply.{Reply}
use Rattle.arb_model.specs.Arbiter.{Arbiter, IsArbiter, state_of}
use Rattle.arb_model.specs.History.{History, IsLegal, IsSettled, MayEnter, MayPost, State, entries_of, entry_after, orders_in, posts_after, state_after, settled_from}
use Rattle.arb_model.specs.Posting.{next_stale_of, posts_of, stale_count}
use Rattle.arb_model.specs.Step.{Outcome, step_of}
use Rattle.arb_model.specs.Words.{word_of}
use Rattle.arb_model.proofs.JournalLaws.{entries_append, entries_stay, orders_add, orders_grow}
use Rattle.arb_model.proofs.LegalLaws.{legal_empty, state_more}
use Rattle.arb_model.proofs.PostedLaws.{next_of_words}
use Rattle.arb_model.proofs.PostingLaws.{one_post, posts_done, posts_next}
use Rattle.arb_model.proofs.ReadingLaws.{reading_posted}
use Rattle.arb_model.proofs.SettlingLaws.{follows_by_state}
use Rattle.arb_common.specs.declared.giving.Given.{Given}
use Rattle.arb_common.specs.declared.giving.Given.TheVariants.{Answered, Busy, Full}
use Rattle.arb_common.specs.declared.table.Own.{Own}
use Rattle.arb_common.specs.declared.table.SeatView.{SeatView}
use Rattle.arb_common.specs.Limits.{StandsAt}
use Rattle.arb_common.specs.Steps.{Taken}
use Rattle.arb_common.specs.Views.{HasLock, copied, found_busy, free_seat, lock_seat, lock_view, newcomer, one_step, own_with}
use Rattle.arb_common.specs.Places.{Rises}
use Rattle.arb_common.specs.Sides.{Side}
use Rattle.arb_common.proofs.LimitLaws.{Leads, leads}
use Rattle.arb_common.proofs.RenewedLaws.{TookOrder, any_limit, next_as_led, stands_posted, took_order, value_as_led}
use Rattle.arb_common.proofs.PlaceLaws.{rises_more, rises_push}
use Rattle.arb_common.specs.Giving.{Enters, Gives, GivesAt, PostsNext, StandsAfter, StepsNext, entered_at, entering, stale_after}

-- a seat that has seen nothing yet
pub opened : (m key : Machine) (me : Me Arbiter SeatView) → me ≡ free_seat m [] newcomer → key ≡ m → (me ≡ free_seat key me.0.seen me.0.own) × IsLegal key me.0.seen × Rises 0 me.0.own.mine (orders_in me.0.seen)
opened m key me is same =
    let seen : me.0.seen ≡ [] = ap (λ (x : Me Arbiter SeatView). x.0.seen) is in
    let own : me.0.own ≡ newcomer = ap (λ (x : Me Arbiter SeatView). x.0.own) is in
    let none : Rises 0 [] (orders_in me.0.seen) = omega arith in
    (is ∙ (λ i. free_seat (sym same i) (sym seen i) (sym own i)), subst (IsLegal key) (sym seen) (legal_empty key), subst (λ (o : Own). Rises 0 o.mine (orders_in me.0.seen)) (sym own) none)

abbrev first_of : Arbiter → List (ℕ × Arbiter) → Arbiter
first_of a [] = a
first_of a (x ∷ xs) = x.1

-- what a seat with the lock holds
pub held : (m : Machine) (h : History) (me : Me Arbiter SeatView) (a : Arbiter) → HasLock m h me → me.1 ≡ (0, a) ∷ rest me.1 → StandsAt m h a
held m h me a lock was =
    let is : lock.arbiter ≡ a = ap (first_of a) (sym (ap (λ (x : Me Arbiter SeatView). x.1) lock.seat) ∙ was) in
    subst (StandsAt m h) is lock.stands

-- such a seat with another arbiter
pub holds_another : (m : Machine) (h next : History) (me : Me Arbiter SeatView) (b : Arbiter) → HasLock m h me → StandsAt m next b → HasLock m next (me.0, (0, b) ∷ rest me.1)
holds_another m h next me b lock stands =
    let put : ◌≡◌ {A = Me Arbiter SeatView} (me.0, (0, b) ∷ rest me.1) (lock_seat m me.0.seen me.0.own b) = ap (λ (x : Me Arbiter SeatView). (x.0, (0, b) ∷ rest x.1)) lock.seat in
    record { arbiter = b; seat = put; stands = stands }

-- the arbiter took an order
pub steps : (m : Machine) (h : History) (me : Me Arbiter SeatView) (a b : Arbiter) (client : ℕ) (order : Order) (reply : Reply) → IsLegal m h → IsSettled m h → orders_in h < m.orders → HasLock m h me → StandsAt m h a
    → MayEnter a.machine (state_of a) (record { client = client; number = slice_index a.standing.counts client; order = order; reply = reply })
    → ◌≡◌ {A = Outcome} (record { reply = reply; standing = b.standing }) (step_of a.machine a.standing client order) → b.machine ≡ a.machine → b.posted ≡ slice_set a.posted 0 (word_of b.standing 0) → IsArbiter b
    → StepsNext m h client order reply me.0 (me.0, (0, b) ∷ rest me.1)
steps m h me a b client order reply legal settled room lock stands enters step same posted arbiter =
    let t : TookOrder m h client order reply b = took_order m h a b client order reply legal settled room stands enters step same posted arbiter in
    record {
      may = t.may;
      reply_is = t.reply_is;
      view = refl;
      lock = holds_another m h (h ++ entered_at h client order reply ∷ []) me b lock t.stands;
    }

-- a post more leaves one post fewer to follow
settles_on : (m : Machine) (h : History) (w value : ℕ) → Leads m h (state_after m h) → MayPost (state_after m h) w value → settled_from m (h ++ Posted w value ∷ []) ≡ settled_from m h
settles_on m h w value l may =
    let k : State = state_after m h in
    let e : Event = Posted w value in
    let next : posts_after m (h ++ e ∷ []) ≡ posts_of k.standing (slice_set k.posted w value) = ap (λ (x : State). posts_of x.standing x.posted) (state_more m h e) in
    let own : posts_after m h ≡ e ∷ posts_of k.standing (slice_set k.posted w value) = posts_next k.standing k.posted w l.consistent.long may.turn ∙ (λ i. Posted w (sym may.is i) ∷ posts_of k.standing (slice_set k.posted w (sym may.is i))) in
    append_assoc h (e ∷ []) (posts_after m (h ++ e ∷ [])) ∙ ap (λ (more : History). h ++ e ∷ more) next ∙ sym (ap (λ (more : History). h ++ more) own)

-- and one word fewer is stale
one_fewer : (m : Machine) (h : History) (w value : ℕ) → Leads m h (state_after m h) → MayPost (state_after m h) w value → stale_after m (h ++ Posted w value ∷ []) + 1 ≡ stale_after m h
one_fewer m h w value l may =
    let k : State = state_after m h in
    let next : stale_after m (h ++ Posted w value ∷ []) ≡ stale_count k.standing (slice_set k.posted w value) = ap (λ (x : State). stale_count x.standing x.posted) (state_more m h (Posted w value)) in
    let is : stale_count k.standing (slice_set k.posted w value) ≡ stale_count k.standing (slice_set k.posted w (word_of k.standing w)) = ap (λ (v : ℕ). stale_count k.standing (slice_set k.posted w v)) may.is in
    omega (arith, next, is, one_post k.standing k.posted w l.consistent.long may.turn)

-- the arbiter posted its next stale word
pub posts_one : (m : Machine) (h : History) (me : Me Arbiter SeatView) (a b : Arbiter) (w value : ℕ) → IsLegal m h → HasLock m h me → StandsAt m h a
    → next_stale_of a.standing a.posted ≡ Some w → value ≡ word_of a.standing w → b ≡ record a { posted = slice_set a.posted w (word_of a.standing w) } → IsArbiter b
    → PostsNext m h w value me.0 (me.0, (0, b) ∷ rest me.1)
posts_one m h me a b w value legal lock stands next is posted arbiter =
    let e : Event = Posted w value in
    let l : Leads m h (state_after m h) = leads m h (any_limit m h a stands) legal in
    let turn : next_stale_of (state_after m h).standing (state_after m h).posted ≡ Some w = sym (next_as_led m h a legal stands) ∙ next in
    let within = next_of_words m (state_after m h) w l.consistent turn in
    let other : w ≡ 0 → ⊥ = λ x. omega (arith, within.0, x) in
    let happens : MayPost (state_after m h) w value = record { turn = turn; is = is ∙ value_as_led m h a w other stands } in
    record {
      may = (follows_by_state m h e).1 happens;
      word = within.1;
      value_is = sym (reading_posted h w value other);
      fewer = one_fewer m h w value l happens;
      settles = settles_on m h w value l happens;
      view = refl;
      lock = holds_another m h (h ++ e ∷ []) me b lock (stands_posted m h a b w value other is stands posted arbiter);
    }

-- no word is stale
pub is_settled : (m : Machine) (h : History) (a : Arbiter) → IsLegal m h → StandsAt m h a → next_stale_of a.standing a.posted ≡ None → IsSettled m h
is_settled m h a legal stands none = sym (next_as_led m h a legal stands) ∙ none

pub was_settled : (m : Machine) (h : History) (a : Arbiter) → IsLegal m h → StandsAt m h a → IsSettled m h → next_stale_of a.standing a.posted ≡ None
was_settled m h a legal stands none = next_as_led m h a legal stands ∙ none

-- a settled history has no posts that follow
pub settled_is : (m : Machine) (h : History) → IsSettled m h → settled_from m h ≡ h
settled_is m h none = ap (λ (more : History). h ++ more) (posts_done (state_after m h).standing (state_after m h).posted none) ∙ append-nil h

-- where an order that was entered stands
pub stands_at : (m : Machine) (point : History) (client : ℕ) (order : Order) (reply : Reply) (after : History) → after ≡ settled_from m (point ++ entered_at point client order reply ∷ [])
    → slice_get (entries_of after) (orders_in point) ≡ Some (entry_after point client order reply)
stands_at m point client order reply after is =
    let next : History = point ++ entered_at point client order reply ∷ [] in
    entries_stay next after (orders_in point) (entry_after point client order reply) (posts_after m next, sym is) (entries_append point [] (entry_after point client order reply))

-- what a seat of a member did
abbrev pub own_of : Side → Own
own_of s = record { mine = s.mine; steps = s.steps; busy = s.busy }

-- what comes of an order at a point at or after what was seen
pub gives_later : (before after : Side) (point : History) (own : Own) (client : ℕ) (order : Order) (given : Given) (v : SeatView) → IsPrefix before.seen point → own ≡ one_step (own_of before)
    → after.table ≡ before.table → after.machine ≡ before.machine → v.seen ≡ after.seen → v.own ≡ own_of after
    → GivesAt before.machine point own client order given v → Gives before client order given after
gives_later before after point own client order (Answered reply) v later was table machine seen is at = record {
  between = later.0;
  stands = subst (λ (h : History). StandsAfter before.machine h client order reply after.seen) (sym later.1) (subst (StandsAfter before.machine point client order reply) seen at.0);
  mine = sym (ap (λ (o : Own). o.mine) is) ∙ at.1.mine ∙ ap (λ (o : Own). o.mine ++ orders_in point ∷ []) was ∙ ap (λ (h : History). before.mine ++ orders_in h ∷ []) (sym later.1);
  busy = sym (ap (λ (o : Own). o.busy) is) ∙ at.1.busy ∙ ap (λ (o : Own). o.busy) was;
  steps = omega (arith, ap (λ (o : Own). o.steps) is, at.1.steps, ap (λ (o : Own). o.steps) was, ap length later.1, ap length seen);
}
gives_later before after point own client order Busy v later was table machine seen is at = absurd at
gives_later before after point own client order Full v later was table machine seen is at =
    let same : after.seen ≡ point = sym seen ∙ at.0 in
    let now : own_of after ≡ one_step (one_step own) = sym is ∙ at.2 in
    let steps : after.steps ≡ before.steps + 3 = omega (arith, ap (λ (o : Own). o.steps) now, ap (λ (o : Own). o.steps) was) in
    let mine : after.mine ≡ before.mine = ap (λ (o : Own). o.mine) now ∙ ap (λ (o : Own). o.mine) was in
    let busy : after.busy ≡ before.busy = ap (λ (o : Own). o.busy) now ∙ ap (λ (o : Own). o.busy) was in
    (subst (IsPrefix before.seen) (sym same) later, ap orders_in same ∙ at.1, λ i. record { table = table i; machine = machine i; seen = after.seen; mine = mine i; steps = steps i; busy = busy i })

-- the places of own entries rise while the history goes on
pub rises_later : (mine now : List ℕ) (before after : History) → Rises 0 mine (orders_in before) → IsPrefix before after → now ≡ mine → Rises 0 now (orders_in after)
rises_later mine now before after rises later same = subst (λ l. Rises 0 l (orders_in after)) (sym same) (rises_more 0 mine (orders_in before) (orders_in after) rises (orders_grow before after later))

-- and where an order is entered at its end
pub rises_entered : (mine now : List ℕ) (point after : History) (client : ℕ) (order : Order) (reply : Reply) → Rises 0 mine (orders_in point) → after ≡ point ++ entered_at point client order reply ∷ [] → now ≡ mine ++ orders_in point ∷ [] → Rises 0 now (orders_in after)
rises_entered mine now point after client order reply rises is own =
    let one : orders_in (entered_at point client order reply ∷ []) ≡ 1 = refl in
    let longer : orders_in point + 1 ≤ orders_in after = omega (arith, orders_add point (entered_at point client order reply ∷ []), one, ap orders_in is) in
    subst (λ l. Rises 0 l (orders_in after)) (sym own) (rises_more 0 (mine ++ orders_in point ∷ []) (orders_in point + 1) (orders_in after) (rises_push 0 mine (orders_in point) (orders_in point) rises (omega arith)) longer)

-- whether it is entered or the limit is reached
pub rises_entering : (m : Machine) (me after : Me Arbiter SeatView) (client : ℕ) (order : Order) (result : Option Reply)
    → IfSome result (λ reply. Enters m me.0.seen client order reply after.0.seen × (after.0.own ≡ entering me.0.own me.0.seen))
    → IfNone result ((after.0.seen ≡ me.0.seen) × (after.0.own ≡ one_step me.0.own) × (orders_in me.0.seen ≡ m.orders))
    → Rises 0 me.0.own.mine (orders_in me.0.seen) → Rises 0 after.0.own.mine (orders_in after.0.seen)
rises_entering m me after client order (Some reply) e f rises = rises_entered me.0.own.mine after.0.own.mine me.0.seen after.0.seen client order reply rises e.0.seen (ap (λ (o : Own). o.mine) e.1)
rises_entering m me after client order None e f rises = subst (λ (h : History). Rises 0 after.0.own.mine (orders_in h)) (sym f.0) (subst (λ (o : Own). Rises 0 o.mine (orders_in me.0.seen)) (sym f.1) rises)

-- whatever comes of an order
pub rises_given : (m : Machine) (before point : History) (own : Own) (client : ℕ) (order : Order) (given : Given) (v : SeatView) → IsPrefix before point → Rises 0 own.mine (orders_in before) → GivesAt m point own client order given v → Rises 0 v.own.mine (orders_in v.seen)
rises_given m before point own client order (Answered reply) v later rises at =
    let next : History = point ++ entered_at point client order reply ∷ [] in
    let mine : List ℕ = own.mine ++ orders_in point ∷ [] in
    let here = rises_later own.mine own.mine before point rises later refl in
    rises_later mine v.own.mine next v.seen (rises_entered own.mine mine point next client order reply here refl refl) (posts_after m next, sym at.0.seen) at.1.mine
rises_given m before point own client order Busy v later rises at = absurd at
rises_given m before point own client order Full v later rises at =
    rises_later own.mine v.own.mine before v.seen rises (subst (IsPrefix before) (sym at.0) later) (ap (λ (o : Own). o.mine) at.2)

-- a seat with the lock stored the event that its arbiter took
pub has_appended : (m : Machine) (e : Event) (me after : Me Arbiter SeatView) → HasLock m (me.0.seen ++ e ∷ []) me → ◌≡◌ {A = Me Arbiter SeatView} after (lock_view me.0.machine (me.0.seen ++ e ∷ []) (own_with me.0.own me.0.seen e), me.1) → HasLock m after.0.seen after
has_appended m e me after lock is =
    let next : History = me.0.seen ++ e ∷ [] in
    let own : Own = own_with me.0.own me.0.seen e in
    let put : ◌≡◌ {A = Me Arbiter SeatView} (lock_view me.0.machine next own, me.1) (lock_seat m next own lock.arbiter) =
    λ i. (lock_view (ap (λ (x : Me Arbiter SeatView). x.0.machine) lock.seat i) next own, ap (λ (x : Me Arbiter SeatView). x.1) lock.seat i) in
    subst (λ (x : Me Arbiter SeatView). HasLock m x.0.seen x) (sym is) (record { arbiter = lock.arbiter; seat = put; stands = lock.stands })

-- or loaded a word
pub has_checked : (m : Machine) (h : History) (me after : Me Arbiter SeatView) → HasLock m h me → ◌≡◌ {A = Me Arbiter SeatView} after (copied me.0, me.1) → HasLock m h after
has_checked m h me after lock is =
    let put : ◌≡◌ {A = Me Arbiter SeatView} (copied me.0, me.1) (lock_seat m me.0.seen (one_step me.0.own) lock.arbiter) = ap (λ (x : Me Arbiter SeatView). (copied x.0, x.1)) lock.seat in
    subst (HasLock m h) (sym is) (record { arbiter = lock.arbiter; seat = put; stands = lock.stands })

-- what holds of a seat that has the lock, and of one that hasn't
pub as_held : (b : Bool) (A B : Type 0) → b ≡ true → A → MatchBool b A B
as_held b A B is a = rw is a

pub as_free : (b : Bool) (A B : Type 0) → b ≡ false → B → MatchBool b A B
as_free b A B is x = rw is x

-- whether no word is stale, by the arbiter
pub settled_by : (m : Machine) (h : History) (a : Arbiter) (next : Option ℕ) (none : Bool) → IsLegal m h → StandsAt m h a → next ≡ next_stale_of a.standing a.posted → is_some next ≡ not none → IsTrue none ↔ IsSettled m h
settled_by m h a None true legal stands is e = ((λ _. is_settled m h a legal stands (sym is)), (λ _. cc))
settled_by m h a None false legal stands is e = absurd (cc e)
settled_by m h a (Some w) true legal stands is e = absurd (cc e)
settled_by m h a (Some w) false legal stands is e =
    ((λ t. absurd (cc t)), (λ quiet. let none : Some w ≡ None = is ∙ was_settled m h a legal stands quiet in absurd (cc none)))

-- a seat that tried to take the lock
pub tried : (key m : Machine) (taken : Bool) (me after : Me Arbiter SeatView) → key ≡ m → IsLegal m me.0.seen → Rises 0 me.0.own.mine (orders_in me.0.seen)
    → MatchBool taken (Taken key me.0.seen me.0.own after) (after ≡ free_seat key me.0.seen (found_busy me.0.own))
    → MatchBool taken (HasLock m after.0.seen after) (after ≡ free_seat m after.0.seen after.0.own) × IsLegal m after.0.seen × Rises 0 after.0.own.mine (orders_in after.0.seen)
tried key m true me after same legal rises t = (
  subst (λ (k : Machine). HasLock k after.0.seen after) same t.lock,
  subst (λ (k : Machine). IsLegal k after.0.seen) same t.legal,
  rises_later me.0.own.mine after.0.own.mine me.0.seen after.0.seen rises t.later (ap (λ (o : Own). o.mine) t.own_is),
)
tried key m false me after same legal rises is =
    let seen : after.0.seen ≡ me.0.seen = ap (λ (x : Me Arbiter SeatView). x.0.seen) is in
    let own : after.0.own ≡ found_busy me.0.own = ap (λ (x : Me Arbiter SeatView). x.0.own) is in
    let later : IsPrefix me.0.seen after.0.seen = ([], append-nil me.0.seen ∙ sym seen) in (
      is ∙ (λ i. free_seat (same i) (sym seen i) (sym own i)),
      subst (IsLegal m) (sym seen) legal,
      rises_later me.0.own.mine after.0.own.mine me.0.seen after.0.seen rises later (ap (λ (o : Own). o.mine) own),
    )
