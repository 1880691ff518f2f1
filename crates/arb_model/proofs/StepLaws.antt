-- Laws of the order step: what a refused and a taken order do, who gains and loses a core, well formed standings.
use Rattle.std.proofs.lemmas.Grind.{common_steps}
use Rattle.std.proofs.lemmas.Bool.Decides.{nat_tests}
use Rattle.std.proofs.Common.{arith, ◌≡◌, ℕ, ◌<◌, ◌≤◌, List, length, refl, sym, ap, ◌∙◌, subst, ◌⊎◌, Option, Some, None, Bool, true, false, inl, inr}
use Rattle.std.proofs.lemmas.Bool.{cases_Bool, lt-ltb, eqb-true, false≢true, true≢false, eq-eqb, and_parts}
use Rattle.std.proofs.lemmas.List.{length-map}
use Rattle.arb_model.specs.declared.holders.Holder.{Holder}
use Rattle.arb_model.specs.declared.orders.Order.{Order}
use Rattle.arb_model.specs.declared.orders.Order.TheVariants.{Join, Ask, Cap, Block, Retire, Leave, Status, Tick}
use Rattle.arb_model.specs.declared.orders.Refusal.{Refusal}
use Rattle.arb_model.specs.Limits.{max_cap}
use Rattle.arb_model.specs.declared.orders.Reply.TheVariants.{Refused}
use Rattle.arb_config.specs.Machine.{Machine, socket_by_position}
use Rattle.arb_model.specs.Asks.{after_asks, is_asked_back, remarked}
use Rattle.arb_model.specs.Changes.{free_if, own_change}
use Rattle.arb_model.specs.Owners.{ChangesOwners, KeepsUnasked, is_left, loses}
use Rattle.arb_model.specs.Standing.{Seats, Standing, holder_at, has_joined, is_free, is_held_by}
use Rattle.arb_model.specs.Step.{Outcome, answer_of, counted, due_now, moved_by, needs_joined, refusal_of, reply_by, rebalanced, step_of}
use Rattle.arb_model.specs.WellFormed.{times_waiting}
use Rattle.arb_model.proofs.ListLaws.{length-each_at}
use Rattle.arb_model.proofs.OwnersLaws.{ComesByGrants, ComesByGrants-after_grants, IsGiven, core_after_asks, core_own_change, free_remarked, held_after_asks, waiting_own_change}

-- that an order is counted changes nothing of its refusal
refusal_counted : (s : Standing) (client : ℕ) (order : Order) → refusal_of (counted client s) client order ≡ refusal_of s client order
refusal_counted s client order = grind (arith, nat_tests, common_steps)

-- nor of what it leads to, beside the count
taken_counted : (m : Machine) (s : Standing) (client : ℕ) (order : Order) → answer_of m (counted client s) client order None ≡ record { reply = (answer_of m s client order None).reply; standing = counted client (answer_of m s client order None).standing }
taken_counted m s client Join = refl
taken_counted m s client (Ask request) = refl
taken_counted m s client (Cap cap) = refl
taken_counted m s client Block = refl
taken_counted m s client Retire = refl
taken_counted m s client Leave = refl
taken_counted m s client Status = refl
taken_counted m s client (Tick moment) = refl

-- a refused order is counted, and changes nothing else
pub step_refused : (m : Machine) (s : Standing) (client : ℕ) (order : Order) (r : Refusal) → refusal_of s client order ≡ Some r → step_of m s client order ≡ record { reply = Refused r; standing = counted client s }
step_refused m s client order r e = ap (answer_of m (counted client s) client order) (refusal_counted s client order ∙ e)

pub step_taken : (m : Machine) (s : Standing) (client : ℕ) (order : Order) → refusal_of s client order ≡ None → step_of m s client order ≡ record { reply = reply_by m (rebalanced m (own_change m s client order)) client (moved_by m s order) order; standing = counted client (rebalanced m (own_change m s client order)) }
step_taken m s client order e = ap (answer_of m (counted client s) client order) (refusal_counted s client order ∙ e) ∙ taken_counted m s client order

pub cases_Option : {A : Type 0} (x : Option A) → (x ≡ None) ⊎ ((a : A) × (x ≡ Some a))
cases_Option None = inl refl
cases_Option (Some a) = inr (a, refl)

-- an order that needs a joined application is taken from no other
pub joined_if_taken : (s : Standing) (client : ℕ) (order : Order) → refusal_of s client order ≡ None → needs_joined order ≡ true → has_joined s client ≡ true
joined_if_taken s client order h needs = grind (arith, nat_tests, common_steps)

-- and a cap is taken within its limit alone
pub cap_if_taken : (s : Standing) (client cap : ℕ) → refusal_of s client (Cap cap) ≡ None → cap ≤ max_cap
cap_if_taken s client cap h = grind (arith, nat_tests, common_steps, true≢false, lt-ltb)

-- freed cores
freed_held : (test : Holder → Bool) (thread : ℕ) (core : Option Holder) → is_held_by thread (free_if test core) ≡ true → is_held_by thread core ≡ true
freed_held test thread core h = grind (arith, nat_tests, false≢true)

kept_core : (test : Holder → Bool) (core : Option Holder) → is_free (free_if test core) ≡ false → free_if test core ≡ core
kept_core test core h = grind (arith, nat_tests, true≢false)

-- where an order isn't refused, the cores that are left are those that it frees
left_freed : (m : Machine) (s : Standing) (client : ℕ) (order : Order) (core : Option Holder) → refusal_of s client order ≡ None → is_left m s client order core ≡ is_free (free_if (loses m client order) core)
left_freed m s client order core taken = grind (arith, nat_tests, common_steps)

-- who gains and who loses a core, core by core
keeps_core : (thread : ℕ) (left before after : Option Holder) (waiting : List ℕ) → is_held_by thread left ≡ true → is_held_by thread before ≡ is_held_by thread left → (after ≡ before) ⊎ IsGiven before after waiting → is_held_by thread after ≡ true
keeps_core thread left before after waiting h e change = grind (arith, nat_tests, false≢true)

gains_core : (thread : ℕ) (before after : Option Holder) (waiting : List ℕ) → is_held_by thread after ≡ true → is_held_by thread before ≡ false → (after ≡ before) ⊎ IsGiven before after waiting → (is_free before ≡ true) × (0 < times_waiting thread waiting)
gains_core thread before after waiting h e change = grind (arith, nat_tests, common_steps, false≢true, eqb-true)

settled_changes : (m : Machine) (s : Standing) (client : ℕ) (order : Order) (after : Seats) (due : List ℕ) (clock : ℕ) → refusal_of s client order ≡ None → ComesByGrants (after_asks (socket_by_position m) due clock (own_change m s client order).seats) after → ChangesOwners m s client order after
settled_changes m s client order after due clock taken c =
    let own : Seats = (own_change m s client order).seats in
    let asked : Seats = after_asks (socket_by_position m) due clock own in
    let test : Holder → Bool = loses m client order in
    let at : (p : ℕ) → holder_at own.cores p ≡ free_if test (holder_at s.seats.cores p) = core_own_change m s client order in
    let held : (p thread : ℕ) → is_held_by thread (holder_at asked.cores p) ≡ is_held_by thread (free_if test (holder_at s.seats.cores p)) = λ p thread. held_after_asks (socket_by_position m) due clock own.cores p thread ∙ ap (is_held_by thread) (at p) in
    let free : (p : ℕ) → is_free (holder_at asked.cores p) ≡ is_left m s client order (holder_at s.seats.cores p) = λ p. ap is_free (core_after_asks (socket_by_position m) due clock own.cores p) ∙ free_remarked clock _ (holder_at own.cores p) ∙ ap is_free (at p) ∙ sym (left_freed m s client order (holder_at s.seats.cores p) taken) in
    let not_before : (p thread : ℕ) → is_held_by thread (holder_at s.seats.cores p) ≡ false → is_held_by thread (holder_at asked.cores p) ≡ false = λ p thread no. elim (cases_Bool (is_held_by thread (holder_at asked.cores p))) [
      | inr e ↦ e
      | inl e ↦ absurd (false≢true (sym no ∙ freed_held test thread (holder_at s.seats.cores p) (sym (held p thread) ∙ e)))
    ] in
    record {
      keeps = λ p thread on stays. keeps_core thread (holder_at s.seats.cores p) (holder_at asked.cores p) (holder_at after.cores p) asked.waiting on (held p thread ∙ ap (is_held_by thread) (kept_core test (holder_at s.seats.cores p) (sym (left_freed m s client order (holder_at s.seats.cores p) taken) ∙ stays))) (c.cores p);
      was_left = λ p thread on no. sym (free p) ∙ (gains_core thread (holder_at asked.cores p) (holder_at after.cores p) asked.waiting on (not_before p thread no) (c.cores p)).0;
      waited = λ p thread on no. waiting_own_change m s client order thread (gains_core thread (holder_at asked.cores p) (holder_at after.cores p) asked.waiting on (not_before p thread no) (c.cores p)).1;
    }

nothing_changes : (m : Machine) (s : Standing) (client : ℕ) (order : Order) → ChangesOwners m s client order s.seats
nothing_changes m s client order = grind (arith, nat_tests, common_steps, false≢true)

-- own changes keep the number of cores
pub length_own_change : (m : Machine) (s : Standing) (client : ℕ) (order : Order) → length (own_change m s client order).seats.cores ≡ length s.seats.cores
length_own_change m s client order = grind (arith, nat_tests, common_steps, length-map)

-- the seats after the asks and the grants come by grants from the asked ones
pub rebalanced_grants : (m : Machine) (s : Standing) → length s.seats.cores ≡ length (socket_by_position m) → ComesByGrants (after_asks (socket_by_position m) (due_now m s) s.clock s.seats) (rebalanced m s).seats
rebalanced_grants m s long =
    let asked : Seats = after_asks (socket_by_position m) (due_now m s) s.clock s.seats in
    let same : length asked.cores ≡ length (socket_by_position m) = length-each_at (λ p o. remarked s.clock (is_asked_back (socket_by_position m) s.seats.cores (due_now m s) p o) o) 0 s.seats.cores ∙ long in
    ComesByGrants-after_grants (socket_by_position m) (due_now m s) asked same

-- The owner law: who loses and who gains a core by an order
pub step_changes_owners : (m : Machine) (s : Standing) (client : ℕ) (order : Order) → length s.seats.cores ≡ length (socket_by_position m) → ChangesOwners m s client order (step_of m s client order).standing.seats
step_changes_owners m s client order long =
    elim (cases_Option (refusal_of s client order)) [
      | inr r ↦ subst (λ (o : Outcome). ChangesOwners m s client order o.standing.seats) (sym (step_refused m s client order r.0 r.1)) (nothing_changes m s client order)
      | inl none ↦ subst (λ (o : Outcome). ChangesOwners m s client order o.standing.seats) (sym (step_taken m s client order none)) (settled_changes m s client order _ (due_now m (own_change m s client order)) (own_change m s client order).clock none (rebalanced_grants m (own_change m s client order) (length_own_change m s client order ∙ long)))
    ]

-- a core that isn't asked keeps its owner, unless its thread blocks or retires or its application leaves
pub keeps_unasked : (m : Machine) (s : Standing) (client : ℕ) (order : Order) (after : Seats) → ChangesOwners m s client order after → KeepsUnasked client order s.seats after
keeps_unasked m s client order after c p holder at a = grind (arith, nat_tests, eq-eqb, and_parts)
