-- Standings stay well formed.
use Rattle.std.proofs.lemmas.Grind.{common_steps}
use Rattle.std.proofs.lemmas.Bool.Decides.{nat_tests}
use Rattle.std.proofs.Common.{◌≡◌, ℕ, ◌<◌, ◌≤◌, List, length, replicate, refl, arith, sym, ap, ◌∙◌, subst, Option, Some, None, Bool, true, false, inl, inr, MatchOption}
use Rattle.std.specs.Prelude.{◌==◌, is_some, slice_set, slice_index_or}
use Rattle.std.proofs.lemmas.Bool.{cases_eq, eqb-false, false≢true, eq-eqb}
use Rattle.std.proofs.lemmas.List.{get_or_past, get_or-set_same, get_or-set_other, length-set, length-map, length-replicate}
use Rattle.std.proofs.lemmas.List.Elements.{All-replicate}
use Rattle.std.proofs.lemmas.Nat.{le-div}
use Rattle.std.proofs.lemmas.Option.{same_Some}
use Rattle.arb_share.specs.Limits.{max_entry, applications, levels}
use Rattle.arb_model.specs.History.{FitsOrder}
use Rattle.arb_model.specs.Limits.{all_threads, clients, max_cap}
use Rattle.arb_model.specs.declared.holders.Holder.{Holder}
use Rattle.arb_model.specs.declared.orders.Order.{Order}
use Rattle.arb_model.specs.declared.orders.Order.TheVariants.{Join, Ask, Cap, Block, Retire, Leave, Status, Tick}
use Rattle.arb_config.specs.Machine.{IsMachine, Machine, cores_of}
use Rattle.arb_model.specs.Changes.{blocked, overdue_moved, own_change, unplaced, with_cap, with_request}
use Rattle.arb_model.specs.Standing.{Seats, Standing, app_of, cap_of, has_joined, opening, request_of, holder_at, is_held_by}
use Rattle.arb_model.specs.Step.{Outcome, counted, refusal_of, rebalanced, step_of}
use Rattle.arb_model.specs.WellFormed.{IsRequest, IsStanding, times_placed}
use Rattle.arb_model.proofs.GrantsLaws.{seats}
use Rattle.arb_model.proofs.ListLaws.{length-each_at, get_or-same}
use Rattle.arb_model.proofs.PlacesLaws.{places_asked_back, places_blocked_other, places_blocked_own, places_nowhere, places_overdue_moved_all, places_unplaced_goes, places_unplaced_stays}
use Rattle.arb_model.proofs.StepLaws.{cap_if_taken, cases_Option, joined_if_taken, rebalanced_grants, step_refused, step_taken}
use Rattle.arb_model.proofs.WordsLaws.{held_counts}

pub IsStanding-opening : (m : Machine) → IsStanding m (opening m)
IsStanding-opening m =
    let nobody : Option (List ℕ) = None in
    let uncapped : Option ℕ = None in
    let nowhere : Option Holder = None in
    record {
      requests = length-replicate applications nobody;
      requests_fit = λ app request h. absurd (false≢true (sym (ap is_some (get_or-same applications app nobody)) ∙ ap is_some h));
      caps = length-replicate applications uncapped;
      caps_fit = λ app cap h. absurd (false≢true (sym (ap is_some (get_or-same applications app uncapped)) ∙ ap is_some h));
      cores = length-replicate (length (cores_of m)) nowhere;
      moved = length-replicate all_threads false;
      counts = length-replicate {A = ℕ} clients 0;
      once = λ thread. omega (arith, places_nowhere (length (cores_of m)) all_threads thread);
      joined = λ thread h. absurd (omega (arith, h, places_nowhere (length (cores_of m)) all_threads thread));
    }

-- other seats with each thread in as many places
with_seats : (m : Machine) (s : Standing) (seats : Seats) → IsStanding m s → length seats.cores ≡ length (cores_of m) → length seats.moved ≡ all_threads → ((thread : ℕ) → times_placed seats thread ≡ times_placed s.seats thread) → IsStanding m (record s { seats = seats })
with_seats m s seats w cores moved places = grind (arith, nat_tests, common_steps)

-- a thread whose application has joined is one of all threads
pub thread_in : (s : Standing) (thread : ℕ) → length s.requests ≡ applications → has_joined s thread ≡ true → thread < all_threads
thread_in s thread long h = grind (arith, nat_tests, common_steps, le-div)

with_asked : (m : Machine) (s : Standing) (app : ℕ) (r : List ℕ) → IsStanding m s → IsRequest r → IsStanding m (with_request app (Some r) s)
with_asked m s app r w fits = grind (arith, nat_tests, common_steps, length-set)

-- another cap, or none
with_capped : (m : Machine) (s : Standing) (app : ℕ) (cap : Option ℕ) → IsStanding m s → ((n : ℕ) → cap ≡ Some n → (n ≤ max_cap) × (is_some (request_of s app) ≡ true)) → IsStanding m (with_cap app cap s)
with_capped m s app cap w fits = grind (arith, nat_tests, common_steps, length-set, get_or-set_other, get_or-set_same, false≢true, get_or_past)

-- no cap
uncapped : (m : Machine) (s : Standing) (app : ℕ) → IsStanding m s → IsStanding m (with_cap app None s)
uncapped m s app w = with_capped m s app None w (λ n e. absurd (false≢true (ap is_some e)))

pub with_blocked : (m : Machine) (s : Standing) (client : ℕ) → IsStanding m s → has_joined s client ≡ true → IsStanding m (record s { seats = blocked client s.seats })
with_blocked m s client w j = grind (arith, nat_tests, common_steps, length-map, length-each_at, places_blocked_own, places_blocked_other)

pub with_unplaced : (m : Machine) (s : Standing) (goes : ℕ → Bool) (requests : List (Option (List ℕ))) → IsStanding m s → length requests ≡ applications → ((thread : ℕ) → goes thread ≡ false → slice_index_or requests (app_of thread) None ≡ request_of s (app_of thread)) → ((app : ℕ) (request : List ℕ) → slice_index_or requests app None ≡ Some request → IsRequest request) → ((app cap : ℕ) → cap_of s app ≡ Some cap → is_some (slice_index_or requests app None) ≡ true) → IsStanding m (record s { requests = requests; seats = unplaced goes s.seats })
with_unplaced m s goes requests w long same fit stay = grind (arith, nat_tests, length-map, length-each_at, places_unplaced_goes, places_unplaced_stays)

pub with_moved : (m : Machine) (s : Standing) (moment : ℕ) → IsStanding m s → IsStanding m (record s { clock = moment; seats = overdue_moved m.grace moment s.seats })
with_moved m s moment w = grind (arith, nat_tests, common_steps, places_overdue_moved_all, thread_in, length-map, length-each_at)

-- what becomes none is none
none_left : {A : Type 0} (xs : List (Option A)) (app a : ℕ) → a ≡ app → slice_index_or (slice_set xs app None) a None ≡ None
none_left xs app a e = grind (arith, nat_tests, common_steps, get_or-set_same, get_or_past, length-set)

fits_left : (m : Machine) (s : Standing) (app : ℕ) → IsStanding m s → (a : ℕ) (request : List ℕ) → slice_index_or (slice_set s.requests app None) a None ≡ Some request → IsRequest request
fits_left m s app w a request h = grind (arith, nat_tests, common_steps, get_or-set_other, false≢true, none_left)

pub IsStanding-leave : (m : Machine) (s : Standing) (client : ℕ) → IsStanding m s → IsStanding m (own_change m s client Leave)
IsStanding-leave m s client w =
    let app : ℕ = app_of client in
    with_unplaced m (with_cap app None s) (λ t. app_of t == app) (slice_set s.requests app None) (uncapped m s app w) (length-set s.requests app None ∙ w.requests)
    (λ thread stays. get_or-set_other s.requests app (app_of thread) None None (eqb-false _ _ stays))
    (fits_left m s app w)
    (λ a cap h. elim (cases_eq a app) [
      | inr ne ↦ ap is_some (get_or-set_other s.requests app a None None ne) ∙ ((uncapped m s app w).caps_fit a cap h).1
      | inl e ↦ absurd (false≢true (sym (ap is_some (none_left s.caps app a e)) ∙ ap is_some h))
    ])

pub IsStanding-own_change : (m : Machine) (s : Standing) (client : ℕ) (order : Order) → IsStanding m s → FitsOrder order → refusal_of s client order ≡ None → IsStanding m (own_change m s client order)
IsStanding-own_change m s client Join w f t = uncapped m (with_request (app_of client) (Some (replicate levels 0)) s) (app_of client) (with_asked m s (app_of client) (replicate levels 0) w (length-replicate {A = ℕ} levels 0, All-replicate (λ entry. entry ≤ max_entry) levels 0 (omega arith)))
IsStanding-own_change m s client (Ask request) w f t = with_asked m s (app_of client) request w f
IsStanding-own_change m s client (Cap cap) w f t = with_capped m s (app_of client) (Some cap) w (λ n e. (omega (arith, same_Some cap n e, cap_if_taken s client cap t), joined_if_taken s client (Cap cap) t refl))
IsStanding-own_change m s client Block w f t = with_blocked m s client w (joined_if_taken s client Block t refl)
IsStanding-own_change m s client Retire w f t = with_unplaced m s (λ t. t == client) s.requests w w.requests (λ thread _. refl) w.requests_fit (λ app cap h. (w.caps_fit app cap h).1)
IsStanding-own_change m s client Leave w f t = IsStanding-leave m s client w
IsStanding-own_change m s client Status w f t = w
IsStanding-own_change m s client (Tick moment) w f t = with_moved m s moment w

pub IsStanding-counted : (m : Machine) (s : Standing) (client : ℕ) → IsStanding m s → IsStanding m (counted client s)
IsStanding-counted m s client w = grind (arith, nat_tests, common_steps, length-set)

-- the asks and the grants keep a standing well formed
pub IsStanding-rebalanced : (m : Machine) (s : Standing) → IsMachine m → IsStanding m s → IsStanding m (rebalanced m s)
IsStanding-rebalanced m s machine w = grind (arith, nat_tests, rebalanced_grants, length-each_at, with_seats, places_asked_back)

-- each order keeps a well formed standing so
pub IsStanding-step : (m : Machine) (s : Standing) (client : ℕ) (order : Order) → IsMachine m → IsStanding m s → FitsOrder order → IsStanding m (step_of m s client order).standing
IsStanding-step m s client order machine w fits =
    elim (cases_Option (refusal_of s client order)) [
      | inr r ↦ subst (λ (o : Outcome). IsStanding m o.standing) (sym (step_refused m s client order r.0 r.1)) (IsStanding-counted m s client w)
      | inl none ↦ subst (λ (o : Outcome). IsStanding m o.standing) (sym (step_taken m s client order none)) (IsStanding-counted m (rebalanced m (own_change m s client order)) client (IsStanding-rebalanced m (own_change m s client order) machine (IsStanding-own_change m s client order w fits none)))
    ]

-- holders are threads
pub are_threads : (m : Machine) (s : Standing) → IsStanding m s → (p : ℕ) → MatchOption (holder_at s.seats.cores p) (Unit {0}) (λ holder. holder.thread < all_threads)
are_threads m s w p = at (holder_at s.seats.cores p) refl
  where
    at : (o : Option Holder) → holder_at s.seats.cores p ≡ o → MatchOption o (Unit {0}) (λ holder. holder.thread < all_threads)
    at None e = tt
    at (Some holder) e =
        let on : is_held_by holder.thread (holder_at s.seats.cores p) ≡ true = ap (is_held_by holder.thread) e ∙ eq-eqb holder.thread holder.thread refl in
        thread_in s holder.thread w.requests (w.joined holder.thread (omega (arith, held_counts holder.thread s.seats.cores p on)))
