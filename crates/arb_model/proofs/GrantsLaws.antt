-- Laws of the grants.
use Rattle.std.proofs.lemmas.Grind.{common_steps}
use Rattle.std.proofs.lemmas.Bool.Decides.{nat_tests}
use Rattle.std.proofs.Common.{refl, ◌≡◌, ℕ, ◌+◌, ◌-◌, ◌<◌, ◌≤◌, List, [], ◌∷◌, length, get_or, set, suc, map, replicate, arith, sym, ap, ◌∙◌, subst, Option, Some, None, Bool, true, false, inl, inr, drop, slice_index, sum}
use Rattle.std.specs.Prelude.{◌==◌}
use Rattle.std.proofs.lemmas.Bool.{cases_lt, cases_Bool, ne_eqb, eqb-true, false≢true}
use Rattle.std.proofs.lemmas.List.{length-map, length-set, length-replicate, get_or-set_same, get_or-set_other, get_or_past, drop_more, drop_all}
use Rattle.std.specs.List.{position_or_len, range_with_len}
use Rattle.std.proofs.lemmas.List.Sums.{get_or-le-sum_by, position_or_len_is, passes_at_first, sum_by-remove, sum_by-cons}
use Rattle.arb_share.specs.Limits.{applications}
use Rattle.arb_model.specs.declared.holders.Holder.{Holder}
use Rattle.arb_model.specs.Grants.{after_grants, grant_keys, granted, granted_from, granted_times, grants_of, need_of, next_core}
use Rattle.arb_model.proofs.LeastLaws.{IsLeastBelow, PicksLeast-more, PicksLeast-none, best_below, clear_at, count-clear, least_of-only}
use Rattle.arb_model.specs.Lists.{count_below, one_if}
use Rattle.arb_model.specs.Pick.{PicksLeast, is_set}
use Rattle.arb_model.specs.Standing.{Seats, app_of, holder_at, free_count, is_free, waiting_count}
use Rattle.arb_model.proofs.CountLaws.{count_below-none, count_below-one_less}
use Rattle.arb_model.proofs.ListLaws.{get_or-map, position_or_len-lt}
use Rattle.arb_share.specs.Division.{DividesEvenly}
use Rattle.arb_share.proofs.DivisionLaws.{DividesEvenly-even_of, even_of-only}
use Rattle.std.proofs.lemmas.List.FromFn.{get_or-range_with_len}

-- a single flag stands at its place
one_flag : (n place : ℕ) → place < n → position_or_len (λ b. b) (set (replicate n false) place true) ≡ place
one_flag n place h =
    let long : length (set (replicate n false) place true) ≡ n = length-set (replicate n false) place true ∙ length-replicate n false in
    position_or_len_is (λ b. b) (set (replicate n false) place true) place false (omega arith)
    (λ k lt. let ne : k ≡ place → ⊥ = λ e. absurd (omega arith) in get_or-set_other (replicate n false) place k true false ne ∙ clear_at n k)
    (λ _. get_or-set_same (replicate n false) place true false (omega (arith, length-replicate n false)))

-- the least of the free cores is the next
pub next_core-is : (sockets : List ℕ) (cores : List (Option Holder)) (app place : ℕ) → IsLeastBelow (grant_keys sockets cores app) (map is_free cores) (replicate (length cores) false) (length cores) place → place ≡ next_core sockets cores app
unfolding next_core
next_core-is sockets cores app place b =
    let n : ℕ = length cores in
    let keys = grant_keys sockets cores app in
    let free = map is_free cores in
    let long : length free ≡ n = length-map cores is_free in
    let nothing : PicksLeast keys free 0 (replicate n false) = PicksLeast-none keys free (replicate n false) (length-replicate n false ∙ sym long) (clear_at n) (count-clear n) in
    let one : PicksLeast keys free 1 (set (replicate n false) place true) = PicksLeast-more keys free 0 (replicate n false) place nothing (subst (λ (m : ℕ). IsLeastBelow keys free (replicate n false) m place) (sym long) b) in
    sym (ap (position_or_len (λ flag. flag)) (sym (least_of-only keys free 1 _ one)) ∙ one_flag n place b.inside)

-- no free core is left
pub free_count-none : (cores : List (Option Holder)) → ((q : ℕ) → q < length cores → is_set (map is_free cores) q ≡ true → is_set (replicate (length cores) false) q ≡ true) → free_count cores ≡ 0
free_count-none cores none =
    count_below-none (λ p. is_free (holder_at cores p)) (length cores) (λ p lt. elim (cases_Bool (is_free (holder_at cores p))) [
      | inr busy ↦ busy
      | inl free ↦ absurd (false≢true (sym (clear_at (length cores) p) ∙ none p lt (get_or-map is_free cores p None false lt ∙ free)))
    ])

abbrev pub seats : List (Option Holder) → List ℕ → List Bool → Seats
seats cores waiting moved = record { cores = cores; waiting = waiting; moved = moved }

-- the next core is free, where some core is
pub next_core-free : (sockets : List ℕ) (cores : List (Option Holder)) (app : ℕ) → 0 < free_count cores → (next_core sockets cores app < length cores) × (is_free (holder_at cores (next_core sockets cores app)) ≡ true)
next_core-free sockets cores app some =
    let n : ℕ = length cores in
    elim (best_below (grant_keys sockets cores app) (map is_free cores) (replicate n false) n) [
      | inr none ↦ absurd (omega (arith, free_count-none cores none))
      | inl b ↦
          let e : b.0 ≡ next_core sockets cores app = next_core-is sockets cores app b.0 b.1 in
          let here : is_free (holder_at cores b.0) ≡ true = sym (get_or-map is_free cores b.0 None false b.1.inside) ∙ b.1.is_candidate in
          (omega (arith, e, b.1.inside), ap (λ p. is_free (holder_at cores p)) (sym e) ∙ here)
    ]

-- a grant takes one free core
pub free_count-granted : (sockets : List ℕ) (app : ℕ) (s : Seats) → 0 < free_count s.cores → free_count (granted sockets app s).cores + 1 ≡ free_count s.cores
unfolding granted
free_count-granted sockets app s some =
    let n : ℕ = length s.cores in
    let place : ℕ = next_core sockets s.cores app in
    let free = next_core-free sockets s.cores app some in
    let turn : ℕ = position_or_len (λ t. app_of t == app) s.waiting in
    let holder : Option Holder = Some (record { thread = slice_index s.waiting turn; asked = None }) in
    let long : length (set s.cores place holder) ≡ n = length-set s.cores place holder in
    let one_less : count_below (λ p. is_free (holder_at (set s.cores place holder) p)) n + 1 ≡ count_below (λ p. is_free (holder_at s.cores p)) n =
    count_below-one_less (λ p. is_free (holder_at s.cores p)) (λ p. is_free (holder_at (set s.cores place holder) p)) place n free.0 free.1
    (ap is_free (get_or-set_same s.cores place holder None free.0)) (λ p ne. ap is_free (get_or-set_other s.cores place p holder None ne)) in
    ap (λ m. count_below (λ p. is_free (holder_at (set s.cores place holder) p)) m + 1) long ∙ one_less

-- and one waiting thread of that application
pub waiting_count-granted : (sockets : List ℕ) (app : ℕ) (s : Seats) → 0 < waiting_count app s.waiting → waiting_count app (granted sockets app s).waiting + 1 ≡ waiting_count app s.waiting
unfolding granted
waiting_count-granted sockets app s some =
    let turn : ℕ = position_or_len (λ t. app_of t == app) s.waiting in
    let lt : turn < length s.waiting = position_or_len-lt (λ t. app_of t == app) s.waiting some in
    omega (arith, sum_by-remove (λ t. one_if (app_of t == app)) s.waiting turn 0 lt, ap one_if (passes_at_first (λ t. app_of t == app) s.waiting 0 lt))

pub waiting_count-granted_other : (sockets : List ℕ) (app other : ℕ) (s : Seats) → (other ≡ app → ⊥) → 0 < waiting_count app s.waiting → waiting_count other (granted sockets app s).waiting ≡ waiting_count other s.waiting
unfolding granted
waiting_count-granted_other sockets app other s ne some =
    let turn : ℕ = position_or_len (λ t. app_of t == app) s.waiting in
    let lt : turn < length s.waiting = position_or_len-lt (λ t. app_of t == app) s.waiting some in
    let here : (app_of (slice_index s.waiting turn) == app) ≡ true = passes_at_first (λ t. app_of t == app) s.waiting 0 lt in
    let is : app_of (slice_index s.waiting turn) ≡ app = eqb-true _ _ here in
    let not_other : (app_of (slice_index s.waiting turn) == other) ≡ false = ne_eqb _ _ (λ e. ne (sym e ∙ is)) in
    omega (arith, sum_by-remove (λ t. one_if (app_of t == other)) s.waiting turn 0 lt, ap one_if not_other)

pub length-granted : (sockets : List ℕ) (app : ℕ) (s : Seats) → length (granted sockets app s).cores ≡ length s.cores
unfolding granted
length-granted sockets app s = length-set s.cores (next_core sockets s.cores app) _

-- what is left to grant: `now` to this application, `rest` to those after it
pub record GrantsLeft (sockets : List ℕ) (app now : ℕ) (rest : List ℕ) (s whole : Seats) : Type 0 where
  pub enough_cores : now + sum rest ≤ free_count s.cores
  pub enough_here : now ≤ waiting_count app s.waiting
  pub enough_later : (k : ℕ) → slice_index rest k ≤ waiting_count (app + 1 + k) s.waiting
  pub one_each : length s.cores ≡ length sockets
  pub result : granted_from sockets (app + 1) rest (granted_times sockets app now s) ≡ whole

pub GrantsLeft-grant : (sockets : List ℕ) (app now : ℕ) (rest : List ℕ) (s whole : Seats) → GrantsLeft sockets app (suc now) rest s whole → GrantsLeft sockets app now rest (granted sockets app s) whole
GrantsLeft-grant sockets app now rest s whole g =
    let some_free : 0 < free_count s.cores = omega (arith, g.enough_cores) in
    let some_waiting : 0 < waiting_count app s.waiting = omega (arith, g.enough_here) in
    record {
      enough_cores = omega (arith, g.enough_cores, free_count-granted sockets app s some_free);
      enough_here = omega (arith, g.enough_here, waiting_count-granted sockets app s some_waiting);
      enough_later = λ k. omega (arith, g.enough_later k, waiting_count-granted_other sockets app (app + 1 + k) s (λ e. absurd (omega arith)) some_waiting);
      one_each = length-granted sockets app s ∙ g.one_each;
      result = g.result;
    }

-- the next application
pub GrantsLeft-next : (sockets : List ℕ) (app next : ℕ) (rest : List ℕ) (s whole : Seats) → GrantsLeft sockets app 0 (next ∷ rest) s whole → GrantsLeft sockets (app + 1) next rest s whole
GrantsLeft-next sockets app next rest s whole g =
    record {
      enough_cores = omega (arith, g.enough_cores, sum_by-cons (λ n. n) next rest);
      enough_here = let here : next ≤ waiting_count (app + 1 + 0) s.waiting = g.enough_later 0 in let e : app + 1 + 0 ≡ app + 1 = omega arith in subst (λ (a : ℕ). next ≤ waiting_count a s.waiting) e here;
      enough_later = λ k. let later : slice_index rest k ≤ waiting_count (app + 1 + suc k) s.waiting = g.enough_later (suc k) in let e : app + 1 + suc k ≡ app + 1 + 1 + k = omega arith in subst (λ (a : ℕ). slice_index rest k ≤ waiting_count a s.waiting) e later;
      one_each = g.one_each;
      result = g.result;
    }

-- after the last application
pub GrantsLeft-last : (sockets : List ℕ) (app : ℕ) (s whole : Seats) → GrantsLeft sockets app 0 [] s whole → GrantsLeft sockets (app + 1) 0 [] s whole
GrantsLeft-last sockets app s whole g = grind (arith, nat_tests, common_steps)

pub GrantsLeft-step : (sockets : List ℕ) (app : ℕ) (grants : List ℕ) (s whole : Seats) → GrantsLeft sockets app 0 (drop (app + 1) grants) s whole → GrantsLeft sockets (app + 1) (slice_index grants (app + 1)) (drop (app + 1 + 1) grants) s whole
GrantsLeft-step sockets app grants s whole g =
    elim (cases_lt (app + 1) (length grants)) [
      | inl more ↦ GrantsLeft-next sockets app (slice_index grants (app + 1)) (drop (app + 1 + 1) grants) s whole (subst (λ (r : List ℕ). GrantsLeft sockets app 0 r s whole) (drop_more grants (app + 1) 0 more) g)
      | inr done ↦
          let none : drop (app + 1) grants ≡ [] = drop_all (app + 1) grants done in
          let none_later : drop (app + 1 + 1) grants ≡ [] = drop_all (app + 1 + 1) grants (omega arith) in
          let zero_now : slice_index grants (app + 1) ≡ 0 = get_or_past grants (app + 1) 0 done in
          rw (zero_now, none_later) (GrantsLeft-last sockets app s whole (rw none at g))
    ]

-- nobody is granted more than waits
granted_waits : (s : Seats) (due : List ℕ) (supply : ℕ) (grants : List ℕ) → DividesEvenly (map (need_of s due) (range_with_len 0 applications)) supply grants → (k : ℕ) → slice_index grants k ≤ waiting_count k s.waiting
granted_waits s due supply grants d k =
    elim (cases_lt k applications) [
      | inl less ↦
          let long : k < length (range_with_len 0 applications) = less in
          let at : get_or (map (need_of s due) (range_with_len 0 applications)) k 0 ≡ need_of s due (get_or (range_with_len 0 applications) k 0) = get_or-map (need_of s due) (range_with_len 0 applications) k 0 0 long in
          let e : get_or (range_with_len 0 applications) k 0 ≡ k = (let zero_more : 0 + k ≡ k = omega arith in get_or-range_with_len 0 applications k 0 less ∙ zero_more) in
          omega (arith, d.within k, at, ap (need_of s due) e)
      | inr past ↦
          let over : length (map (need_of s due) (range_with_len 0 applications)) ≤ k = past in
          omega (arith, d.within k, get_or_past (map (need_of s due) (range_with_len 0 applications)) k 0 over)
    ]

pub GrantsLeft-start : (sockets : List ℕ) (due : List ℕ) (s : Seats) (grants : List ℕ) → DividesEvenly (map (need_of s due) (range_with_len 0 applications)) (free_count s.cores) grants → length s.cores ≡ length sockets → GrantsLeft sockets 0 (slice_index grants 0) (drop 1 grants) s (after_grants sockets due s)
GrantsLeft-start sockets due s grants d e =
    from grants d (even_of-only _ _ grants d) (granted_waits s due (free_count s.cores) grants d)
  where
    from : (grants : List ℕ) → DividesEvenly (map (need_of s due) (range_with_len 0 applications)) (free_count s.cores) grants → grants ≡ grants_of s due → ((k : ℕ) → slice_index grants k ≤ waiting_count k s.waiting) → GrantsLeft sockets 0 (slice_index grants 0) (drop 1 grants) s (after_grants sockets due s)
    from [] d is waits = absurd (omega (arith, d.one_each))
    from (g ∷ rest) d is waits =
        record {
          enough_cores = omega (arith, d.in_full, sum_by-cons (λ n. n) g rest);
          enough_here = waits 0;
          enough_later = λ k. let w : slice_index rest k ≤ waiting_count (suc k) s.waiting = waits (suc k) in let same : suc k ≡ 0 + 1 + k = omega arith in subst (λ (a : ℕ). slice_index rest k ≤ waiting_count a s.waiting) same w;
          one_each = e;
          result = let one : 0 + 1 ≡ 1 = omega arith in ap (λ (gs : List ℕ). granted_from sockets 0 gs s) is;
        }

pub GrantsLeft-more : (sockets : List ℕ) (app all given : ℕ) (rest : List ℕ) (s whole : Seats) → given < all → GrantsLeft sockets app (all - given) rest s whole → GrantsLeft sockets app (all - (given + 1)) rest (granted sockets app s) whole
GrantsLeft-more sockets app all given rest s whole h g =
    let e : all - given ≡ suc (all - (given + 1)) = omega arith in
    GrantsLeft-grant sockets app (all - (given + 1)) rest s whole (subst (λ (n : ℕ). GrantsLeft sockets app n rest s whole) e g)

-- all is granted
pub GrantsLeft-end : (sockets : List ℕ) (app : ℕ) (grants : List ℕ) (s whole : Seats) → length grants ≤ app → GrantsLeft sockets app (slice_index grants app) (drop (app + 1) grants) s whole → s ≡ whole
GrantsLeft-end sockets app grants s whole h g = grind (arith, nat_tests, common_steps, drop_all, get_or_past)

-- where no core is free, none is granted
granted_from-none : (sockets : List ℕ) (app : ℕ) (grants : List ℕ) (s : Seats) → ((k : ℕ) → slice_index grants k ≡ 0) → granted_from sockets app grants s ≡ s
granted_from-none sockets app [] s none = refl
granted_from-none sockets app (times ∷ rest) s none = ap (λ (n : ℕ). granted_from sockets (app + 1) rest (granted_times sockets app n s)) (none 0) ∙ granted_from-none sockets (app + 1) rest s (λ k. none (suc k))

-- no application is granted more than all together
grant-within : (s : Seats) (due : List ℕ) (k : ℕ) → slice_index (grants_of s due) k ≤ sum (grants_of s due)
grant-within s due k = grind (arith, nat_tests, common_steps, get_or-le-sum_by, get_or_past)

grants_divided : (s : Seats) (due : List ℕ) → DividesEvenly (map (need_of s due) (range_with_len 0 applications)) (free_count s.cores) (grants_of s due)
grants_divided s due = DividesEvenly-even_of (map (need_of s due) (range_with_len 0 applications)) (free_count s.cores)

pub after_grants-none : (sockets due : List ℕ) (s : Seats) → free_count s.cores ≡ 0 → after_grants sockets due s ≡ s
after_grants-none sockets due s free =
    granted_from-none sockets 0 (grants_of s due) s (λ k. omega (arith, grant-within s due k, (grants_divided s due).in_full, free))

-- where no application needs a core, none is granted
pub after_grants-unneeded : (sockets due : List ℕ) (s : Seats) → sum (map (need_of s due) (range_with_len 0 applications)) ≡ 0 → after_grants sockets due s ≡ s
after_grants-unneeded sockets due s none =
    granted_from-none sockets 0 (grants_of s due) s (λ k. omega (arith, grant-within s due k, (grants_divided s due).in_full, none))
