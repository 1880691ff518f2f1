-- Laws of the owners: each step of the grants, then the whole order step.
use Rattle.std.proofs.lemmas.Grind.{common_steps}
use Rattle.std.proofs.lemmas.Bool.Decides.{nat_tests}
use Rattle.std.proofs.Common.{◌≡◌, ℕ, ◌+◌, ◌<◌, ◌≤◌, List, [], ◌∷◌, length, zero, suc, refl, arith, sym, ap, ◌∙◌, subst, ◌⊎◌, Option, Some, None, Bool, true, false, not, inl, inr, slice_index, filter, drop}
use Rattle.std.specs.Prelude.{◌==◌, is_some}
use Rattle.std.specs.List.{position_or_len}
use Rattle.std.proofs.lemmas.Bool.{cases_eq, false≢true, eq-eqb, ne_eqb}
use Rattle.std.proofs.lemmas.List.{get_or_past, get_or-set_same, get_or-set_other}
use Rattle.std.proofs.lemmas.List.Sums.{sum_by-remove, sum_by_push, get_or-le-sum_by, sum_by-le-sum_by}
use Rattle.arb_share.proofs.DivisionLaws.{DividesEvenly-even_of}
use Rattle.arb_model.specs.declared.holders.Holder.{Holder}
use Rattle.arb_model.specs.declared.orders.Order.{Order}
use Rattle.arb_model.specs.declared.orders.Order.TheVariants.{Join, Ask, Cap, Block, Retire, Leave, Status, Tick}
use Rattle.arb_config.specs.Machine.{Machine}
use Rattle.arb_model.specs.Asks.{cores_after_asks, is_asked_back, remarked}
use Rattle.arb_model.specs.Changes.{free_if, own_change}
use Rattle.arb_model.specs.Grants.{after_grants, granted, granted_times, grants_of}
use Rattle.arb_model.specs.Lists.{one_if}
use Rattle.arb_model.specs.Owners.{loses}
use Rattle.arb_model.specs.Standing.{Seats, Standing, app_of, holder_at, free_count, is_free, is_held_by, waiting_count}
use Rattle.arb_model.specs.WellFormed.{times_placed, times_waiting}
use Rattle.arb_model.proofs.CountLaws.{count_by_filter}
use Rattle.arb_model.proofs.GrantsLaws.{GrantsLeft, GrantsLeft-grant, GrantsLeft-next, GrantsLeft-start, length-granted, next_core-free}
use Rattle.arb_model.proofs.ListLaws.{get_or-each_at, length-each_at, position_or_len-lt}
use Rattle.arb_model.proofs.PlacesLaws.{held_remarked, places_granted}

-- a free core that is given to a waiting thread
pub record IsGiven (before after : Option Holder) (waiting : List ℕ) : Type 0 where
  pub thread : ℕ
  pub free : before ≡ None
  pub holder : after ≡ Some (record { thread = thread; asked = None })
  pub waited : 0 < times_waiting thread waiting

-- seats that come from others by grants
pub record ComesByGrants (s after : Seats) : Type 0 where
  pub long : length after.cores ≡ length s.cores
  pub moved : after.moved ≡ s.moved
  pub places : (thread : ℕ) → times_placed after thread ≡ times_placed s thread
  pub waiting : (thread : ℕ) → times_waiting thread after.waiting ≤ times_waiting thread s.waiting
  pub cores : (p : ℕ) → (holder_at after.cores p ≡ holder_at s.cores p) ⊎ IsGiven (holder_at s.cores p) (holder_at after.cores p) s.waiting

-- what each single grant keeps, all grants keep
granted_times_keep : (P : Seats → Type 0) (sockets : List ℕ) → ((app : ℕ) (x : Seats) → 0 < free_count x.cores → 0 < waiting_count app x.waiting → P x → P (granted sockets app x)) → (app now : ℕ) (rest : List ℕ) (s whole : Seats) → GrantsLeft sockets app now rest s whole → P s → P (granted_times sockets app now s) × GrantsLeft sockets app 0 rest (granted_times sockets app now s) whole
granted_times_keep P sockets step app zero rest s whole g p = (p, g)
granted_times_keep P sockets step app (suc now) rest s whole g p =
    let free : 0 < free_count s.cores = omega (arith, g.enough_cores) in
    let waits : 0 < waiting_count app s.waiting = omega (arith, g.enough_here) in
    granted_times_keep P sockets step app now rest (granted sockets app s) whole (GrantsLeft-grant sockets app now rest s whole g) (step app s free waits p)

granted_from_keep : (P : Seats → Type 0) (sockets : List ℕ) → ((app : ℕ) (x : Seats) → 0 < free_count x.cores → 0 < waiting_count app x.waiting → P x → P (granted sockets app x)) → (app now : ℕ) (rest : List ℕ) (s whole : Seats) → GrantsLeft sockets app now rest s whole → P s → P whole
granted_from_keep P sockets step app now [] s whole g p =
    let r = granted_times_keep P sockets step app now [] s whole g p in
    subst P r.1.result r.0
granted_from_keep P sockets step app now (next ∷ rest) s whole g p =
    let r = granted_times_keep P sockets step app now (next ∷ rest) s whole g p in
    granted_from_keep P sockets step (app + 1) next rest (granted_times sockets app now s) whole (GrantsLeft-next sockets app next rest (granted_times sockets app now s) whole r.1) r.0

pub grants_keep : (P : Seats → Type 0) (sockets due : List ℕ) (s : Seats) → length s.cores ≡ length sockets → ((app : ℕ) (x : Seats) → 0 < free_count x.cores → 0 < waiting_count app x.waiting → P x → P (granted sockets app x)) → P s → P (after_grants sockets due s)
grants_keep P sockets due s long step p =
    granted_from_keep P sockets step 0 (slice_index (grants_of s due) 0) (drop 1 (grants_of s due)) s (after_grants sockets due s) (GrantsLeft-start sockets due s (grants_of s due) (DividesEvenly-even_of _ _) long) p

pub none_since_free : (core : Option Holder) → is_free core ≡ true → core ≡ None
none_since_free core h = grind (arith, nat_tests, false≢true)

-- one grant: one free core is given to one thread that was waiting
granted_cores : (sockets : List ℕ) (app : ℕ) (s : Seats) → 0 < free_count s.cores → 0 < waiting_count app s.waiting → (p : ℕ) → (holder_at (granted sockets app s).cores p ≡ holder_at s.cores p) ⊎ IsGiven (holder_at s.cores p) (holder_at (granted sockets app s).cores p) s.waiting
unfolding granted
granted_cores sockets app s free waits p = grind (arith, nat_tests, common_steps, position_or_len-lt, next_core-free, get_or-set_other, none_since_free, get_or-set_same, get_or-le-sum_by, eq-eqb)

granted_waiting : (sockets : List ℕ) (app : ℕ) (s : Seats) → 0 < waiting_count app s.waiting → (thread : ℕ) → times_waiting thread (granted sockets app s).waiting ≤ times_waiting thread s.waiting
unfolding granted
granted_waiting sockets app s waits thread =
    let turn : ℕ = position_or_len (λ t. app_of t == app) s.waiting in
    let lt : turn < length s.waiting = position_or_len-lt (λ t. app_of t == app) s.waiting waits in
    omega (arith, sum_by-remove (λ t. one_if (t == thread)) s.waiting turn 0 lt)

granted_moved : (sockets : List ℕ) (app : ℕ) (s : Seats) → (granted sockets app s).moved ≡ s.moved
unfolding granted
granted_moved sockets app s = refl

none_not_some : {A : Type 0} (x : Option A) (a : A) → x ≡ None → x ≡ Some a → ⊥
none_not_some x a n s = false≢true (sym (ap is_some n) ∙ ap is_some s)

more_given : (before here after : Option Holder) (first now : List ℕ) → ((thread : ℕ) → times_waiting thread now ≤ times_waiting thread first) → (here ≡ before) ⊎ IsGiven before here first → (after ≡ here) ⊎ IsGiven here after now → (after ≡ before) ⊎ IsGiven before after first
more_given before here after first now fewer (inl same) (inl too) = inl (too ∙ same)
more_given before here after first now fewer (inr given) (inl too) =
    inr (record { thread = given.thread; free = given.free; holder = too ∙ given.holder; waited = given.waited })
more_given before here after first now fewer (inl same) (inr given) =
    inr (record { thread = given.thread; free = sym same ∙ given.free; holder = given.holder; waited = omega (arith, given.waited, fewer given.thread) })
more_given before here after first now fewer (inr given) (inr again) =
    absurd (none_not_some here _ again.free given.holder)

ComesByGrants-grant : (s : Seats) (sockets : List ℕ) (app : ℕ) (x : Seats) → 0 < free_count x.cores → 0 < waiting_count app x.waiting → ComesByGrants s x → ComesByGrants s (granted sockets app x)
ComesByGrants-grant s sockets app x free waits c =
    record {
      long = length-granted sockets app x ∙ c.long;
      moved = granted_moved sockets app x ∙ c.moved;
      places = λ thread. places_granted sockets app x thread free waits ∙ c.places thread;
      waiting = λ thread. omega (arith, granted_waiting sockets app x waits thread, c.waiting thread);
      cores = λ p. more_given (holder_at s.cores p) (holder_at x.cores p) (holder_at (granted sockets app x).cores p) s.waiting x.waiting c.waiting (c.cores p) (granted_cores sockets app x free waits p);
    }

pub ComesByGrants-after_grants : (sockets due : List ℕ) (s : Seats) → length s.cores ≡ length sockets → ComesByGrants s (after_grants sockets due s)
ComesByGrants-after_grants sockets due s long =
    grants_keep (ComesByGrants s) sockets due s long (ComesByGrants-grant s sockets) (record {
      long = refl;
      moved = refl;
      places = λ thread. refl;
      waiting = λ thread. omega arith;
      cores = λ p. inl refl;
    })

-- the asks change no holder
pub core_after_asks : (sockets due : List ℕ) (clock : ℕ) (cores : List (Option Holder)) (p : ℕ) → holder_at (cores_after_asks sockets due clock cores) p ≡ remarked clock (is_asked_back sockets cores due p (holder_at cores p)) (holder_at cores p)
core_after_asks sockets due clock cores p = grind (arith, nat_tests, common_steps, get_or-each_at, get_or_past, length-each_at)

pub held_after_asks : (sockets due : List ℕ) (clock : ℕ) (cores : List (Option Holder)) (p thread : ℕ) → is_held_by thread (holder_at (cores_after_asks sockets due clock cores) p) ≡ is_held_by thread (holder_at cores p)
held_after_asks sockets due clock cores p thread = grind (arith, nat_tests, core_after_asks, held_remarked)

pub free_remarked : (clock : ℕ) (asked : Bool) (core : Option Holder) → is_free (remarked clock asked core) ≡ is_free core
free_remarked clock asked core = grind (arith, nat_tests)

-- the cores after an order's own change
pub core_own_change : (m : Machine) (s : Standing) (client : ℕ) (order : Order) (p : ℕ) → holder_at (own_change m s client order).seats.cores p ≡ free_if (loses m client order) (holder_at s.seats.cores p)
core_own_change m s client order p = grind (arith, nat_tests, common_steps)

-- who waits after an order's own change
pub fewer_wait : (goes : ℕ → Bool) (thread : ℕ) (waiting : List ℕ) → times_waiting thread (filter (λ t. not (goes t)) waiting) ≤ times_waiting thread waiting
fewer_wait goes thread waiting = grind (arith, nat_tests, common_steps, count_by_filter, sum_by-le-sum_by)

pub waiting_own_change : (m : Machine) (s : Standing) (client : ℕ) (order : Order) (thread : ℕ) → 0 < times_waiting thread (own_change m s client order).seats.waiting → (0 < times_waiting thread s.seats.waiting) ⊎ ((thread ≡ client) × (order ≡ Block))
waiting_own_change m s client Join thread h = inl h
waiting_own_change m s client (Ask request) thread h = inl h
waiting_own_change m s client (Cap cap) thread h = inl h
waiting_own_change m s client Block thread h =
    elim (cases_eq thread client) [
      | inl e ↦ inr (e, refl)
      | inr ne ↦
          let apart : (client == thread) ≡ false = ne_eqb client thread (λ e. ne (sym e)) in
          inl (omega (arith, h, fewer_wait (λ t. t == client) thread s.seats.waiting, sum_by_push (λ t. one_if (t == thread)) (filter (λ t. not (t == client)) s.seats.waiting) client, ap one_if apart))
    ]
waiting_own_change m s client Retire thread h = inl (omega (arith, h, fewer_wait (λ t. t == client) thread s.seats.waiting))
waiting_own_change m s client Leave thread h = inl (omega (arith, h, fewer_wait (λ t. app_of t == app_of client) thread s.seats.waiting))
waiting_own_change m s client Status thread h = inl h
waiting_own_change m s client (Tick moment) thread h = inl h
