-- Laws of asking cores back: which are asked of an application, one at a time, and from one application after another.
use Rattle.arb_seats.proofs.Words.{Cores, ◌≡◌, ℕ, ◌-◌, ◌<◌, ◌≤◌, List, length, map, arith, ◌∙◌, Option, Bool, true, false, is_some, unwrap_or, ◌+◌, set, refl, Some, None, cond, zero, suc, nat_lt}
use Rattle.arb_seats.proofs.Words.{◌==◌, if◌then◌else◌, not, nat_le, MatchOption, has_bit, word_size, inl, inr, cases_lt}
use Rattle.arb_seats.proofs.Words.{slice_index, ◌&&◌, false≢true, lt-ltb, ext_get_or, get_or_past, length-map, get_or-set_other, get_or-set_same, length-set, Holder, IsNextToAsk, IsNextToSpare}
use Rattle.arb_seats.proofs.Words.{asked_app, count_below, Precedes, PicksLeast, is_set, key_at, asked_count, holder_at, is_asked, is_of, owned, owned_on, app_of, count_below-none, get_or-each_at}
use Rattle.arb_seats.proofs.Words.{get_or-map, length-each_at, socket_by_position, asked_since, AreThreads, ShownSeats, nat_tests, applications}
use Rattle.arb_seats.proofs.Words.{NextToSpare}
use Rattle.arb_seats.proofs.LoopLaws.{FirstFrom, UpTo}
use Rattle.arb_seats.proofs.BitsLaws.{FirstOf}
use Rattle.arb_model.specs.Asks.{ask_key, ask_keys, asked_of, remarked, cores_after_asks, is_asked_back}
use Rattle.arb_model.proofs.LeastLaws.{PicksLeast-least_of, least_of-only}
use Rattle.arb_model.proofs.CountLaws.{count_below-flags, count_below-same, count_below-smaller, count_below-one_less}
use Rattle.arb_seats.proofs.PlaceWordsLaws.{held_within}
use Rattle.arb_model.proofs.OwnersLaws.{core_after_asks}

-- whether an application owns the core at a position, and whether that core is asked back
abbrev pub IsOwn : ℕ → Cores → ℕ → Type 0
IsOwn app cores p = is_of app (holder_at cores p) ≡ true

abbrev pub IsAsked : Cores → ℕ → Type 0
IsAsked cores p = is_asked (holder_at cores p) ≡ true

abbrev pub IsUnasked : Cores → ℕ → Type 0
IsUnasked cores p = is_asked (holder_at cores p) ≡ false

-- an owned core has a place
pub own_inside : (app : ℕ) (cores : Cores) (p : ℕ) → IsOwn app cores p → p < length cores
own_inside app cores p own = grind (arith, get_or_past)

flag_of_own : (app : ℕ) (cores : Cores) (p : ℕ) → is_set (map (is_of app) cores) p ≡ is_of app (holder_at cores p)
flag_of_own app cores p = grind (arith, get_or-map, length-map, get_or_past)

-- whether an application owns a core that is asked
abbrev pub is_asked_own : ℕ → Cores → ℕ → Bool
is_asked_own app cores p = is_of app (holder_at cores p) && is_asked (holder_at cores p)

-- two lists of cores with the same owners
pub record SameOwners (before after : Cores) : Type 0 where
  pub one_each : length after ≡ length before
  pub same : (app p : ℕ) → is_of app (holder_at after p) ≡ is_of app (holder_at before p)

-- what an application owns on a socket stays
owned_on-kept : (sockets : List ℕ) (app socket : ℕ) (before after : Cores) → SameOwners before after → owned_on sockets after app socket ≡ owned_on sockets before app socket
owned_on-kept sockets app socket before after s = grind arith

module _ (sockets : List ℕ) (cores : Cores) where
  -- the core at p is asked before the core at q
  abbrev pub AskedFirst : ℕ → ℕ → Type 0
  AskedFirst p q = Precedes (ask_key sockets cores p (holder_at cores p)) p (ask_key sockets cores q (holder_at cores q)) q

  key_is : (p : ℕ) → p < length cores → key_at (ask_keys sockets cores) p ≡ ask_key sockets cores p (holder_at cores p)
  key_is p inside = grind (arith, get_or-each_at)

  module _ (app due : ℕ) where
    -- whether a core is to be asked of the application
    abbrev pub is_to_ask : ℕ → Bool
    is_to_ask p = is_set (asked_of sockets cores app due) p

    -- the application's cores that are asked first
    abbrev AreFirst : List Bool → Type 0
    AreFirst picked = PicksLeast (ask_keys sockets cores) (map (is_of app) cores) (owned app cores - due) picked

    picks : AreFirst (asked_of sockets cores app due)
    unfolding asked_of
    picks = PicksLeast-least_of _ _ _

    only : (picked : List Bool) → AreFirst picked → picked ≡ asked_of sockets cores app due
    unfolding asked_of
    only picked l = least_of-only _ _ _ picked l

    own_asked : (p : ℕ) → is_to_ask p ≡ true → IsOwn app cores p
    own_asked p on = grind (arith, flag_of_own, picks.among p on)

    as_many : count_below is_to_ask (length cores) ≡ owned app cores - due
    as_many =
        let own : List Bool = map (is_of app) cores in
        let same = count_below-same (is_set own) (λ p. is_of app (holder_at cores p)) (length cores) (λ p less. flag_of_own app cores p) in
        grind (arith, own, length-map, count_below-flags own, count_below-flags (asked_of sockets cores app due), picks.one_each, picks.as_many)

    asked_before : (p q : ℕ) → is_to_ask p ≡ true → IsOwn app cores q → is_to_ask q ≡ false → AskedFirst p q
    asked_before p q on own off = grind (arith, key_is, own_inside, own_asked p on, flag_of_own, picks.least p q on)

    -- no asked core stays behind while an unasked one is to be asked
    not_both : (p q : ℕ) → IsOwn app cores p → IsAsked cores p → is_to_ask p ≡ false → is_to_ask q ≡ true → IsUnasked cores q → ⊥
    not_both p q own asked off on unasked = grind (arith, false≢true, is_some, asked_before q p on own off)

    -- while no fewer are to be asked than are, the asked ones stay asked
    pub asked_of-asked : (p : ℕ) → asked_count app cores ≤ owned app cores - due → IsOwn app cores p → IsAsked cores p → is_to_ask p ≡ true
    asked_of-asked p few own asked = grind (arith, as_many, own_inside, count_below-smaller is_to_ask (is_asked_own app cores) (length cores) p, own_asked, not_both p)

    -- while no more are to be asked than are, only asked ones stay asked
    pub asked_of-only_asked : (p : ℕ) → owned app cores - due ≤ asked_count app cores → is_to_ask p ≡ true → IsAsked cores p
    asked_of-only_asked p many on = grind (arith, as_many, own_inside, count_below-smaller (is_asked_own app cores) is_to_ask (length cores) p, own_asked, not_both)

module _ (sockets : List ℕ) (before after : Cores) (s : SameOwners before after) where
  -- two cores that didn't change keep their order
  pub AskedFirst-kept : (p q : ℕ) → holder_at after p ≡ holder_at before p → holder_at after q ≡ holder_at before q → AskedFirst sockets after p q → AskedFirst sockets before p q
  AskedFirst-kept p q hp hq first = grind (arith, owned_on-kept)

  -- where the cores asked after a change come first before it too, they are the ones asked before it
  pub asked_of-kept : (app due : ℕ)
      → ((p q : ℕ) → IsOwn app before p → IsOwn app before q → is_to_ask sockets after app due p ≡ true → is_to_ask sockets after app due q ≡ false → AskedFirst sockets after p q
      → AskedFirst sockets before p q) → asked_of sockets after app due ≡ asked_of sockets before app due
  asked_of-kept app due first =
      let flags : map (is_of app) after ≡ map (is_of app) before = ext_get_or false _ _ (grind (arith, length-map)) (λ p lt. grind (arith, flag_of_own, s.same app p)) in
      let new = picks sockets after app due in
      only sockets before app due (asked_of sockets after app due) (record {
        one_each = grind arith;
        among = grind arith;
        as_many = grind arith;
        least = λ p q hp cq lq. grind (arith, key_is, own_inside, own_asked, flag_of_own app before q, asked_before sockets after app due p q hp);
      })

module _ (sockets : List ℕ) (app due clock : ℕ) (cores : Cores) where
  -- the asks of an application keep the number of cores
  pub length-asked_app : length (asked_app sockets app due clock cores) ≡ length cores
  length-asked_app = length-each_at _ 0 cores

  -- the core at a position after the asks of one application
  pub asked_app-at : (p : ℕ) → p < length cores
      → holder_at (asked_app sockets app due clock cores) p
      ≡ cond (is_of app (holder_at cores p)) (remarked clock (is_to_ask sockets cores app due p) (holder_at cores p)) (holder_at cores p)
  asked_app-at p inside = grind (arith, get_or-each_at)

  -- where as many are asked as are to be, the asks change nothing
  pub asked_app-done : asked_count app cores ≡ owned app cores - due → asked_app sockets app due clock cores ≡ cores
  asked_app-done even = ext_get_or None _ _ length-asked_app (λ p lt.
      grind (arith, cond, is_some, unwrap_or, asked_app-at, length-asked_app, asked_of-asked sockets cores app due p, asked_of-only_asked sockets cores app due p))

-- where some are asked, not all are unasked
pub some_asked : (app : ℕ) (cores : Cores) → 0 < asked_count app cores → ((q : ℕ) → q < length cores → IsOwn app cores q → IsUnasked cores q) → ⊥
some_asked app cores some none = grind (arith, count_below-none)

-- the asking of the holder on one core is replaced
module _ (cores : Cores) (p : ℕ) (holder : Holder) (e : holder_at cores p ≡ Some holder) (asked : Option ℕ) where
  abbrev after : Cores
  after = set cores p (asked_since holder asked)

  here : holder_at after p ≡ asked_since holder asked
  here = grind (arith, get_or-set_same, held_within cores p holder e)

  other : (q : ℕ) → (q ≡ p → ⊥) → holder_at after q ≡ holder_at cores q
  other q ne = get_or-set_other cores p q _ None ne

  -- that changes no owner
  owners : SameOwners cores after
  owners = grind (arith, length-set, here, other)

  -- an application's cores are asked back alike, where the cores that are asked now come first before, and this one comes out alike
  asked_app-same : (sockets : List ℕ) (app due clock : ℕ)
      → ((r q : ℕ) → IsOwn app cores r → IsOwn app cores q → is_to_ask sockets after app due r ≡ true → is_to_ask sockets after app due q ≡ false → AskedFirst sockets after r q
      → AskedFirst sockets cores r q) → IsOwn app cores p
      → remarked clock (is_to_ask sockets after app due p) (holder_at cores p) ≡ remarked clock (is_to_ask sockets after app due p) (asked_since holder asked)
      → asked_app sockets app due clock cores ≡ asked_app sockets app due clock after
  asked_app-same sockets app due clock first own alike =
      let flags = asked_of-kept sockets cores after owners app due first in
      ext_get_or None _ _ (grind (arith, length-asked_app, owners)) (λ q lt. grind (arith, asked_app-at, length-asked_app, owners, other q, here, cond))

-- one more of an application's cores is asked, or one fewer
pub asked_count-ask : (app : ℕ) (cores : Cores) (p : ℕ) (holder : Holder) (clock : ℕ) → holder_at cores p ≡ Some holder → IsOwn app cores p → IsUnasked cores p
    → asked_count app (set cores p (asked_since holder (Some clock))) ≡ asked_count app cores + 1
asked_count-ask app cores p holder clock e own unasked =
    grind (arith, count_below-one_less (is_asked_own app (after cores p holder e (Some clock))) (is_asked_own app cores) p (length cores), length-set, held_within, here, other)

pub asked_count-spare : (app : ℕ) (cores : Cores) (p : ℕ) (holder : Holder) → holder_at cores p ≡ Some holder → IsOwn app cores p → IsAsked cores p
    → asked_count app (set cores p (asked_since holder None)) + 1 ≡ asked_count app cores
asked_count-spare app cores p holder e own asked =
    grind (arith, count_below-one_less (is_asked_own app cores) (is_asked_own app (after cores p holder e None)) p (length cores), length-set, held_within, here, other)

module _ (sockets : List ℕ) (app due clock : ℕ) (cores : Cores) (p : ℕ) (holder : Holder) (e : holder_at cores p ≡ Some holder) where
  -- where more are to be asked than are, asking the next one first leads to the same
  pub asked_app-ask : asked_count app cores < owned app cores - due → IsNextToAsk sockets cores app (length cores) p
      → asked_app sockets app due clock cores ≡ asked_app sockets app due clock (set cores p (asked_since holder (Some clock)))
  asked_app-ask fewer n =
      let now : Cores = after cores p holder e (Some clock) in
      let few : asked_count app now ≤ owned app now - due = grind (arith, owners, asked_count-ask app cores p holder clock e n.is_own n.is_left) in
      let is_in : is_to_ask sockets now app due p ≡ true = grind (arith, owners, here, asked_of-asked sockets now app due p few) in
      asked_app-same cores p holder e (Some clock) sockets app due clock
      (λ r q own_r own_q on off first. grind (arith, owners, other, asked_of-asked sockets now app due q few, AskedFirst-kept, false≢true, own_inside)) n.is_own
      (grind arith)

  -- where fewer are to be asked than are, sparing the next one first leads to the same
  pub asked_app-spare : owned app cores - due < asked_count app cores → IsNextToSpare cores app (length cores) p
      → asked_app sockets app due clock cores ≡ asked_app sockets app due clock (set cores p (asked_since holder None))
  asked_app-spare more n =
      let now : Cores = after cores p holder e None in
      let many : owned app now - due ≤ asked_count app now = grind (arith, owners, asked_count-spare app cores p holder e n.is_own n.is_back) in
      let is_out : is_to_ask sockets now app due p ≡ false = grind (arith, here, asked_of-only_asked sockets now app due p many) in
      asked_app-same cores p holder e None sockets app due clock
      (λ r q own_r own_q on off first. grind (arith, owners, other, asked_of-only_asked sockets now app due r many, own_inside)) n.is_own (grind arith)

-- the same machine with other cores
abbrev pub with_cores : ShownSeats → Cores → ShownSeats
with_cores f cores = record f { seats = record f.seats { cores = cores } }

-- the next to spare of the cores up to one is that of all before the next one that is asked
pub spare_on : (cores : Cores) (app position : ℕ) (next at : Option ℕ) → position < length cores → NextToSpare cores app (position + 1) next → FirstFrom (length cores) (position + 1) (is_asked_own app cores) at
    → UpTo (length cores) (λ n. NextToSpare cores app n next) at × MatchOption at (Unit {0}) (λ q. is_asked_own app cores q ≡ true)
spare_on cores app position next None inside spare none = (grind (arith, nat_tests), tt)
spare_on cores app position next (Some q) inside spare first = ((first.1.0, grind (arith, nat_tests)), first.1.1.0)

-- an application's cores are being asked back: `asked` of them are asked, `over` are to be, and its asks still lead to the same
pub record AskingLeft (app due clock over asked : ℕ) (from now : ShownSeats) : Type 0 where
  pub over_due : over ≡ owned app now.seats.cores - due
  pub asked_so_far : asked ≡ asked_count app now.seats.cores
  pub result : asked_app (socket_by_position from.machine) app due clock now.seats.cores ≡ asked_app (socket_by_position from.machine) app due clock from.seats.cores
  pub rest : now ≡ with_cores from now.seats.cores

-- all that are to be asked are
pub AskingLeft-end : {app due clock over asked : ℕ} {from now : ShownSeats} → AskingLeft app due clock over asked from now → asked ≡ over
    → now ≡ with_cores from (asked_app (socket_by_position from.machine) app due clock from.seats.cores)
AskingLeft-end l even = grind (arith, asked_app-done)

-- whether a core's owner is below n
abbrev pub is_below : ℕ → Option Holder → Bool
is_below n None = false
is_below n (Some holder) = nat_lt (app_of holder.thread) n

module _ (sockets due : List ℕ) (clock : ℕ) (cores : Cores) where
  -- the cores after the asks of the applications below n, one after another
  abbrev pub asked_apps : ℕ → Cores
  asked_apps zero = cores
  asked_apps (suc n) = asked_app sockets n (slice_index due n) clock (asked_apps n)

  -- a core after the asks of the applications below n
  abbrev pub asked_below : (n p : ℕ) → Option Holder → Option Holder
  asked_below n p o = cond (is_below n o) (remarked clock (is_asked_back sockets cores due p o) o) o

  -- the cores after the asks of the applications below n
  pub record AskedBelow (n : ℕ) : Type 0 where
    pub one_each : length (asked_apps n) ≡ length cores
    pub each : (p : ℕ) → p < length cores → holder_at (asked_apps n) p ≡ asked_below n p (holder_at cores p)

  AskedBelow-more : (n : ℕ) → AskedBelow n → AskedBelow (suc n)
  AskedBelow-more n b =
      let mid : Cores = asked_apps n in
      let s : SameOwners cores mid = grind (arith, get_or_past) in
      let flags = asked_of-kept sockets cores mid s n (slice_index due n) (λ p q own_p own_q on off first. grind (arith, AskedFirst-kept sockets cores mid s p q, own_inside, nat_tests)) in
      record {
        one_each = grind (arith, length-asked_app);
        each = grind (arith, asked_app-at);
      }

  AskedBelow-all : (n : ℕ) → AskedBelow n
  AskedBelow-all zero = grind (arith, nat_tests)
  AskedBelow-all (suc n) = AskedBelow-more n (AskedBelow-all n)

  -- the asks of all applications are those of one after another
  pub cores_after_asks-apps : (n : ℕ) → n ≡ applications → AreThreads cores → cores_after_asks sockets due clock cores ≡ asked_apps n
  cores_after_asks-apps n is threads =
      let b = AskedBelow-all n in
      ext_get_or None _ _ (grind (arith, length-each_at)) (λ p lt. grind (arith, core_after_asks, length-each_at, lt-ltb, b.each p))

  -- whether another number of an application's cores is asked than is to be
  abbrev pub is_uneven : ℕ → Bool
  is_uneven app = nat_lt app applications && not (asked_count app cores == (owned app cores - slice_index due app))

  -- the asks of the applications before one leave its own cores alone
  own_kept : (n app p : ℕ) → n ≤ app → p < length cores → (is_of app (holder_at (asked_apps n) p) ≡ is_of app (holder_at cores p)) × (is_asked_own app (asked_apps n) p ≡ is_asked_own app cores p)
  own_kept n app p le inside = grind (arith, nat_tests, cond, (AskedBelow-all n).each p inside)

  -- so an even application needs no turn
  asked_apps-skip : (n : ℕ) → asked_count n cores ≡ owned n cores - slice_index due n → asked_apps (suc n) ≡ asked_apps n
  asked_apps-skip n even =
      let long : length (asked_apps n) ≡ length cores = (AskedBelow-all n).one_each in
      let own : owned n (asked_apps n) ≡ owned n cores = rw long (count_below-same _ _ (length cores) (λ p less. (own_kept n n p (omega arith) less).0)) in
      let back : asked_count n (asked_apps n) ≡ asked_count n cores = rw long (count_below-same _ _ (length cores) (λ p less. (own_kept n n p (omega arith) less).1)) in
      asked_app-done sockets n (slice_index due n) clock (asked_apps n) (omega (arith, even, own, back))

  -- and those between two uneven ones need none
  pub asked_apps-even : (n m : ℕ) → n ≤ m → m ≤ applications → ((app : ℕ) → n ≤ app → app < m → is_uneven app ≡ false) → asked_apps m ≡ asked_apps n
  asked_apps-even n zero le few even = let e : n ≡ 0 = omega arith in rw e refl
  asked_apps-even n (suc m) le few even =
      elim (cases_lt m n) [
        | inl past ↦ let e : n ≡ suc m = omega arith in rw e refl
        | inr before ↦ asked_apps-skip m (grind (arith, nat_tests, even m before (omega arith))) ∙ asked_apps-even n m before (omega arith) (λ app low less. even app low (omega arith))
      ]

  -- the uneven applications from one on are left
  abbrev pub AreUneven : (n word : ℕ) → Type 0
  AreUneven n word = (p : ℕ) → p < word_size → has_bit word p ≡ (nat_le n p && is_uneven p)

  -- the first of these, or the number of applications
  abbrev pub first_left : Option ℕ → ℕ
  first_left None = applications
  first_left (Some app) = app

  first_bounds : (n word : ℕ) (next : Option ℕ) → n ≤ applications → AreUneven n word → FirstOf word next → (n ≤ first_left next) × (first_left next ≤ applications)
  first_bounds n word None few left none = (few, omega arith)
  first_bounds n word (Some q) few left first = grind (arith, nat_tests, left q first.0, first.1.0)

  -- what is left from the first one on, where those before it are even
  first_uneven : (n word : ℕ) (next : Option ℕ) → AreUneven n word → FirstOf word next → AreUneven (first_left next) word × ((app : ℕ) → n ≤ app → app < first_left next → is_uneven app ≡ false)
  first_uneven n word None left none = (λ p low. grind (arith, nat_tests, none p), λ app from less. grind (arith, nat_tests, none app, left app (omega arith)))
  first_uneven n word (Some q) left first = (λ p low. grind (arith, nat_tests, first, left p low), λ app from less. grind (arith, nat_tests, first, left app (omega (arith, first.0))))

  -- the turns up to the first uneven one are those of the applications before n
  pub turns_to : (n word : ℕ) (next : Option ℕ) → n ≤ applications → AreUneven n word → FirstOf word next → (asked_apps (first_left next) ≡ asked_apps n) × AreUneven (first_left next) word
  turns_to n word next few left first =
      let between = first_uneven n word next left first in
      let bounds : (n ≤ first_left next) × (first_left next ≤ applications) = first_bounds n word next few left first in
      (asked_apps-even n (first_left next) bounds.0 bounds.1 between.1, between.0)

  -- what is left once an application had its turn
  pub left_after : (app word after : ℕ) → AreUneven app word → ((p : ℕ) → p < word_size → has_bit after p ≡ (if p == app then false else has_bit word p)) → AreUneven (suc app) after
  left_after app word after left put = λ p low. grind (arith, nat_tests, left p low, put p low)
