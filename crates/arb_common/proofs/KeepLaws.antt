-- Each step keeps the rule. Nothing here opens what a legal history or a reading is.
use Rattle.std.proofs.Common.{◌≡◌, ◌≢◌, ℕ, zero, suc, ◌+◌, ◌<◌, ◌≤◌, Bool, List, [], ◌∷◌, ◌++◌, ◌==◌, length, set, replicate, true, false, true≢false, refl, sym, ap, ◌∙◌, subst, inl, inr, eq-eqb, ne_eqb, length-append, arith}
use Rattle.std.specs.Prelude.{MatchBool, slice_index}
use Rattle.std.proofs.lemmas.Bool.{cases_eq}
use Rattle.std.proofs.lemmas.List.{length-set, length-replicate, set-get_or, get_or-set_same, get_or-set_other, get_or-replicate}
use mathlib.Core.Option.{none, some, some-injective, some-ne-none}
use mathlib.Core.List.{IsPrefix}
use lib.ListN.{get_elem?}
use prog.Atomic.{either}
use Rattle.atomic_table.specs.Table.{Act, Me, State, keeps, takes, gives, step, stepped, carried_after, Valid, Allows, Joins, Splits, opening}
use Rattle.atomic_table.proofs.Lists.{at_set}
use Rattle.arb_config.specs.Machine.{Machine}
use Rattle.arb_model.specs.declared.orders.Event.{Event}
use Rattle.arb_model.specs.Arbiter.{Arbiter, IsArbiter, opening_arbiter}
use Rattle.arb_model.specs.Layout.{word_count}
use Rattle.arb_model.specs.History.{History, IsLegal, IsSettled, MayFollow, orders_in}
use Rattle.arb_model.specs.Reading.{reading, word_written}
use Rattle.arb_model.proofs.LegalLaws.{legal_empty, legal_next}
use Rattle.arb_model.proofs.OpeningLaws.{opening_settled}
use Rattle.arb_model.proofs.MemoryLaws.{stored_are_readings, zeros_are_readings}
use Rattle.arb_model.proofs.PrefixLaws.{prefix_more, prefix_of_nil, prefix_self}
use Rattle.arb_model.proofs.SettlingLaws.{states_begin}
use Rattle.arb_common.specs.declared.table.Own.{Own}
use Rattle.arb_common.specs.declared.table.SeatView.{SeatView}
use Rattle.arb_common.specs.Places.{mine_after, givers_after, places_from}
use Rattle.arb_common.specs.Limits.{StandsAt, with_limit}
use Rattle.arb_common.specs.Views.{HasLock, copied, found_busy, free_view, lock_seat, lock_view, newcomer, one_step, own_with, spent, told_by}
use Rattle.arb_common.specs.Steps.{Appends, Checks, GivesUp, Looked, Looks, Taken, Takes}
use Rattle.arb_common.specs.Rule.{Fits, SharesOneHistory, Shows}
use Rattle.arb_common.proofs.RenewedLaws.{stands_begin}
use Rattle.arb_common.proofs.PlaceLaws.{at_below, at_snoc_index, counted_after, other_after, own_after}

-- a seat without the lock that has seen a prefix fits
fits_free : (m : Machine) (h seen : History) (givers : List ℕ) (own : Own) (lock locker seat : ℕ) → IsPrefix seen h → own.mine ≡ places_from seat 0 givers → Fits m h givers lock locker seat (free_view m seen own)
fits_free m h seen givers own lock locker seat p is = record { machine = λ _. refl; seen = p; told = prefix_of_nil h; mine = is; holds = λ e. absurd (true≢false (sym e)) }

-- a view that is a step older fits as well
fits_step : (m : Machine) (h : History) (givers : List ℕ) (lock locker seat : ℕ) (v : SeatView) → Fits m h givers lock locker seat v → Fits m h givers lock locker seat (copied v)
fits_step m h givers lock locker seat v f = record { machine = f.machine; seen = f.seen; told = f.told; mine = f.mine; holds = f.holds }

-- one seat has a new view, and all fit
fits_set : (m : Machine) (h : History) (givers : List ℕ) (lock locker : ℕ) (views : List SeatView) (seat : ℕ) (w : SeatView)
    → ((j : ℕ) (u : SeatView) → j ≢ seat → get_elem? views j ≡ some u → Fits m h givers lock locker j u) → Fits m h givers lock locker seat w
    → (j : ℕ) (u : SeatView) → get_elem? (set views seat w) j ≡ some u → Fits m h givers lock locker j u
fits_set m h givers lock locker views seat w others mine j u e =
    elim (at_set views seat j w u e) [
      | inl x ↦ rw (x.0, ← x.1) mine
      | inr x ↦ others j u x.0 x.1
    ]

-- no seat to come has an entry, also where one seat has a new view
fresh_set : (givers : List ℕ) (views : List SeatView) (seat : ℕ) (w : SeatView) → ((j : ℕ) → length views ≤ j → places_from j 0 givers ≡ []) → (j : ℕ) → length (set views seat w) ≤ j → places_from j 0 givers ≡ []
fresh_set givers views seat w fresh j past = fresh j (omega (arith, past, length-set views seat w))

set_only : {A : Type 0} (l : List A) (a : A) → length l ≡ 1 → set l 0 a ≡ a ∷ []
set_only [] a e = absurd (omega arith)
set_only (x ∷ []) a e = refl
set_only (x ∷ y ∷ l) a e = absurd (omega arith)

-- a word that is stored as it was
shows_same : (words : List ℕ) (h : History) (lock i : ℕ) → Shows words h lock → Shows (set words i (slice_index words i)) h lock
shows_same words h lock i s = subst (λ ws. Shows ws h lock) (sym (set-get_or words i 0)) s

-- another lock
shows_lock : (words : List ℕ) (h : History) (lock n : ℕ) → Shows words h lock → Shows (set words word_count n) h n
shows_lock words h lock n s = record {
  count = length-set words word_count n ∙ s.count;
  pages = λ w low. get_or-set_other words word_count w n 0 (λ e. omega (arith, e, low)) ∙ s.pages w low;
  lock_word = get_or-set_same words word_count n 0 (omega (arith, s.count));
}

-- the word that an event writes is stored
shows_event : (words : List ℕ) (h : History) (lock i n : ℕ) (e : Event) → i ≡ word_written e → i < word_count → n ≡ reading (h ++ e ∷ []) i → Shows words h lock → Shows (set words i n) (h ++ e ∷ []) lock
shows_event words h lock i n e own low is s = record {
  count = length-set words i n ∙ s.count;
  pages = stored_are_readings words h i n e own (omega (arith, s.count, low)) is s.pages;
  lock_word = get_or-set_other words i word_count n 0 (λ x. omega (arith, x, low)) ∙ s.lock_word;
}

-- the rule holds of the first table
pub opens : (t : Machine) (limit : ℕ) → IsArbiter (opening_arbiter t) → SharesOneHistory (with_limit t limit) (opening (replicate (word_count + 1) 0) (opening_arbiter t ∷ []) (free_view (with_limit t limit) [] newcomer))
opens t limit is = let m : Machine = with_limit t limit in record {
  history = [];
  legal = legal_empty m;
  lock = 0;
  locker = 0;
  words = record {
    count = length-replicate {A = ℕ} (word_count + 1) 0;
    pages = zeros_are_readings (word_count + 1) (omega arith);
    lock_word = get_or-replicate (word_count + 1) word_count 0 0 (omega arith);
  };
  givers = [];
  counted = refl;
  fresh = λ _ _. refl;
  rest = λ _. record { arbiter = opening_arbiter t; home = refl; stands = stands_begin t limit is; settled = rw (states_begin m) (opening_settled m) };
  views = one m;
}
  where
    one : (m : Machine) (seat : ℕ) (v : SeatView) → get_elem? (free_view m [] newcomer ∷ []) seat ≡ some v → Fits m [] [] 0 0 seat v
    one m zero v e = subst (Fits m [] [] 0 0 0) (some-injective _ _ e) (fits_free m [] [] [] newcomer 0 0 0 (prefix_self []) refl)
    one m (suc seat) v e = absurd (some-ne-none v (sym e))

-- a copy of what was seen
pub copies : (m : Machine) (id : ℕ) (v : SeatView) → v.spent ≡ false → Splits (SharesOneHistory m) id v (copied v) (free_view v.machine v.seen newcomer)
copies m id v lives s kept at =
    let h : History = kept.history in
    let mine = kept.views id v at in
    let left : SeatView = copied v in
    let same_length = length-set s.views id left in record {
      history = h;
      legal = kept.legal;
      lock = kept.lock;
      locker = kept.locker;
      words = kept.words;
      givers = kept.givers;
      counted = kept.counted;
      fresh = λ j past. kept.fresh j (omega (arith, past, same_length, length-append (set s.views id left) (free_view v.machine v.seen newcomer ∷ [])));
      rest = kept.rest;
      views = λ j u e.
          elim (at_snoc_index (set s.views id left) (free_view v.machine v.seen newcomer) u j e) [
            | inl was ↦ fits_set m h kept.givers kept.lock kept.locker s.views id left (λ k x _ e'. kept.views k x e') (fits_step m h kept.givers kept.lock kept.locker id v mine) j u was
            | inr new ↦ let past = new.1 in rw (← new.0, mine.machine lives) (fits_free m h v.seen kept.givers newcomer kept.lock kept.locker j mine.seen (sym (kept.fresh j (omega (arith, past, same_length)))))
          ];
    }

-- what another seat, which entered nothing, has seen is told
pub tells : (m : Machine) (id : ℕ) (v : SeatView) (other : ℕ) (u : SeatView) → u.own.mine ≡ [] → Joins (SharesOneHistory m) id v other u (told_by v u) spent
tells m id v other u nothing s kept at apart there =
    let h : History = kept.history in
    let both : SeatView = told_by v u in
    let mine = kept.views id v at in
    let theirs : Fits m h kept.givers kept.lock kept.locker other u = elim (at_set s.views id other both u there) [ inl t ↦ absurd (apart t.0) | inr t ↦ kept.views other u t.1 ] in record {
      history = h;
      legal = kept.legal;
      lock = kept.lock;
      locker = kept.locker;
      words = kept.words;
      givers = kept.givers;
      counted = kept.counted;
      fresh = fresh_set kept.givers (set s.views id both) other spent (fresh_set kept.givers s.views id both kept.fresh);
      rest = kept.rest;
      views = fits_set m h kept.givers kept.lock kept.locker (set s.views id both) other spent
          (λ j x _ e. fits_set m h kept.givers kept.lock kept.locker s.views id both (λ i y _ e'. kept.views i y e') (record { machine = mine.machine; seen = mine.seen; told = theirs.seen; mine = mine.mine; holds = mine.holds }) j x e)
          (record { machine = λ e. absurd (true≢false e); seen = prefix_of_nil h; told = prefix_of_nil h; mine = sym nothing ∙ theirs.mine; holds = λ e. absurd (true≢false (sym e)) });
    }

-- a load shows the history so far
pub looks : (m : Machine) (slots id i : ℕ) (me : Me Arbiter SeatView) → me.1 ≡ [] → me.0.spent ≡ false → i < word_count
    → Allows (SharesOneHistory m) slots id me i (λ n. n) (Looks (step slots i 0 0 none) me)
looks m slots id i me none_held lives low s kept homes at small =
    let h : History = kept.history in
    let mine = kept.views id me.0 at in
    let now : SeatView = free_view m h (one_step me.0.own) in (
      now,
      keeps,
      tt,
      record {
        history = h;
        legal = kept.legal;
        lock = kept.lock;
        locker = kept.locker;
        words = shows_same s.words h kept.lock i kept.words;
        givers = kept.givers;
        counted = kept.counted;
        fresh = fresh_set kept.givers s.views id now kept.fresh;
        rest = kept.rest;
        views = fits_set m h kept.givers kept.lock kept.locker s.views id now (λ j u _ e. kept.views j u e) (fits_free m h h kept.givers (one_step me.0.own) kept.lock kept.locker id (prefix_self h) mine.mine);
      },
      subst (λ k. Looked k i me.0 (slice_index s.words i) (now, me.1)) (sym (mine.machine lives))
          (record { seat = ap (λ c. (now, c)) none_held; value = kept.words.pages i low; later = mine.seen; told = mine.told; legal = kept.legal }),
    )

-- a load by the seat that has the lock shows a reading of what it has seen
pub checks : (m : Machine) (slots id i : ℕ) (me : Me Arbiter SeatView) → me.0.holds ≡ true → i < word_count
    → Allows (SharesOneHistory m) slots id me i (λ n. n) (Checks (step slots i 0 0 none) me)
checks m slots id i me on low s kept homes at small =
    let mine = kept.views id me.0 at in
    let now : SeatView = copied me.0 in (
      now,
      keeps,
      tt,
      record {
        history = kept.history;
        legal = kept.legal;
        lock = kept.lock;
        locker = kept.locker;
        words = shows_same s.words kept.history kept.lock i kept.words;
        givers = kept.givers;
        counted = kept.counted;
        fresh = fresh_set kept.givers s.views id now kept.fresh;
        rest = kept.rest;
        views = fits_set m kept.history kept.givers kept.lock kept.locker s.views id now (λ j u _ e. kept.views j u e) (fits_step m kept.history kept.givers kept.lock kept.locker id me.0 mine);
      },
      (refl, kept.words.pages i low ∙ ap (λ l. reading l i) (sym (mine.holds on).1)),
    )

-- what a try at the lock has to give, where the lock is n and the test says b
abbrev Tried : Machine → State Arbiter SeatView → ℕ → Me Arbiter SeatView → ℕ → Bool → Type 0
Tried m s id me n b =
    (w : SeatView) × (a : Act Arbiter) × Valid s.homes me.1 a × SharesOneHistory m (stepped s word_count (either b 1 n) id me.1 w a)
    × MatchBool b (Taken me.0.machine me.0.seen me.0.own (w, carried_after me.1 a)) (◌≡◌ {A = Me Arbiter SeatView} (w, carried_after me.1 a) (record me.0 { own = found_busy me.0.own }, me.1))

pub tries : (m : Machine) (slots id : ℕ) (me : Me Arbiter SeatView) → me.1 ≡ [] → me.0.spent ≡ false
    → Allows (SharesOneHistory m) slots id me word_count (λ n. either (n == 0) 1 n) (Takes (step slots word_count 0 1 none) me)
tries m slots id me none_held lives s kept homes at small =
    let h : History = kept.history in
    let mine = kept.views id me.0 at in
    let now : SeatView = lock_view m h (one_step me.0.own) in
    let tried : SeatView = record me.0 { own = found_busy me.0.own } in
    let lock_is : slice_index s.words word_count ≡ kept.lock = kept.words.lock_word in
    subst (λ n. Tried m s id me n (n == 0)) (sym lock_is) (
    elim (cases_eq kept.lock 0) [
      | inl free ↦ subst (Tried m s id me kept.lock) (sym (eq-eqb kept.lock 0 free)) (
        now,
        takes 0 (kept.rest free).arbiter,
        ap (λ hs. get_elem? hs 0) (kept.rest free).home,
        record {
          history = h;
          legal = kept.legal;
          lock = 1;
          locker = id;
          words = shows_lock s.words h kept.lock 1 kept.words;
          givers = kept.givers;
          counted = kept.counted;
          fresh = fresh_set kept.givers s.views id now kept.fresh;
          rest = λ e. absurd (omega arith);
          views = fits_set m h kept.givers 1 id s.views id now
              (λ j u _ e. let theirs = kept.views j u e in record { machine = theirs.machine; seen = theirs.seen; told = theirs.told; mine = theirs.mine; holds = λ k. let l = (theirs.holds k).2 in absurd (omega arith) })
              (record { machine = λ _. refl; seen = prefix_self h; told = prefix_of_nil h; mine = mine.mine; holds = λ _. (refl, refl, refl) });
        },
        subst (λ k. Taken k me.0.seen me.0.own (now, (0, (kept.rest free).arbiter) ∷ me.1)) (sym (mine.machine lives))
            (record {
              lock = record { arbiter = (kept.rest free).arbiter; seat = ap (λ c. (now, (0, (kept.rest free).arbiter) ∷ c)) none_held; stands = (kept.rest free).stands };
              own_is = refl;
              later = mine.seen;
              legal = kept.legal;
              settled = (kept.rest free).settled;
            }),
      )
      | inr apart ↦ subst (Tried m s id me kept.lock) (sym (ne_eqb kept.lock 0 apart)) (
        tried,
        keeps,
        tt,
        record {
          history = h;
          legal = kept.legal;
          lock = kept.lock;
          locker = kept.locker;
          words = shows_lock s.words h kept.lock kept.lock kept.words;
          givers = kept.givers;
          counted = kept.counted;
          fresh = fresh_set kept.givers s.views id tried kept.fresh;
          rest = kept.rest;
          views = fits_set m h kept.givers kept.lock kept.locker s.views id tried (λ j u _ e. kept.views j u e) (record { machine = mine.machine; seen = mine.seen; told = mine.told; mine = mine.mine; holds = mine.holds });
        },
        refl,
      )
    ]
    )

-- a store by the seat that has the lock appends its event
pub appends : (m : Machine) (slots id i n : ℕ) (e : Event) (me : Me Arbiter SeatView) → me.0.holds ≡ true → me.0.spent ≡ false → IsLegal m me.0.seen → MayFollow m me.0.seen e
    → i ≡ word_written e → i < word_count → n ≡ reading (me.0.seen ++ e ∷ []) i
    → Allows (SharesOneHistory m) slots id me i (λ _. n) (λ _. Appends e (step slots i n 0 none) me n)
appends m slots id i n e me on lives legal may own low is s kept homes at small =
    let mine = kept.views id me.0 at in
    let one = mine.holds on in
    let seen : History = me.0.seen in
    let next : History = seen ++ e ∷ [] in
    let givers : List ℕ = givers_after kept.givers id e in
    let counted : length kept.givers ≡ orders_in seen = kept.counted ∙ ap orders_in (sym one.1) in
    let below : id < length s.views = at_below s.views id me.0 at in
    let now : SeatView = lock_view me.0.machine next (own_with me.0.own seen e) in (
      now,
      keeps,
      tt,
      record {
        history = next;
        legal = legal_next m seen e legal may;
        lock = kept.lock;
        locker = kept.locker;
        words = shows_event s.words seen kept.lock i n e own low is (subst (λ l. Shows s.words l kept.lock) (sym one.1) kept.words);
        givers = givers;
        counted = counted_after kept.givers id seen e counted;
        fresh = λ j past. other_after kept.givers j id e (λ x. let longer = length-set s.views id now in omega (arith, x, past, below, longer)) ∙ fresh_set kept.givers s.views id now kept.fresh j past;
        rest = λ free. let l = one.2 in absurd (omega arith);
        views = fits_set m next givers kept.lock kept.locker s.views id now
            (λ j u apart x. let theirs = kept.views j u x in record {
              machine = theirs.machine;
              seen = prefix_more u.seen seen (e ∷ []) (subst (IsPrefix u.seen) (sym one.1) theirs.seen);
              told = prefix_more u.told seen (e ∷ []) (subst (IsPrefix u.told) (sym one.1) theirs.told);
              mine = theirs.mine ∙ sym (other_after kept.givers j id e (λ x. apart (sym x)));
              holds = λ k. absurd (apart ((theirs.holds k).0 ∙ sym one.0));
            })
            (record {
              machine = λ _. mine.machine lives;
              seen = prefix_self next;
              told = prefix_of_nil next;
              mine = ap (λ l. mine_after l seen e) mine.mine ∙ sym (own_after kept.givers id seen e counted);
              holds = λ _. (one.0, refl, one.2);
            });
      },
      refl,
    )

-- the lock is given up, with an arbiter that stands where the history leads
pub gives_up : (m : Machine) (slots id : ℕ) (me : Me Arbiter SeatView) → slots ≡ 1 → HasLock m me.0.seen me → IsSettled m me.0.seen
    → Allows (SharesOneHistory m) slots id me word_count (λ _. 0) (λ _. GivesUp (step slots word_count 0 0 none) me 0)
gives_up m slots id me one lock settled = subst (λ x. Allows (SharesOneHistory m) slots id x word_count (λ _. 0) (λ _. GivesUp (step slots word_count 0 0 none) x 0)) (sym lock.seat) (of_seen me.0.seen me.0.own lock.arbiter lock.stands settled)
  where
    of_seen : (seen : History) (own : Own) (a : Arbiter) → StandsAt m seen a → IsSettled m seen
        → Allows (SharesOneHistory m) slots id (lock_seat m seen own a) word_count (λ _. 0) (λ _. GivesUp (step slots word_count 0 0 none) (lock_seat m seen own a) 0)
    of_seen seen own a stands settled s kept homes at small =
        let mine = kept.views id (lock_view m seen own) at in
        let one_seat = mine.holds refl in
        let now : SeatView = free_view m seen (one_step own) in (
          now,
          gives,
          tt,
          record {
            history = seen;
            legal = subst (IsLegal m) (sym one_seat.1) kept.legal;
            lock = 0;
            locker = kept.locker;
            words = shows_lock s.words seen kept.lock 0 (subst (λ l. Shows s.words l kept.lock) (sym one_seat.1) kept.words);
            givers = kept.givers;
            counted = kept.counted ∙ ap orders_in (sym one_seat.1);
            fresh = fresh_set kept.givers s.views id now kept.fresh;
            rest = λ _. record { arbiter = a; home = set_only s.homes (some a) (homes ∙ one); stands = stands; settled = settled };
            views = fits_set m seen kept.givers 0 kept.locker s.views id now
                (λ j u apart e. let theirs = kept.views j u e in record {
                  machine = theirs.machine;
                  seen = subst (IsPrefix u.seen) (sym one_seat.1) theirs.seen;
                  told = subst (IsPrefix u.told) (sym one_seat.1) theirs.told;
                  mine = theirs.mine;
                  holds = λ k. absurd (apart ((theirs.holds k).0 ∙ sym one_seat.0));
                })
                (fits_free m seen seen kept.givers (one_step own) 0 kept.locker id (prefix_self seen) mine.mine);
          },
          refl,
        )
