-- An arbiter that was renewed on the way stands where a history leads, but for its counts.
use Rattle.std.proofs.Common.{◌≡◌, ℕ, ◌<◌, List, [], ◌∷◌, ◌++◌, set, refl, arith, sym, ap, ◌∙◌, subst, Bool, not, inl, inr, slice_index}
use Rattle.std.specs.Prelude.{◌==◌, ◌&&◌, slice_set}
use Rattle.std.specs.Option.{option_or}
use Rattle.std.proofs.lemmas.Bool.{cases_eq, eq-eqb}
use Rattle.std.proofs.lemmas.List.{get_or-set_other, set-set, set_comm}
use Rattle.arb_config.specs.Machine.{Machine}
use Rattle.arb_model.specs.declared.orders.Event.{Event}
use Rattle.arb_model.specs.declared.orders.Event.TheVariants.{Posted}
use Rattle.arb_model.specs.declared.orders.Order.{Order}
use Rattle.arb_model.specs.declared.orders.Reply.{Reply}
use Rattle.arb_model.specs.Arbiter.{Arbiter, IsArbiter, opening_arbiter, state_of}
use Rattle.arb_model.specs.Consistent.{IsConsistent}
use Rattle.arb_model.specs.History.{History, IsLegal, IsSettled, MayEnter, MayFollow, State, after_order, orders_in, state_after}
use Rattle.arb_model.specs.Layout.{is_place_index, names_a_core, word_count}
use Rattle.arb_model.specs.Posting.{first_below, is_stale, names_stale, next_stale_of}
use Rattle.arb_model.specs.Renewal.{DifferInCounts, renewed, uncounted}
use Rattle.arb_model.specs.Standing.{Standing}
use Rattle.arb_model.specs.Step.{Outcome, step_of}
use Rattle.arb_model.specs.Words.{seat_word, word_of}
use Rattle.arb_model.proofs.LegalLaws.{state_more}
use Rattle.arb_model.proofs.RenewalLaws.{renewed_is_endless}
use Rattle.arb_model.proofs.SettlingLaws.{follows_by_state, states_begin}
use Rattle.arb_model.proofs.StepLaws.{cases_Option}
use Rattle.arb_model.proofs.WordsLaws.{first_below-is, first_below-none_is, first_below_found, first_below_none, word_of_seats}
use Rattle.arb_common.specs.Giving.{entered_at, reply_at}
use Rattle.arb_common.specs.Limits.{IsMachineOfAnyLimit, StandsAt, with_limit}
use Rattle.arb_common.proofs.LimitLaws.{Leads, leads, machine_of_any_limit}

-- a new arbiter stands at the beginning
pub stands_begin : (t : Machine) (limit : ℕ) → IsArbiter (opening_arbiter t) → StandsAt (with_limit t limit) [] (opening_arbiter t)
stands_begin t limit is =
    let begins = states_begin (with_limit t limit) in
    record {
      arbiter = is;
      machine = refl;
      standing = sym (ap (λ (k : State). uncounted k.standing) begins);
      posted = sym (ap (λ (k : State). slice_set k.posted 0 0) begins);
    }

-- the machine of an arbiter that stands at a history, but for the limit
pub any_limit : (m : Machine) (h : History) (a : Arbiter) → StandsAt m h a → IsMachineOfAnyLimit m
any_limit m h a s = subst IsMachineOfAnyLimit s.machine (machine_of_any_limit a.machine s.arbiter.machine)

-- a renewal changes nothing of it
pub stands_renewed : (m : Machine) (h : History) (a : Arbiter) → StandsAt m h a → IsArbiter (renewed a) → StandsAt m h (renewed a)
stands_renewed m h a s is = record { arbiter = is; machine = s.machine; standing = s.standing; posted = set-set a.posted 0 0 0 ∙ s.posted }

-- the words but word 0
same_posted : (p q : List ℕ) (w : ℕ) → (w ≡ 0 → ⊥) → set p 0 0 ≡ set q 0 0 → slice_index p w ≡ slice_index q w
same_posted p q w other e = sym (get_or-set_other p 0 w 0 0 other) ∙ ap (λ (l : List ℕ). slice_index l w) e ∙ get_or-set_other q 0 w 0 0 other

same_word : (s t : Standing) (w : ℕ) → (w ≡ 0 → ⊥) → DifferInCounts s t → word_of s w ≡ word_of t w
same_word s t w other e = sym (word_of_seats s w (omega (arith, other))) ∙ ap (λ (x : Standing). seat_word x.seats w) e ∙ word_of_seats t w (omega (arith, other))

-- so the same words are stale
same_stale : (n m : Machine) (j k : State) → IsConsistent n j → IsConsistent m k → DifferInCounts j.standing k.standing → set j.posted 0 0 ≡ set k.posted 0 0
    → (w : ℕ) → is_stale j.standing j.posted w ≡ is_stale k.standing k.posted w
same_stale n m j k ij ik e p w =
    elim (cases_eq w 0) [
      | inl is ↦
          let none : is_stale j.standing j.posted 0 ≡ is_stale k.standing k.posted 0 = ap not (eq-eqb (slice_index j.posted 0) (word_of j.standing 0) ij.counted) ∙ sym (ap not (eq-eqb (slice_index k.posted 0) (word_of k.standing 0) ik.counted)) in
          subst (λ (v : ℕ). is_stale j.standing j.posted v ≡ is_stale k.standing k.posted v) (sym is) none
      | inr other ↦ λ i. not (same_posted j.posted k.posted w other p i == same_word j.standing k.standing w other e i)
    ]

same_names : (n m : Machine) (j k : State) → IsConsistent n j → IsConsistent m k → DifferInCounts j.standing k.standing → set j.posted 0 0 ≡ set k.posted 0 0
    → (w : ℕ) → names_stale j.standing j.posted w ≡ names_stale k.standing k.posted w
same_names n m j k ij ik e p w =
    elim (cases_eq w 0) [
      | inl is ↦ subst (λ (v : ℕ). names_stale j.standing j.posted v ≡ names_stale k.standing k.posted v) (sym is) refl
      | inr other ↦ λ i. is_place_index w && (names_a_core (same_posted j.posted k.posted w other p i) && same_stale n m j k ij ik e p w i)
    ]

-- tests that agree find the same first number
same_first : (f g : ℕ → Bool) (n : ℕ) → ((v : ℕ) → f v ≡ g v) → first_below f n ≡ first_below g n
same_first f g n same =
    elim (cases_Option (first_below g n)) [
      | inl none ↦ first_below-none_is f n (λ v less. same v ∙ first_below_none g n none v less) ∙ sym none
      | inr r ↦
          let found = first_below_found g n r.0 r.1 in
          first_below-is f n r.0 found.0 (same r.0 ∙ found.1.0) (λ v less. same v ∙ found.1.1 v less) ∙ sym r.1
    ]

same_next : (n m : Machine) (j k : State) → IsConsistent n j → IsConsistent m k → DifferInCounts j.standing k.standing → set j.posted 0 0 ≡ set k.posted 0 0
    → next_stale_of j.standing j.posted ≡ next_stale_of k.standing k.posted
unfolding next_stale_of
same_next n m j k ij ik e p =
    λ i. option_or (same_first (names_stale j.standing j.posted) (names_stale k.standing k.posted) word_count (same_names n m j k ij ik e p) i)
    (same_first (is_stale j.standing j.posted) (is_stale k.standing k.posted) word_count (same_stale n m j k ij ik e p) i)

-- the same word is next as after the history
pub next_as_led : (m : Machine) (h : History) (a : Arbiter) → IsLegal m h → StandsAt m h a → next_stale_of a.standing a.posted ≡ next_stale_of (state_after m h).standing (state_after m h).posted
next_as_led m h a legal s =
    same_next a.machine m (state_of a) (state_after m h) s.arbiter.consistent (leads m h (any_limit m h a s) legal).consistent s.standing s.posted

-- the step is the same, whatever the counts and the limit
same_step : (n m : Machine) (s t : Standing) (client : ℕ) (order : Order) → with_limit n m.orders ≡ m → DifferInCounts s t
    → ((step_of n s client order).reply ≡ (step_of m t client order).reply) × DifferInCounts (step_of n s client order).standing (step_of m t client order).standing
same_step n m s t client order is e =
    subst (λ (x : Machine). ((step_of n s client order).reply ≡ (step_of x t client order).reply) × DifferInCounts (step_of n s client order).standing (step_of x t client order).standing) is
    (limited m.orders)
  where
    limited : (limit : ℕ) → ((step_of n s client order).reply ≡ (step_of (with_limit n limit) t client order).reply) × DifferInCounts (step_of n s client order).standing (step_of (with_limit n limit) t client order).standing
    limited limit =
        let a = renewed_is_endless n s t client order e in
        let b = renewed_is_endless (with_limit n limit) t t client order refl in
        (a.0 ∙ sym b.0, a.1 ∙ sym b.1)

-- an arbiter took an order where there was room
pub record TookOrder (m : Machine) (h : History) (client : ℕ) (order : Order) (reply : Reply) (b : Arbiter) : Type 0 where
  pub may : MayFollow m h (entered_at h client order reply)
  pub reply_is : reply ≡ reply_at m h client order
  pub stands : StandsAt m (h ++ entered_at h client order reply ∷ []) b

pub took_order : (m : Machine) (h : History) (a b : Arbiter) (client : ℕ) (order : Order) (reply : Reply) → IsLegal m h → IsSettled m h → orders_in h < m.orders → StandsAt m h a
    → MayEnter a.machine (state_of a) (record { client = client; number = slice_index a.standing.counts client; order = order; reply = reply })
    → ◌≡◌ {A = Outcome} (record { reply = reply; standing = b.standing }) (step_of a.machine a.standing client order) → b.machine ≡ a.machine → b.posted ≡ slice_set a.posted 0 (word_of b.standing 0) → IsArbiter b
    → TookOrder m h client order reply b
took_order m h a b client order reply legal settled room s enters step same posted is =
    let k : State = state_after m h in
    let l : Leads m h k = leads m h (any_limit m h a s) legal in
    let steps = same_step a.machine m a.standing k.standing client order s.machine s.standing in
    let reply_is : reply ≡ reply_at m h client order = ap (λ (o : Outcome). o.reply) step ∙ steps.0 in
    let e : Event = entered_at h client order reply in
    let after : State = after_order k (step_of m k.standing client order).standing in
    let next : state_after m (h ++ e ∷ []) ≡ after = state_more m h e in
    record {
      may = (follows_by_state m h e).1 (record { client = enters.client; fits = enters.fits; settled = settled; room = omega (arith, room, l.total); number = sym (l.counts client enters.client); reply = reply_is });
      reply_is = reply_is;
      stands = record {
        arbiter = is;
        machine = ap (λ (x : Machine). with_limit x m.orders) same ∙ s.machine;
        standing = ap (λ (o : Outcome). uncounted o.standing) step ∙ steps.1 ∙ sym (ap (λ (x : State). uncounted x.standing) next);
        posted = ap (λ (l : List ℕ). slice_set l 0 0) posted ∙ set-set a.posted 0 (word_of b.standing 0) 0 ∙ s.posted ∙ sym (set-set k.posted 0 (word_of after.standing 0) 0) ∙ sym (ap (λ (x : State). slice_set x.posted 0 0) next);
      };
    }

-- an arbiter posted a word that is not word 0
pub stands_posted : (m : Machine) (h : History) (a b : Arbiter) (w value : ℕ) → (w ≡ 0 → ⊥) → value ≡ word_of a.standing w → StandsAt m h a
    → b ≡ record a { posted = slice_set a.posted w (word_of a.standing w) } → IsArbiter b → StandsAt m (h ++ Posted w value ∷ []) b
stands_posted m h a b w value other value_is s is arbiter =
    let k : State = state_after m h in
    let own : ℕ = word_of a.standing w in
    let e : Event = Posted w value in
    let put : slice_set (slice_set a.posted w own) 0 0 ≡ slice_set (slice_set k.posted w value) 0 0 =
    set_comm a.posted w 0 own 0 (λ x. other x) ∙ (λ i. slice_set (s.posted i) w (sym value_is i)) ∙ sym (set_comm k.posted w 0 value 0 (λ x. other x)) in
    let next : state_after m (h ++ e ∷ []) ≡ record k { posted = slice_set k.posted w value } = state_more m h e in
    record {
      arbiter = arbiter;
      machine = ap (λ (x : Arbiter). with_limit x.machine m.orders) is ∙ s.machine;
      standing = ap (λ (x : Arbiter). uncounted x.standing) is ∙ s.standing ∙ sym (ap (λ (x : State). uncounted x.standing) next);
      posted = ap (λ (x : Arbiter). slice_set x.posted 0 0) is ∙ put ∙ sym (ap (λ (x : State). slice_set x.posted 0 0) next);
    }

-- the value of a word that is not word 0 is that of the history's standing
pub value_as_led : (m : Machine) (h : History) (a : Arbiter) (w : ℕ) → (w ≡ 0 → ⊥) → StandsAt m h a → word_of a.standing w ≡ word_of (state_after m h).standing w
value_as_led m h a w other s = same_word a.standing (state_after m h).standing w other s.standing
