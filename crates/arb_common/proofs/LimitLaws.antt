-- Laws of legal histories of a machine with any limit on orders.
use Rattle.std.proofs.lemmas.Grind.{common_steps}
use Rattle.std.proofs.lemmas.Bool.Decides.{nat_tests}
use Rattle.std.proofs.Common.{◌≡◌, ℕ, ◌+◌, ◌<◌, ◌≤◌, [], ◌∷◌, ◌++◌, length, set, refl, arith, sym, ap, ◌∙◌, subst, inl, inr, slice_index, append_assoc}
use Rattle.std.specs.Prelude.{fold, sum}
use Rattle.std.proofs.lemmas.Bool.{cases_eq, eq-eqb, ne_eqb}
use Rattle.std.proofs.lemmas.List.{append-nil, get_or-set_same, get_or-set_other, get_or-replicate}
use Rattle.std.proofs.lemmas.List.Folds.{sum_by-replicate}
use Rattle.std.proofs.lemmas.List.Sums.{sum_by-append}
use Rattle.arb_config.specs.Machine.{IsMachine, Machine, cores_of}
use Rattle.arb_model.specs.declared.orders.Event.{Event}
use Rattle.arb_model.specs.declared.orders.Event.TheVariants.{Entered, Posted}
use Rattle.arb_model.specs.Consistent.{IsConsistent}
use Rattle.arb_model.specs.History.{History, IsLegal, LegalFrom, MayHappen, State, beginning, count_of, is_entry_of, orders_in, state_after, state_next}
use Rattle.arb_model.specs.Layout.{word_count}
use Rattle.arb_model.specs.Limits.{clients}
use Rattle.arb_model.specs.Lists.{one_if}
use Rattle.arb_model.specs.Reading.{reading}
use Rattle.arb_model.specs.Standing.{Standing}
use Rattle.arb_model.specs.Step.{step_of}
use Rattle.arb_model.specs.WellFormed.{IsStanding}
use Rattle.arb_model.specs.Words.{word_of}
use Rattle.arb_model.proofs.EntryLaws.{step_counts, sum_counts}
use Rattle.arb_model.proofs.JournalLaws.{orders_add}
use Rattle.arb_model.proofs.PostedLaws.{IsConsistent-beginning, IsConsistent-entered, IsConsistent-posted, next_of_words}
use Rattle.arb_model.proofs.ReadingLaws.{reading_empty, reading_entered, reading_orders, reading_other, reading_posted}
use Rattle.arb_common.specs.Limits.{IsMachineOfAnyLimit, with_limit}

-- each machine is one with any limit on orders
pub machine_of_any_limit : (m : Machine) → IsMachine m → IsMachineOfAnyLimit m
machine_of_any_limit m i =
    record {
      some_managed = i.some_managed;
      few_managed = i.few_managed;
      some_socket = i.some_socket;
      few_sockets = i.few_sockets;
      some_unmanaged = i.some_unmanaged;
      few_unmanaged = i.few_unmanaged;
      managed_low = i.managed_low;
      unmanaged_low = i.unmanaged_low;
      different = i.different;
      some_grace = i.some_grace;
      short_grace = i.short_grace;
      some_orders = omega arith;
      few_orders = omega arith;
      socket_each = i.socket_each;
      sockets_low = i.sockets_low;
    }

-- the limit on orders is no part of what is consistent
standing_of_any_limit : (a b : Machine) (s : Standing) → cores_of a ≡ cores_of b → IsStanding a s → IsStanding b s
standing_of_any_limit a b s same w =
    record {
      requests = w.requests;
      requests_fit = w.requests_fit;
      caps = w.caps;
      caps_fit = w.caps_fit;
      cores = w.cores ∙ ap length same;
      moved = w.moved;
      counts = w.counts;
      once = w.once;
      joined = w.joined;
    }

pub consistent_of_any_limit : (a b : Machine) (k : State) → cores_of a ≡ cores_of b → IsConsistent a k → IsConsistent b k
consistent_of_any_limit a b k same i =
    record {
      standing = standing_of_any_limit a b k.standing same i.standing;
      long = i.long;
      counted = i.counted;
      apart = i.apart;
      clear = i.clear;
    }

-- what holds of the state after a legal history
pub record Leads (m : Machine) (h : History) (k : State) : Type 0 where
  pub consistent : IsConsistent m k
  pub counts : (client : ℕ) → client < clients → slice_index k.standing.counts client ≡ count_of h client
  pub total : sum k.standing.counts ≡ orders_in h
  pub within : orders_in h ≤ m.orders
  pub words : (w : ℕ) → w < word_count → reading h w ≡ slice_index k.posted w

-- each event keeps it consistent
consistent_next : (m : Machine) (k : State) (e : Event) → IsMachineOfAnyLimit m → IsConsistent m k → MayHappen m k e → IsConsistent m (state_next m k e)
consistent_next m k (Entered e) machine i may =
    let t : Machine = with_limit m 1 in
    let before : IsConsistent t k = consistent_of_any_limit m t k refl i in
    consistent_of_any_limit t m (state_next m k (Entered e)) refl (IsConsistent-entered t k e.client e.order machine before may.fits may.settled)
consistent_next m k (Posted w value) machine i may =
    subst (λ (v : ℕ). IsConsistent m (record k { posted = set k.posted w v })) (sym may.is) (IsConsistent-posted m k w i may.turn)

-- each order is counted for its client
next_count : (m : Machine) (k : State) (e : Event) (client : ℕ) → IsConsistent m k → client < clients → slice_index (state_next m k e).standing.counts client ≡ slice_index k.standing.counts client + count_of (e ∷ []) client
next_count m k e client i less = grind (arith, nat_tests, common_steps, step_counts, eq-eqb, get_or-set_same, ne_eqb, get_or-set_other)

counts_add : (h more : History) (client : ℕ) → count_of (h ++ more) client ≡ count_of h client + count_of more client
counts_add h more client = sum_by-append (λ (e : Event). one_if (is_entry_of client e)) h more

-- and in all
next_total : (m : Machine) (k : State) (e : Event) → IsConsistent m k → MayHappen m k e → sum (state_next m k e).standing.counts ≡ sum k.standing.counts + orders_in (e ∷ [])
next_total m k (Entered e) i may = sum_counts m k.standing e.client e.order (omega (arith, may.client, i.standing.counts))
next_total m k (Posted w value) i may = omega arith

next_within : (m : Machine) (h : History) (k : State) (e : Event) → Leads m h k → MayHappen m k e → orders_in (h ++ e ∷ []) ≤ m.orders
next_within m h k (Entered e) l may =
    let one : orders_in (Entered e ∷ []) ≡ 1 = refl in
    omega (arith, orders_add h (Entered e ∷ []), one, may.room, l.total)
next_within m h k (Posted w value) l may =
    let none : orders_in (Posted w value ∷ []) ≡ 0 = refl in
    omega (arith, orders_add h (Posted w value ∷ []), none, l.within)

-- each word reads what was posted
next_words : (m : Machine) (h : History) (k : State) (e : Event) → Leads m h k → MayHappen m k e → (w : ℕ) → w < word_count → reading (h ++ e ∷ []) w ≡ slice_index (state_next m k e).posted w
next_words m h k (Entered e) l may w less =
    let after : Standing = (step_of m k.standing e.client e.order).standing in
    elim (cases_eq w 0) [
      | inl is ↦
          let total : sum after.counts ≡ sum k.standing.counts + 1 = sum_counts m k.standing e.client e.order (omega (arith, may.client, l.consistent.standing.counts)) in
          let stored : slice_index (set k.posted 0 (word_of after 0)) 0 ≡ word_of after 0 = get_or-set_same k.posted 0 (word_of after 0) 0 (omega (arith, l.consistent.long)) in
          let count : reading (h ++ Entered e ∷ []) 0 ≡ word_of after 0 = reading_entered h e ∙ omega (arith, total, reading_orders h, l.total) in
          subst (λ (v : ℕ). reading (h ++ Entered e ∷ []) v ≡ slice_index (set k.posted 0 (word_of after 0)) v) (sym is) (count ∙ sym stored)
      | inr other ↦ reading_other h (Entered e) w (λ x. other (sym x)) ∙ l.words w less ∙ sym (get_or-set_other k.posted 0 w (word_of after 0) 0 other)
    ]
next_words m h k (Posted u value) l may w less =
    let within = next_of_words m k u l.consistent may.turn in
    elim (cases_eq w u) [
      | inl is ↦
          subst (λ (v : ℕ). reading (h ++ Posted u value ∷ []) v ≡ slice_index (set k.posted u value) v) (sym is)
          (reading_posted h u value (λ x. omega (arith, within.0, x)) ∙ sym (get_or-set_same k.posted u value 0 (omega (arith, l.consistent.long, within.1))))
      | inr other ↦ reading_other h (Posted u value) w (λ x. other (sym x)) ∙ l.words w less ∙ sym (get_or-set_other k.posted u w value 0 other)
    ]

leads_next : (m : Machine) (h : History) (k : State) (e : Event) → IsMachineOfAnyLimit m → Leads m h k → MayHappen m k e → Leads m (h ++ e ∷ []) (state_next m k e)
leads_next m h k e machine l may =
    record {
      consistent = consistent_next m k e machine l.consistent may;
      counts = λ client less. next_count m k e client l.consistent less ∙ omega (arith, l.counts client less, counts_add h (e ∷ []) client);
      total = next_total m k e l.consistent may ∙ omega (arith, l.total, orders_add h (e ∷ []));
      within = next_within m h k e l may;
      words = next_words m h k e l may;
    }

leads_from : (m : Machine) (before : History) (k : State) (rest : History) → IsMachineOfAnyLimit m → Leads m before k → LegalFrom m k rest → Leads m (before ++ rest) (fold (state_next m) k rest)
leads_from m before k [] machine l legal = subst (λ (h : History). Leads m h k) (sym (append-nil before)) l
leads_from m before k (e ∷ es) machine l legal =
    subst (λ (h : History). Leads m h (fold (state_next m) (state_next m k e) es)) (append_assoc before (e ∷ []) es)
    (leads_from m (before ++ e ∷ []) (state_next m k e) es machine (leads_next m before k e machine l legal.0) legal.1)

leads_begin : (m : Machine) → Leads m [] (beginning m)
leads_begin m =
    record {
      consistent = IsConsistent-beginning m;
      counts = λ client less. get_or-replicate {A = ℕ} clients client 0 0 less;
      total = sum_by-replicate (λ x. x) clients 0;
      within = omega arith;
      words = λ w less. reading_empty w ∙ sym (get_or-replicate {A = ℕ} word_count w 0 0 less);
    }

-- a legal history leads to a state of which all this holds
pub leads : (m : Machine) (h : History) → IsMachineOfAnyLimit m → IsLegal m h → Leads m h (state_after m h)
unfolding IsLegal state_after
leads m h machine legal = leads_from m [] (beginning m) h machine (leads_begin m) legal
