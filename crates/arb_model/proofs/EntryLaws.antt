-- The counts of a standing are those of its history.
use Rattle.std.proofs.lemmas.Grind.{common_steps}
use Rattle.std.proofs.lemmas.Bool.Decides.{nat_tests}
use Rattle.std.proofs.Common.{◌≡◌, ℕ, ◌+◌, ◌<◌, [], ◌∷◌, ◌++◌, length, set, arith, slice_index}
use Rattle.std.specs.Prelude.{fold, sum}
use Rattle.std.proofs.lemmas.Bool.{eq-eqb, ne_eqb}
use Rattle.std.proofs.lemmas.List.{get_or-set_same, get_or-set_other, get_or-replicate}
use Rattle.std.proofs.lemmas.List.Sums.{sum_by-set}
use Rattle.arb_model.specs.Limits.{clients}
use Rattle.arb_model.specs.declared.orders.Order.{Order}
use Rattle.arb_model.specs.declared.orders.Entry.{Entry}
use Rattle.arb_model.specs.declared.orders.Event.{Event}
use Rattle.arb_model.specs.declared.orders.Event.TheVariants.{Entered}
use Rattle.arb_config.specs.Machine.{IsMachine, Machine}
use Rattle.arb_model.specs.History.{History, IsLegal, LegalFrom, MayFollow, MayHappen, State, beginning, count_of, is_entry, is_entry_of, orders_in, state_after, state_next}
use Rattle.arb_model.specs.Consistent.{IsConsistent}
use Rattle.arb_model.specs.Laws.{EntriesHaveRoom, NumbersEntries}
use Rattle.arb_model.specs.Standing.{Standing}
use Rattle.arb_model.specs.Step.{step_of}
use Rattle.arb_model.proofs.CountLaws.{counts_cons}
use Rattle.arb_model.proofs.LegalLaws.{from_prefix, from_split}
use Rattle.arb_model.proofs.PostedLaws.{IsConsistent-after, IsConsistent-beginning, IsConsistent-next}
use Rattle.arb_model.proofs.StepLaws.{step_refused, step_taken}
use Rattle.arb_model.proofs.WordsLaws.{next_is, stale_differs}

-- each order is counted
pub step_counts : (m : Machine) (s : Standing) (client : ℕ) (order : Order) → (step_of m s client order).standing.counts ≡ set s.counts client (slice_index s.counts client + 1)
step_counts m s client order = grind (arith, nat_tests, step_refused, step_taken)

pub sum_counts : (m : Machine) (s : Standing) (client : ℕ) (order : Order) → client < length s.counts → sum (step_of m s client order).standing.counts ≡ sum s.counts + 1
sum_counts m s client order less = grind (arith, nat_tests, step_counts, sum_by-set)

next_count : (m : Machine) (k : State) (e : Event) (client : ℕ) → IsConsistent m k → client < clients → slice_index (state_next m k e).standing.counts client ≡ slice_index k.standing.counts client + count_of (e ∷ []) client
next_count m k e client i less = grind (arith, nat_tests, common_steps, step_counts, eq-eqb, get_or-set_same, ne_eqb, get_or-set_other)

counts_from : (m : Machine) (k : State) (h : History) (client : ℕ) → IsMachine m → IsConsistent m k → LegalFrom m k h → client < clients → slice_index (fold (state_next m) k h).standing.counts client ≡ slice_index k.standing.counts client + count_of h client
counts_from m k [] client machine i l less = omega arith
counts_from m k (e ∷ es) client machine i l less = omega (arith, counts_from m (state_next m k e) es client machine (IsConsistent-next m k e machine i l.0) l.1 less, next_count m k e client i less, counts_cons (is_entry_of client) e es)

-- each client's count is the number of its entries
pub counts_entries : (m : Machine) (h : History) (client : ℕ) → IsMachine m → IsLegal m h → client < clients → slice_index (state_after m h).standing.counts client ≡ count_of h client
unfolding IsLegal state_after
counts_entries m h client machine l less =
    let first : slice_index (beginning m).standing.counts client ≡ 0 = get_or-replicate {A = ℕ} clients client 0 0 less in
    omega (arith, counts_from m (beginning m) h client machine (IsConsistent-beginning m) l less, first)

-- word 0 counts the orders
next_entries : (m : Machine) (k : State) (e : Event) → IsConsistent m k → MayHappen m k e → slice_index (state_next m k e).posted 0 ≡ slice_index k.posted 0 + orders_in (e ∷ [])
next_entries m k e i may = grind (arith, nat_tests, get_or-set_same, sum_counts, next_is, get_or-set_other, stale_differs)

pub entries_from : (m : Machine) (k : State) (h : History) → IsMachine m → IsConsistent m k → LegalFrom m k h → slice_index (fold (state_next m) k h).posted 0 ≡ slice_index k.posted 0 + orders_in h
entries_from m k [] machine i l = omega arith
entries_from m k (e ∷ es) machine i l = omega (arith, entries_from m (state_next m k e) es machine (IsConsistent-next m k e machine i l.0) l.1, next_entries m k e i l.0, counts_cons is_entry e es)

pub entries_after : (m : Machine) (h : History) → IsMachine m → IsLegal m h → slice_index (state_after m h).posted 0 ≡ orders_in h
unfolding IsLegal state_after
entries_after m h machine l = grind (arith, nat_tests, common_steps, get_or-replicate, entries_from, IsConsistent-beginning)

may_follow : (m : Machine) (h rest : History) (e : Event) → IsLegal m (h ++ e ∷ rest) → IsLegal m h × MayHappen m (state_after m h) e
unfolding IsLegal state_after
may_follow m h rest e l = (from_prefix m (beginning m) h (e ∷ rest) l, (from_split m (beginning m) h (e ∷ rest) l).0)

-- an entry's number is the count of its client's earlier entries in the very history
pub numbers_entries : NumbersEntries
numbers_entries m before rest e machine l = grind (arith, nat_tests, common_steps, may_follow, counts_entries)

-- fewer orders than the limit stand before an entry
pub entries_have_room : EntriesHaveRoom
entries_have_room m before rest e machine l = grind (arith, nat_tests, common_steps, may_follow, entries_after, IsConsistent-after)

-- an entry that may follow has room
pub room_to_enter : (m : Machine) (h : History) (e : Entry) → IsMachine m → IsLegal m h → MayFollow m h (Entered e) → orders_in h < m.orders
unfolding MayFollow
room_to_enter m h e machine l may = grind (arith, nat_tests, entries_after, IsConsistent-after)
