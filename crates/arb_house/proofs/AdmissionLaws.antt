-- What an order that is entered adds, and where it stands.
use Rattle.std.proofs.Common.{◌≡◌, ℕ, ◌+◌, ◌<◌, ◌≤◌, ◌++◌, ◌∷◌, [], refl, sym, ap, arith, append_assoc, Some}
use Rattle.std.specs.Prelude.{slice_get, slice_index, sum}
use Rattle.std.proofs.lemmas.List.{append-nil}
use Rattle.arb_config.specs.Machine.{IsMachine, Machine}
use Rattle.arb_model.specs.declared.orders.Entry.{Entry}
use Rattle.arb_model.specs.declared.orders.Event.{Event}
use Rattle.arb_model.specs.declared.orders.Event.TheVariants.{Entered, Posted}
use Rattle.arb_model.specs.declared.orders.Order.{Order}
use Rattle.arb_model.specs.declared.orders.Reply.{Reply}
use Rattle.arb_model.specs.Arbiter.{Arbiter}
use Rattle.arb_model.specs.Limits.{clients}
use Rattle.arb_model.specs.History.{History, IsLegal, IsSettled, count_of, entries_of, is_entry, orders_in, posts_after, settled_from}
use Rattle.arb_model.specs.HistoryLaws.{SettlesBy}
use Rattle.arb_model.specs.Step.{Outcome, step_of}
use Rattle.arb_model.proofs.CountLaws.{counts_cons}
use Rattle.arb_model.proofs.EntryLaws.{counts_entries}
use Rattle.arb_model.proofs.JournalLaws.{entries_append, entries_join, entries_stay, orders_add}
use Rattle.arb_model.proofs.SettlingLaws.{orders_within, posts_settle, settles_one_way, sums_orders}
use Rattle.arb_model.proofs.LegalLaws.{legal_prefix}
use Rattle.arb_desk.specs.declared.answer.Admission.{Admission}
use Rattle.arb_desk.specs.declared.answer.Admission.TheVariants.{Entered as Admitted, Full}
use Rattle.arb_desk.specs.Answers.{StandsIn}
use Rattle.arb_house.specs.Recording.{Admits, GoesOnByPosts, IsAdmitted, StandsAt, entry_of}

pub goes_on_post : (before h after : History) (w value : ℕ) → GoesOnByPosts before h → after ≡ h ++ Posted w value ∷ [] → GoesOnByPosts before after
goes_on_post before h after w value g is =
    let e : Event = Posted w value in
    record { posts = g.posts ++ e ∷ []; alone = rw (orders_add g.posts (e ∷ []), g.alone); is = rw (is, ← g.is, append_assoc before g.posts (e ∷ [])) }

-- posts alone that leave no word stale are the posts that follow
pub posts_are_those : (m : Machine) (before after : History) → IsMachine m → IsLegal m after → IsSettled m after → GoesOnByPosts before after → after ≡ settled_from m before
posts_are_those m before after machine legal settled g =
    let by : SettlesBy m before g.posts = record { legal = rw g.is legal; alone = g.alone; settled = rw g.is settled } in
    rw (← settles_one_way m before g.posts machine by) (sym g.is)

-- the number that the arbiter counted for a client is that of the history
pub count_is : (m : Machine) (h : History) (a : Arbiter) (client number : ℕ) → IsMachine m → StandsAt m h a → client < clients → number ≡ slice_index a.standing.counts client → number ≡ count_of h client
count_is m h a client number machine at less is = rw (is, at.state) (counts_entries m h client machine at.legal less)

-- the entry that the arbiter's count and reply make is that of the step after the history
pub entry_is : (m : Machine) (h : History) (a b : Arbiter) (client number : ℕ) (order : Order) (reply : Reply) → IsMachine m → StandsAt m h a → client < clients → number ≡ slice_index a.standing.counts client
    → ◌≡◌ {A = Outcome} (record { reply = reply; standing = b.standing }) (step_of a.machine a.standing client order)
    → ◌≡◌ {A = Entry} (record { client = client; number = number; order = order; reply = reply }) (entry_of m h client order)
entry_is m h a b client number order reply machine at less is step =
    rw (count_is m h a client number machine at less is, ap (λ (o : Outcome). o.reply) step, at.state)

-- the orders that the arbiter counted are those of the history
pub orders_at : (m : Machine) (h : History) (a : Arbiter) → IsMachine m → StandsAt m h a → sum a.standing.counts ≡ orders_in h
orders_at m h a machine at = rw at.state (sums_orders m h machine at.legal)

-- where no order stands there is no entry
no_entries : (h : History) → orders_in h ≡ 0 → entries_of h ≡ []
no_entries [] e = refl
no_entries (Entered x ∷ h) e = absurd (omega (arith, counts_cons is_entry (Entered x) h, e))
no_entries (Posted w value ∷ h) e = no_entries h (omega (arith, counts_cons is_entry (Posted w value) h, e))

-- the entries of a history that goes on by an order and posts alone are those before it, and the order's
pub entries_grow : (before after : History) (entry : Entry) → GoesOnByPosts (before ++ Entered entry ∷ []) after → entries_of after ≡ entries_of before ++ entry ∷ []
entries_grow before after entry g =
    let next : History = before ++ Entered entry ∷ [] in
    rw (← g.is, entries_join next g.posts, no_entries g.posts g.alone, append-nil (entries_of next), entries_join before (Entered entry ∷ []))

-- and the order's stands at the place of the number of orders before it
pub entry_stands : (before after : History) (entry : Entry) → GoesOnByPosts (before ++ Entered entry ∷ []) after → slice_get (entries_of after) (orders_in before) ≡ Some entry
entry_stands before after entry g = entries_stay (before ++ Entered entry ∷ []) after (orders_in before) entry (g.posts, g.is) (entries_append before [] entry)

-- where the arbiter is full, the history has as many orders as the limit; else it has fewer
pub full_at : (m : Machine) (h : History) (a : Arbiter) → IsMachine m → StandsAt m h a → a.machine.orders ≤ sum a.standing.counts → orders_in h ≡ m.orders
full_at m h a machine at full = omega (arith, orders_within m h machine at.legal, orders_at m h a machine at, ap (λ (x : Arbiter). x.machine.orders) at.state)

pub room_at : (m : Machine) (h : History) (a : Arbiter) → IsMachine m → StandsAt m h a → sum a.standing.counts < a.machine.orders → orders_in h < m.orders
room_at m h a machine at room = omega (arith, orders_at m h a machine at, ap (λ (x : Arbiter). x.machine.orders) at.state)

-- an admitted order's entry is followed by posts alone
pub admitted_posts : (m : Machine) (before : History) (client : ℕ) (order : Order) (entry : Entry) (place : ℕ) (after : History) → IsMachine m → IsLegal m after → IsAdmitted m before client order entry place after → GoesOnByPosts (before ++ Entered entry ∷ []) after
admitted_posts m before client order entry place after machine legal a =
    let next : History = before ++ Entered entry ∷ [] in
    let whole = legal_prefix m next after (posts_after m next, sym a.seen) legal in
    record { posts = posts_after m next; alone = (posts_settle m next machine whole).alone; is = sym a.seen }

-- and the orders are one more
pub admitted_orders : (m : Machine) (before : History) (client : ℕ) (order : Order) (entry : Entry) (place : ℕ) (after : History) → IsMachine m → IsLegal m after → IsAdmitted m before client order entry place after → orders_in after ≡ orders_in before + 1
admitted_orders m before client order entry place after machine legal a =
    let next : History = before ++ Entered entry ∷ [] in
    let g = admitted_posts m before client order entry place after machine legal a in
    let one : orders_in (Entered entry ∷ []) ≡ 1 = refl in
    omega (arith, ap orders_in g.is, orders_add next g.posts, g.alone, orders_add before (Entered entry ∷ []), one)

-- where none is entered, they are as many as before
pub unadmitted_orders : (m : Machine) (before : History) (client : ℕ) (order : Order) (a : Admission) (after : History) → Admits m before client order a after → ((entry : Entry) (place : ℕ) → a ≡ Admitted entry place → ⊥) → orders_in after ≡ orders_in before
unadmitted_orders m before client order (Admitted entry place) after a none = absurd (none entry place refl)
unadmitted_orders m before client order (Full whose number) after a none = ap orders_in a.2

-- what came of an order stands in the history that it led to
pub admission_stands : (m : Machine) (before : History) (client : ℕ) (order : Order) (a : Admission) (after : History) → IsMachine m → IsLegal m after → IsSettled m after → Admits m before client order a after → StandsIn m a after
admission_stands m before client order (Admitted entry place) after machine legal settled a =
    (rw a.at (entry_stands before after entry (admitted_posts m before client order entry place after machine legal a)), settled)
admission_stands m before client order (Full whose number) after machine legal settled a = rw (a.2, a.1) a.0
