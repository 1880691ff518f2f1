-- Where an arbiter stands after an order, and after a post.
use Rattle.std.proofs.Common.{◌≡◌, ℕ, ◌++◌, ◌∷◌, [], sym, ap, ◌∙◌, Some, None}
use Rattle.std.specs.Prelude.{slice_index, slice_set}
use Rattle.arb_config.specs.Machine.{IsMachine, Machine}
use Rattle.arb_model.specs.declared.orders.Event.{Event}
use Rattle.arb_model.specs.declared.orders.Event.TheVariants.{Entered, Posted}
use Rattle.arb_model.specs.declared.orders.Order.{Order}
use Rattle.arb_model.specs.declared.orders.Reply.{Reply}
use Rattle.arb_model.specs.Arbiter.{Arbiter, IsArbiter, arbiter_in, opening_arbiter, state_of}
use Rattle.arb_model.specs.History.{History, IsSettled, MayEnter, MayFollow, MayPost, State, entry_after, state_after}
use Rattle.arb_model.specs.Posting.{next_stale_of}
use Rattle.arb_model.specs.Step.{Outcome, step_of}
use Rattle.arb_model.specs.Words.{word_of}
use Rattle.arb_model.proofs.LegalLaws.{legal_empty, legal_next, state_more}
use Rattle.arb_model.proofs.OpeningLaws.{opening_settled}
use Rattle.arb_model.proofs.SettlingLaws.{entry_follows, follows_by_state, states_begin}
use Rattle.arb_house.specs.Recording.{StandsAt}

-- before all orders
pub stands_new : (m : Machine) (h : History) (a : Arbiter) → h ≡ [] → a ≡ opening_arbiter m → StandsAt m h a
stands_new m h a none is = rw none (record { legal = legal_empty m; state = rw (is, states_begin m) })

pub settled_new : (m : Machine) (h : History) → h ≡ [] → IsSettled m h
settled_new m h none = rw (none, states_begin m) (opening_settled m)

-- an order that the arbiter took may follow the history
pub entry_may_follow : (m : Machine) (h : History) (a : Arbiter) (client : ℕ) (order : Order) (reply : Reply) → IsMachine m → StandsAt m h a
    → MayEnter a.machine (state_of a) (record { client = client; number = slice_index a.standing.counts client; order = order; reply = reply })
    → MayFollow m h (Entered (entry_after h client order reply))
entry_may_follow m h a client order reply machine at may = entry_follows m h client order reply machine at.legal (rw at.state at may)

-- and the arbiter stands where that entry leads
pub stands_entered : (m : Machine) (h : History) (a b : Arbiter) (client : ℕ) (order : Order) (reply : Reply) → StandsAt m h a → MayFollow m h (Entered (entry_after h client order reply))
    → ◌≡◌ {A = Outcome} (record { reply = reply; standing = b.standing }) (step_of a.machine a.standing client order) → b.machine ≡ a.machine → b.posted ≡ slice_set a.posted 0 (word_of b.standing 0)
    → StandsAt m (h ++ Entered (entry_after h client order reply) ∷ []) b
stands_entered m h a b client order reply at may step machine posted =
    let e : Event = Entered (entry_after h client order reply) in
    let k : State = state_after m h in
    let stands : b.standing ≡ (step_of m k.standing client order).standing = ap (λ (o : Outcome). o.standing) step ∙ ap (λ (x : Arbiter). (step_of x.machine x.standing client order).standing) at.state in
    let words : b.posted ≡ slice_set k.posted 0 (word_of (step_of m k.standing client order).standing 0) = posted ∙ (λ i. slice_set (at.state i).posted 0 (word_of (stands i) 0)) in
    let same : b.machine ≡ m = machine ∙ ap (λ (x : Arbiter). x.machine) at.state in
    let next : b ≡ arbiter_in m (state_after m (h ++ e ∷ [])) = (λ i. record { machine = same i; standing = stands i; posted = words i }) ∙ ap (arbiter_in m) (sym (state_more m h e)) in
    record { legal = legal_next m h e at.legal may; state = next }

-- a post of the arbiter's next stale word may follow the history
pub post_may_follow : (m : Machine) (h : History) (a : Arbiter) (w value : ℕ) → StandsAt m h a → next_stale_of a.standing a.posted ≡ Some w → value ≡ word_of a.standing w → MayFollow m h (Posted w value)
post_may_follow m h a w value at next is =
    let may : MayPost (state_after m h) w value = record { turn = rw at.state at next; is = rw at.state at is } in
    (follows_by_state m h (Posted w value)).1 may

-- and the arbiter stands where that post leads
pub stands_posted : (m : Machine) (h : History) (a b : Arbiter) (w value : ℕ) → StandsAt m h a → next_stale_of a.standing a.posted ≡ Some w → value ≡ word_of a.standing w
    → b ≡ record a { posted = slice_set a.posted w (word_of a.standing w) } → StandsAt m (h ++ Posted w value ∷ []) b
stands_posted m h a b w value at next is after =
    let may = post_may_follow m h a w value at next is in
    record { legal = legal_next m h (Posted w value) at.legal may; state = rw (after, state_more m h (Posted w value), is, at.state) }

-- the arbiter's machine is the history's
pub machine_at : (m : Machine) (h : History) (a : Arbiter) → StandsAt m h a → IsArbiter a → IsMachine m
machine_at m h a at i = rw at.state at i.machine

-- where the arbiter has no stale word, none is stale after the history
pub settled_at : (m : Machine) (h : History) (a : Arbiter) → StandsAt m h a → next_stale_of a.standing a.posted ≡ None → IsSettled m h
settled_at m h a at none = rw at.state at none
