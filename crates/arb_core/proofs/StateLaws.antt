-- The step, as the code makes it.
use Rattle.std.proofs.Common.{◌≡◌, ℕ, List, length, ap, refl, None}
use Rattle.arb_model.specs.declared.orders.Order.{Order}
use Rattle.arb_model.specs.declared.orders.Reply.{Reply}
use Rattle.arb_share.specs.Due.{due_of}
use Rattle.arb_config.specs.Machine.{cores_of, socket_by_position}
use Rattle.arb_model.specs.Arbiter.{Arbiter}
use Rattle.arb_model.specs.Asks.{after_asks}
use Rattle.arb_model.specs.Changes.{own_change}
use Rattle.arb_seats.specs.ShownSeats.{ShownSeats}
use Rattle.arb_model.specs.Grants.{after_grants}
use Rattle.arb_core.specs.Asked.{Asked}
use Rattle.arb_model.specs.Standing.{Seats, Standing, requests_standing}
use Rattle.arb_model.specs.Step.{Outcome, answer_of, moved_by, refusal_of, reply_by, rebalanced}
use Rattle.arb_model.proofs.GrantsLaws.{seats}
use Rattle.arb_seats.proofs.ShownLaws.{seated}

abbrev pub stand : Asked → Seats → ℕ → List ℕ → Standing
stand asked seats clock counts =
    record { requests = asked.requests; caps = asked.caps; seats = seats; clock = clock; counts = counts }

-- an arbiter in another standing
abbrev pub with_standing : Arbiter → Standing → Arbiter
with_standing a s = record { machine = a.machine; standing = s; posted = a.posted }

-- the arbiter of the fields
abbrev pub stands : Asked → ShownSeats → ℕ → List ℕ → Arbiter
stands asked f clock counts = record { machine = f.machine; standing = stand asked f.seats clock counts; posted = f.posted }

-- an order that isn't refused, as the code makes it of an arbiter: its own change, then the asks and grants, then the reply
pub answered-as : (a changed after : Arbiter) (client : ℕ) (order : Order) (moved : ℕ) (reply : Reply) → None ≡ refusal_of a.standing client order → changed ≡ with_standing a (own_change a.machine a.standing client order) → moved ≡ moved_by a.machine a.standing order → after ≡ with_standing changed (rebalanced changed.machine changed.standing) → reply ≡ reply_by after.machine after.standing client moved order → ◌≡◌ {A = Outcome} (record { reply = reply; standing = after.standing }) (answer_of a.machine a.standing client order (refusal_of a.standing client order))
answered-as a changed after client order moved reply none c n s r = rw (r, n, s, c) (ap (answer_of a.machine a.standing client order) none)

-- the asks and the grants, as the code makes them of an arbiter
pub rebalanced-as : (asked : Asked) (due : List ℕ) (f after : ShownSeats) (clock : ℕ) (counts : List ℕ) (a : Arbiter) → stands asked f clock counts ≡ a → due ≡ due_of (requests_standing asked.requests asked.caps) (length (cores_of f.machine)) → after ≡ seated f (after_grants (socket_by_position f.machine) due (after_asks (socket_by_position f.machine) due clock f.seats)) → stands asked after clock counts ≡ with_standing a (rebalanced a.machine a.standing)
rebalanced-as asked due f after clock counts a is d e = rw (e, d, ← is) refl
