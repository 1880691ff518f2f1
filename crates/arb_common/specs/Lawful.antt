-- What holds at each point of a legal history of a machine with any limit on orders.
use Rattle.std.specs.Prelude.{◌≡◌, ℕ, ◌<◌, ◌≤◌, ◌++◌, ◌∷◌, slice_index}
use mathlib.Core.List.{IsPrefix}
use Rattle.arb_config.specs.Machine.{Machine}
use Rattle.arb_model.specs.declared.orders.Entry.{Entry}
use Rattle.arb_model.specs.declared.orders.Event.TheVariants.{Entered}
use Rattle.arb_model.specs.History.{History, NamesNoCoreTwice, count_of, orders_in, state_after}
use Rattle.arb_model.specs.Layout.{word_count}
use Rattle.arb_model.specs.Limits.{clients}
use Rattle.arb_model.specs.Reading.{ReadsNoCoreTwice, reading}
use Rattle.arb_model.specs.WellFormed.{IsStanding}
use Rattle.arb_common.specs.Giving.{reply_at}

-- no core is placed, posted or read twice; each word reads what was posted; entries have the replies of the steps, and their numbers; and orders are counted, for each client and within the limit
pub record IsLawful (m : Machine) (h : History) : Type 0 where
  -- no thread is in two places, and each core has one holder at most
  pub standing : IsStanding m (state_after m h).standing
  pub posted : NamesNoCoreTwice (state_after m h).posted
  pub read : ReadsNoCoreTwice h
  pub words : (w : ℕ) → w < word_count → reading h w ≡ slice_index (state_after m h).posted w
  -- the reply of each entry is that of the step in the state before it, and its number is the count of its client's earlier entries
  pub replies : (before rest : History) (e : Entry) → before ++ Entered e ∷ rest ≡ h → e.reply ≡ reply_at m before e.client e.order
  pub numbers : (before rest : History) (e : Entry) → before ++ Entered e ∷ rest ≡ h → e.number ≡ count_of before e.client
  pub counts : (client : ℕ) → client < clients → slice_index (state_after m h).standing.counts client ≡ count_of h client
  pub within : orders_in h ≤ m.orders

-- so it is at each point of a history
abbrev pub IsLawfulThroughout : Machine → History → Type 0
IsLawfulThroughout m h = (point : History) → IsPrefix point h → IsLawful m point
