-- What is proved of the bars of a run.
use Rattle.std.specs.Prelude.{◌≡◌, ℕ, ◌+◌, ◌<◌, ◌≤◌, ◌↔◌, List, Option, Bool, true, false, ◌&&◌, Contains, length, take}
use Rattle.arb_config.specs.Machine.{Machine, cores_of}
use Rattle.arb_model.specs.declared.holders.Holder.{Holder}
use Rattle.arb_model.specs.Standing.{holder_at, is_asked, is_held_by}
use Rattle.arb_script.specs.declared.given.ClientOrder.{ClientOrder}
use Rattle.arb_script.specs.Report.{standing_after}
use Rattle.arb_draw.specs.declared.bar.Bar.{Bar}
use Rattle.arb_draw.specs.declared.choice.Orders.{Orders}
use Rattle.arb_draw.specs.declared.part.Part.{Part}
use Rattle.arb_draw.specs.declared.part.Part.TheVariants.{Held, Asked}
use Rattle.arb_draw.specs.Bars.{core_at}
use Rattle.arb_draw.specs.Picture.{run_bars}

-- who is on the core at a position after an order of a script, counted from 1
abbrev pub owner_after : Machine → (script : List ClientOrder) → (order position : ℕ) → Option Holder
owner_after m script order position = holder_at (standing_after m (take order script)).seats.cores position

-- whether a thread has a core; or has it while it is asked back
abbrev pub has : Part → (thread : ℕ) → Option Holder → Bool
has Held thread holder = is_held_by thread holder
has Asked thread holder = is_held_by thread holder && is_asked holder

-- a bar of a thread on a core covers an order
pub record HasBar (bars : List Bar) (m : Machine) (part : Part) (position thread order : ℕ) : Type 0 where
  pub bar : Bar
  pub drawn : Contains bars bar
  pub shows : bar.part ≡ part
  pub core : bar.core ≡ core_at m position
  pub of : bar.thread ≡ thread
  pub from : bar.from ≤ order
  pub to : order < bar.to

-- of each core, thread and drawn order: there is a bar exactly where the thread has the core after that order
abbrev pub BarsAreOwners : Type 0
BarsAreOwners = (m : Machine) (script : List ClientOrder) (orders : Orders) (part : Part) (position thread order : ℕ)
    → position < length (cores_of m) → orders.first ≤ order → order < orders.first + orders.count
    → HasBar (run_bars m script orders) m part position thread order ↔ (has part thread (owner_after m script order position) ≡ true)

-- a bar is as long as it can be: it has an order, all are drawn, and neither before its first order nor after its last has
-- the thread the core, where these are drawn
pub record IsLongest (m : Machine) (script : List ClientOrder) (orders : Orders) (bar : Bar) : Type 0 where
  pub some : bar.from < bar.to
  pub first : orders.first ≤ bar.from
  pub last : bar.to ≤ orders.first + orders.count
  pub before : (order : ℕ) → orders.first ≤ order → order + 1 ≡ bar.from → has bar.part bar.thread (owner_after m script order bar.core.position) ≡ false
  pub after : bar.to < orders.first + orders.count → has bar.part bar.thread (owner_after m script bar.to bar.core.position) ≡ false

-- each bar is a longest one
abbrev pub BarsAreLongest : Type 0
BarsAreLongest = (m : Machine) (script : List ClientOrder) (orders : Orders) (bar : Bar)
    → Contains (run_bars m script orders) bar → IsLongest m script orders bar
