-- What is drawn of a run: after each chosen order, who has each core, and what each application owns, is due and wants.
use Rattle.std.specs.Prelude.{ℕ, ◌+◌, ◌*◌, List, Option, Some, None, map, sum, filter, Bool, is_some, option_map, slice_index, take, length, nat_lt}
use Rattle.std.specs.List.{range_with_len}
use Rattle.arb_share.specs.Limits.{applications}
use Rattle.arb_config.specs.Machine.{Machine, cores_of}
use Rattle.arb_model.specs.declared.holders.Holder.{Holder}
use Rattle.arb_model.specs.Limits.{threads}
use Rattle.arb_model.specs.Lists.{count_below}
use Rattle.arb_model.specs.Standing.{Standing, cap_of, cut_at, holder_at, owned, request_of, waiting_count}
use Rattle.arb_model.specs.Step.{due_now}
use Rattle.arb_script.specs.declared.given.ClientOrder.{ClientOrder}
use Rattle.arb_script.specs.Report.{standing_after}
use Rattle.arb_draw.specs.declared.cell.Amounts.{Amounts}
use Rattle.arb_draw.specs.declared.cell.AppThreads.{AppThreads}
use Rattle.arb_draw.specs.declared.cell.Cell.{Cell}

-- who has a core, and whether it is asked back
abbrev pub cell_of : Option Holder → Option Cell
cell_of None = None
cell_of (Some holder) = Some (record { thread = holder.thread; asked = is_some holder.asked })

-- who has each managed core, by position
abbrev pub cells_of : Machine → Standing → List (Option Cell)
cells_of m s = map (λ position. cell_of (holder_at s.seats.cores position)) (range_with_len 0 (length (cores_of m)))

-- how many cores a request wants, at all levels together
abbrev pub wanted_by : Option (List ℕ) → ℕ
wanted_by None = 0
wanted_by (Some request) = sum request

-- what an application owns, is due and wants, up to its cap, and how many of its threads wait
abbrev pub amounts_of : Machine → Standing → (app : ℕ) → Amounts
amounts_of m s app =
    record {
      owns = owned app s.seats.cores;
      due = slice_index (due_now m s) app;
      wants = wanted_by (option_map (cut_at (cap_of s app)) (request_of s app));
      waits = waiting_count app s.seats.waiting;
    }

-- the amounts of each application
unfoldable pub all_amounts : Machine → Standing → List Amounts
all_amounts m s = map (amounts_of m s) (range_with_len 0 applications)

-- what is drawn of a standing
pub record Shown : Type 0 where
  -- who has each managed core, by position
  pub cells : List (Option Cell)
  -- of each application
  pub amounts : List Amounts
  -- the latest moment, in microseconds
  pub clock : ℕ

-- what is drawn of a standing
abbrev pub frame_of : Machine → Standing → Shown
frame_of m s =
    record {
      cells = cells_of m s;
      amounts = all_amounts m s;
      clock = s.clock;
    }

-- what is drawn of a script after so many orders, from the first of them on; orders are numbered from 1
abbrev pub frames_of : Machine → (script : List ClientOrder) → (first count : ℕ) → List Shown
frames_of m script first count = map (λ order. frame_of m (standing_after m (take order script))) (range_with_len first count)

-- of how many threads of an application an order was entered
unfoldable pub thread_count : Standing → (app : ℕ) → ℕ
thread_count s app = count_below (λ thread. nat_lt 0 (slice_index s.counts (threads * app + thread))) threads

-- whether a thread of the application gave an order
abbrev pub has_threads : AppThreads → Bool
has_threads entry = nat_lt 0 entry.threads

-- of so many applications those of which a thread gave an order
abbrev pub apps_below : Standing → (count : ℕ) → List AppThreads
apps_below s count = filter has_threads (map (λ app. record { app = app; threads = thread_count s app }) (range_with_len 0 count))

-- the applications of which a thread gave an order
unfoldable pub apps_of : Standing → List AppThreads
apps_of s = apps_below s applications
