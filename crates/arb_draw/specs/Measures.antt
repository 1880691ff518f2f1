-- What is drawn of an application over a run.
use Rattle.std.specs.Prelude.{ℕ, List, map, max, fold, slice_index_or}
use Rattle.arb_draw.specs.declared.cell.Amounts.{Amounts}
use Rattle.arb_draw.specs.declared.measure.Measure.{Measure}
use Rattle.arb_draw.specs.declared.measure.Measure.TheVariants.{Waits, Wants, Due, Owns}
use Rattle.arb_draw.specs.Frames.{Shown}

-- nothing
abbrev pub no_amounts : Amounts
no_amounts = record { owns = 0; due = 0; wants = 0; waits = 0 }

-- the amount of a measure
abbrev pub amount : Measure → Amounts → ℕ
amount Waits amounts = amounts.waits
amount Wants amounts = amounts.wants
amount Due amounts = amounts.due
amount Owns amounts = amounts.owns

-- a measure of an application after each order
abbrev pub values_of : (frames : List Shown) → Measure → (app : ℕ) → List ℕ
values_of frames measure app = map (λ frame. amount measure (slice_index_or frame.amounts app no_amounts)) frames

-- the greatest of values, and 0 of none
abbrev pub greatest : List ℕ → ℕ
greatest values = fold max 0 values
