-- Which orders of a script are drawn.
use Rattle.std.specs.Prelude.{ℕ, ◌+◌, ◌-◌, ◌==◌, ◌||◌, Option, Result, Ok, Err, nat_lt, if◌then◌else◌}
use Rattle.std.specs.Option.{unwrap_or}
use Rattle.arb_draw.specs.declared.choice.ChoiceFault.{ChoiceFault}
use Rattle.arb_draw.specs.declared.choice.ChoiceFault.TheVariants.{NoOrder, Backwards, TooMany}
use Rattle.arb_draw.specs.declared.choice.Orders.{Orders}
use Rattle.arb_draw.specs.Limits.{max_orders}

-- the orders from one to another, both counted from 1, of so many: or why they can't be drawn
abbrev pub orders_between : (from to orders : ℕ) → Result Orders ChoiceFault
orders_between from to orders =
    if (from == 0) || nat_lt orders from then Err (NoOrder from orders)
    else (if nat_lt orders to then Err (NoOrder to orders)
    else (if nat_lt to from then Err (Backwards from to)
    else (if nat_lt max_orders (to - from + 1) then Err (TooMany (to - from + 1))
    else Ok (record { first = from; count = to - from + 1 }))))

-- what is left out is the first and the last order
abbrev pub chosen : (from to : Option ℕ) → (orders : ℕ) → Result Orders ChoiceFault
chosen from to orders = orders_between (unwrap_or from 1) (unwrap_or to orders) orders
