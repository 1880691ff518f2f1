-- The report of a script: what came of each order, and who has each core at the end.
use Rattle.std.specs.Prelude.{ℕ, List, ◌++◌, nat_lt, if◌then◌else◌, fold, sum, take}
use Rattle.std.specs.List.{concat}
use Rattle.arb_config.specs.Machine.{Machine}
use Rattle.arb_model.specs.Lists.{each_at}
use Rattle.arb_model.specs.Standing.{Standing, opening}
use Rattle.arb_model.specs.Step.{step_of}
use Rattle.arb_script.specs.declared.given.ClientOrder.{ClientOrder}
use Rattle.arb_script.specs.Printed.{entry_text, full_text}
use Rattle.arb_script.specs.Table.{table_text}

-- the standing after an order more, which is entered where fewer orders than the limit were
abbrev pub standing_next : Machine → Standing → ClientOrder → Standing
standing_next m s given = if nat_lt (sum s.counts) m.orders then (step_of m s given.client given.order).standing else s

-- the standing after orders
abbrev pub standing_after : Machine → List ClientOrder → Standing
standing_after m orders = fold (standing_next m) (opening m) orders

-- the line of an order in a standing: the order with its reply, or where the limit is reached that it came too late
abbrev pub order_line : Machine → Standing → ClientOrder → List ℕ
order_line m s given = if nat_lt (sum s.counts) m.orders then entry_text given.client given.order (step_of m s given.client given.order).reply else full_text given.client given.order

-- the lines of orders, each in the standing after those before it
abbrev pub order_lines : Machine → List ClientOrder → List ℕ
order_lines m orders = concat (each_at (λ place given. order_line m (standing_after m (take place orders)) given) 0 orders)

-- the report of a script: the lines of its orders, then the owner table
abbrev pub report : Machine → (script : List ClientOrder) → List ℕ
report m script = order_lines m script ++ table_text m (standing_after m script).seats
