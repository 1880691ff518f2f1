-- What is proved of the texts.
use Rattle.std.specs.Prelude.{◌≡◌, ℕ, ◌<◌, ◌∷◌, ◌++◌, []}
use Rattle.arb_share.specs.Text.{line_feed}
use Rattle.arb_model.specs.declared.orders.Order.{Order}
use Rattle.arb_model.specs.Limits.{clients}
use Rattle.arb_model.specs.History.{FitsOrder}
use Rattle.arb_script.specs.Printed.{given_text}
use Rattle.arb_script.specs.Script.{gives, said_in}

-- an order of a client that is printed is read again as the same order of the same client
abbrev pub ReadsBack : Type 0
ReadsBack = (client : ℕ) (order : Order) → client < clients → FitsOrder order → said_in (given_text client order ++ line_feed ∷ []) ≡ gives (record { client = client; order = order }) ∷ []
