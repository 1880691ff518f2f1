-- What is printed of orders with their replies.
use Rattle.std.specs.Prelude.{ℕ, List, [], ◌∷◌, ◌++◌, codes}
use Rattle.arb_share.specs.Text.{line_feed, space}
use Rattle.arb_model.specs.declared.orders.Order.{Order}
use Rattle.arb_model.specs.declared.orders.Reply.{Reply}
use Rattle.arb_model.specs.Texts.{client_word, order_text, reply_text}

-- an order of a client as text: one line of a script
abbrev pub given_text : (client : ℕ) → Order → List ℕ
given_text client order = client_word client ++ space ∷ order_text order

-- an order of a client and what came of it, as one line
abbrev pub outcome_line : (client : ℕ) → Order → (outcome : List ℕ) → List ℕ
outcome_line client order outcome = given_text client order ++ codes " -> " ++ outcome ++ line_feed ∷ []

-- an order of a client with its reply
abbrev pub entry_text : (client : ℕ) → Order → Reply → List ℕ
entry_text client order reply = outcome_line client order (reply_text reply)

-- an order of a client that came after the limit on orders
abbrev pub full_text : (client : ℕ) → Order → List ℕ
full_text client order = outcome_line client order (codes "full")
