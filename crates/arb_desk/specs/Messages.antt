-- Lists of messages: a client's, and where a close mark may stand.
use Rattle.std.specs.Prelude.{ℕ, ◌==◌, Bool, true, false, not, ◌&&◌, ◌||◌, List, [], ◌∷◌, ◌++◌, filter}
use Rattle.arb_desk.specs.declared.message.Body.{Body}
use Rattle.arb_desk.specs.declared.message.Body.TheVariants.{Put, Close}
use Rattle.arb_desk.specs.declared.message.Message.{Message}

-- a client's messages, in their order
abbrev pub messages_by : ℕ → List Message → List Message
messages_by client ms = filter (λ m. m.client == client) ms

-- what a client put: what was taken of it, and then what the queue holds of it
abbrev pub put_by : ℕ → List Message → List Message → List Message
put_by client taken held = messages_by client taken ++ messages_by client held

-- whether a message closes its client
abbrev pub closes : Body → Bool
closes (Put order) = false
closes Close = true

-- whether a message is a close mark
abbrev pub is_mark : Message → Bool
is_mark m = closes m.body

-- whether there is a close mark among the messages
abbrev pub is_closed : List Message → Bool
is_closed [] = false
is_closed (m ∷ ms) = is_mark m || is_closed ms

-- whether no message follows a close mark
abbrev pub ends_at_mark : List Message → Bool
ends_at_mark [] = true
ends_at_mark (m ∷ []) = true
ends_at_mark (m ∷ n ∷ ms) = not (is_mark m) && ends_at_mark (n ∷ ms)
