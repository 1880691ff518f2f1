-- Clients, orders and replies as text, as scripts and reports write them.
use Rattle.std.specs.Prelude.{ℕ, ◌%◌, ◌==◌, List, [], ◌∷◌, ◌++◌, Bool, true, false, if◌then◌else◌, map, codes, decimal}
use Rattle.std.specs.List.{join_with_byte}
use Rattle.arb_share.specs.Text.{space}
use Rattle.arb_model.specs.declared.orders.Order.{Order}
use Rattle.arb_model.specs.declared.orders.Order.TheVariants.{Join, Ask, Cap, Block, Retire, Leave, Status, Tick}
use Rattle.arb_model.specs.declared.orders.Place.{Place}
use Rattle.arb_model.specs.declared.orders.Place.TheVariants.{Unmanaged, Waiting, Moved as was_moved, On}
use Rattle.arb_model.specs.declared.orders.Refusal.{Refusal}
use Rattle.arb_model.specs.declared.orders.Refusal.TheVariants.{AlreadyJoined, NotJoined, AlreadyWaiting, ClockBack, NotAThread, CapTooLarge}
use Rattle.arb_model.specs.declared.orders.Reply.{Reply}
use Rattle.arb_model.specs.declared.orders.Reply.TheVariants.{Joined, Due, Now, Done, Counts, Moved, Refused}
use Rattle.arb_model.specs.Limits.{threads}
use Rattle.arb_model.specs.Standing.{the_clock, app_of}

-- a dot, which stands between the numbers of an application and a thread
abbrev pub dot : ℕ
dot = 46

-- the word of the clock
abbrev pub clock_word : List ℕ
clock_word = codes "clock"

-- the word of a thread: the number of its application, a dot, and its number there
abbrev pub thread_word : ℕ → List ℕ
thread_word thread = decimal (app_of thread) ++ dot ∷ decimal (thread % threads)

-- the word of a client
abbrev pub client_word : ℕ → List ℕ
client_word client = if client == the_clock then clock_word else thread_word client

-- the word of an order
abbrev pub order_word : Order → List ℕ
order_word Join = codes "join"
order_word (Ask request) = codes "ask"
order_word (Cap cap) = codes "cap"
order_word Block = codes "block"
order_word Retire = codes "retire"
order_word Leave = codes "leave"
order_word Status = codes "status"
order_word (Tick moment) = codes "tick"

-- the words after it: the entries of a request, a cap, a moment
abbrev pub words_after : Order → List (List ℕ)
words_after (Ask request) = map decimal request
words_after (Cap cap) = decimal cap ∷ []
words_after (Tick moment) = decimal moment ∷ []
words_after order = []

-- an order as text: its words with one space between them
abbrev pub order_text : Order → List ℕ
order_text order = join_with_byte space (order_word order ∷ words_after order)

-- where an asked core is named, this follows it
abbrev pub asked_text : Bool → List ℕ
asked_text false = []
asked_text true = codes " asked"

-- a place
abbrev pub place_text : Place → List ℕ
place_text Unmanaged = codes "unmanaged"
place_text Waiting = codes "waiting"
place_text was_moved = codes "moved"
place_text (On core asked) = codes "core " ++ decimal core ++ asked_text asked

-- a refusal, by its number and name
abbrev pub refusal_text : Refusal → List ℕ
refusal_text AlreadyJoined = codes "1 already-joined"
refusal_text NotJoined = codes "2 not-joined"
refusal_text AlreadyWaiting = codes "4 already-waiting"
refusal_text (ClockBack clock) = codes "5 clock-back " ++ decimal clock
refusal_text NotAThread = codes "6 not-a-thread"
refusal_text CapTooLarge = codes "7 cap-too-large"

-- a reply
abbrev pub reply_text : Reply → List ℕ
reply_text Joined = codes "joined"
reply_text (Due due) = codes "due " ++ decimal due
reply_text (Now place) = codes "now " ++ place_text place
reply_text Done = codes "done"
reply_text (Counts due owned asked waiting) =
    codes "counts due " ++ decimal due ++ codes " owned " ++ decimal owned ++ codes " asked " ++ decimal asked ++ codes " waiting " ++ decimal waiting
reply_text (Moved threads) = codes "moved " ++ decimal threads
reply_text (Refused refusal) = codes "refused " ++ refusal_text refusal
