-- What comes of each call, and which code it answers.
use Rattle.std.specs.Prelude.{◌≡◌, ℕ, ◌≤◌, List, Option, None, Some, Result, Ok, Err, is_some, nat_le, nat_lt, if◌then◌else◌, length, slice_set, sum}
use Rattle.std.specs.Str.{IsUtf8}
use Rattle.toml.specs.Parse.{parse_document}
use Rattle.arb_share.specs.Limits.{applications}
use Rattle.arb_config.specs.declared.fault.ConfigFault.{ConfigFault}
use Rattle.arb_config.specs.Config.{outcome_of}
use Rattle.arb_config.specs.Machine.{Machine, cores_of}
use Rattle.arb_model.specs.declared.orders.Order.{Order}
use Rattle.arb_model.specs.declared.orders.Reply.{Reply}
use Rattle.arb_model.specs.Arbiter.{Arbiter}
use Rattle.arb_model.specs.Layout.{word_count}
use Rattle.arb_model.specs.Limits.{all_threads}
use Rattle.arb_model.specs.Owners.{IsOwner}
use Rattle.arb_model.specs.Posting.{next_stale_of}
use Rattle.arb_model.specs.Renewal.{renewed}
use Rattle.arb_model.specs.Standing.{request_of, the_clock}
use Rattle.arb_model.specs.Step.{Outcome, step_of}
use Rattle.arb_model.specs.Words.{word_of}
use Rattle.arb_c.specs.declared.wire.WirePost.{WirePost}
use Rattle.arb_c.specs.declared.wire.WireReply.{WireReply}
use Rattle.arb_c.specs.Codes.{closed, full, no_application, no_client, no_position, no_request, no_word, ok, settled, stale}
use Rattle.arb_c.specs.Holding.{Holding, opening_holding, orders_of, sums_of}
use Rattle.arb_c.specs.Wire.{reply_shown}

-- ---- opening

-- the most bytes that the text of a machine may have
abbrev pub max_text : ℕ
max_text = 65536

-- a closed handle, and a text that is short enough and UTF-8: what is left to say is the text's outcome
abbrev pub IsOpenable : {A : Type 0} → (held : Option A) → (text : List ℕ) → Type 0
IsOpenable held text = (held ≡ None) × (length text ≤ max_text) × IsUtf8 text

-- the arbiter, before all orders, of the machine that a text describes, and the unmanaged cores that it lists
abbrev pub Opens : (after : Option Holding) → (text : List ℕ) → Type 0
Opens after text = OfOutcome (outcome_of (parse_document text))
  where
    OfOutcome : Result Machine ConfigFault → Type 0
    OfOutcome (Ok machine) = after ≡ Some (opening_holding (parse_document text) machine)
    OfOutcome (Err fault) = ⊥

-- ---- an order

-- the order step of an arbiter
abbrev pub outcome_by : Arbiter → (client : ℕ) → Order → Outcome
outcome_by a client order = step_of a.machine a.standing client order

-- the reply to an order
abbrev pub reply_of : Arbiter → (client : ℕ) → Order → Reply
reply_of a client order = (outcome_by a client order).reply

-- the arbiter after an order: the standing is the step's, and word 0, the count of orders, is posted
abbrev pub stepped : Arbiter → (client : ℕ) → Order → Arbiter
stepped a client order =
    let after = (outcome_by a client order).standing in
    record { machine = a.machine; standing = after; posted = slice_set a.posted 0 (word_of after 0) }

-- the arbiter is renewed, and what it counted is kept
abbrev pub renewed_one : Holding → Holding
renewed_one h = record h { arbiter = renewed h.arbiter; earlier = sums_of h.earlier h.arbiter.standing.counts }

-- what an order is entered in: where the arbiter takes no further order, it is renewed
abbrev pub with_room : Holding → Holding
with_room h = if nat_le h.arbiter.machine.orders (sum h.arbiter.standing.counts) then renewed_one h else h

-- an order is entered in an arbiter
abbrev pub stepped_one : Holding → (client : ℕ) → Order → Holding
stepped_one h client order = record h { arbiter = stepped h.arbiter client order }

-- the arbiter after the order, and its reply, as C has it
abbrev pub Steps : (before : Option Holding) → (client : ℕ) → Result Order ℕ → (after : Option Holding) → WireReply → Type 0
Steps (Some before) client (Ok order) after reply =
    (after ≡ Some (stepped_one (with_room before) client order))
    × (reply ≡ reply_shown (reply_of before.arbiter client order))
Steps before client order after reply = ⊥

-- the code of an order: the first that applies
abbrev pub step_code : Option Holding → (client : ℕ) → Result Order ℕ → ℕ
step_code None client order = closed
step_code (Some h) client order = if nat_lt the_clock client then no_client else named_code order
  where
    named_code : Result Order ℕ → ℕ
    named_code (Err code) = code
    named_code (Ok order) =
        if is_some (next_stale_of h.arbiter.standing h.arbiter.posted) then stale
        else if nat_le h.limit (orders_of h) then full
        else ok

-- ---- a post

-- a word is posted with a value
abbrev pub posted_one : Arbiter → (word value : ℕ) → Arbiter
posted_one a word value = record a { posted = slice_set a.posted word value }

-- the next stale word is posted, and told with its value
abbrev pub Posts : (before after : Option Holding) → WirePost → Type 0
Posts (Some before) after post = (next_stale_of before.arbiter.standing before.arbiter.posted ≡ Some post.word)
    × (post.value ≡ word_of before.arbiter.standing post.word)
    × (after ≡ Some (record before { arbiter = posted_one before.arbiter post.word post.value }))
Posts None after post = ⊥

-- the code of a post
abbrev pub post_code : Option Arbiter → ℕ
post_code None = closed
post_code (Some a) = if is_some (next_stale_of a.standing a.posted) then ok else settled

-- ---- readers

-- the code of a call that only wants an open handle
abbrev pub open_code : Option Arbiter → ℕ
open_code None = closed
open_code (Some a) = ok

-- the code of a call that wants a client's number
abbrev pub client_code : Option Arbiter → (client : ℕ) → ℕ
client_code None client = closed
client_code (Some a) client = if nat_le client the_clock then ok else no_client

-- the code of a call that wants a number below a bound, or else answers another code
abbrev pub code_below : {A : Type 0} → Option A → (bound : A → ℕ) → (number otherwise : ℕ) → ℕ
code_below None bound number otherwise = closed
code_below (Some held) bound number otherwise = if nat_lt number (bound held) then ok else otherwise

-- the code of a call that wants a thread's number
abbrev pub thread_code : Option Arbiter → (thread : ℕ) → ℕ
thread_code a thread = code_below a (λ _. all_threads) thread no_client

-- the code of a call that wants the number of a page word
abbrev pub word_code : Option Arbiter → (word : ℕ) → ℕ
word_code a word = code_below a (λ _. word_count) word no_word

-- the code of a call that wants an application's number
abbrev pub application_code : Option Arbiter → (app : ℕ) → ℕ
application_code a app = code_below a (λ _. applications) app no_application

-- the code of a call that wants the number of an application that has joined
abbrev pub request_code : Option Arbiter → (app : ℕ) → ℕ
request_code None app = closed
request_code (Some a) app =
    if nat_lt app applications then (if is_some (request_of a.standing app) then ok else no_request) else no_application

-- the code of a call that wants the index of an unmanaged core
abbrev pub index_code : Option Holding → (index : ℕ) → ℕ
index_code h index = code_below h (λ h. length h.unmanaged) index no_position

-- the code of a call that wants a position
abbrev pub position_code : Option Arbiter → (position : ℕ) → ℕ
position_code a position = code_below a (λ a. length (cores_of a.machine)) position no_position

-- the thread is on the core of a number
abbrev pub IsOwnerAt : Option Arbiter → (core thread : ℕ) → Type 0
IsOwnerAt None core thread = ⊥
IsOwnerAt (Some a) core thread = IsOwner a.machine a.standing.seats core thread

-- no thread is on the core of a number
abbrev pub HasNoOwner : Option Arbiter → (core : ℕ) → Type 0
HasNoOwner None core = ⊥
HasNoOwner (Some a) core = (thread : ℕ) → ¬ (IsOwner a.machine a.standing.seats core thread)
