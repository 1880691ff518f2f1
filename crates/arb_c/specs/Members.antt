-- What comes of each call of a member's handle, and which code it answers.
use Rattle.std.specs.Prelude.{◌≡◌, ◌↔◌, ℕ, ◌+◌, [], ⊤, Bool, true, false, List, Option, None, Some, Result, Ok, Err, MatchBool, is_some, nat_le, nat_lt, if◌then◌else◌, length, option_map}
use mathlib.Core.List.{IsPrefix}
use Rattle.toml.specs.Data.{Members}
use Rattle.toml.specs.Parse.{parse_document}
use Rattle.arb_share.specs.Limits.{applications}
use Rattle.arb_config.specs.declared.fault.ConfigFault.{ConfigFault}
use Rattle.arb_config.specs.Config.{outcome_of}
use Rattle.arb_config.specs.Machine.{Machine, cores_of}
use Rattle.arb_model.specs.declared.orders.Order.{Order}
use Rattle.arb_model.specs.declared.orders.Reply.{Reply}
use Rattle.arb_model.specs.Arbiter.{Arbiter}
use Rattle.arb_model.specs.History.{IsLegal, orders_in, state_after}
use Rattle.arb_model.specs.Layout.{word_count}
use Rattle.arb_model.specs.Limits.{all_threads}
use Rattle.arb_model.specs.Owners.{IsOwner}
use Rattle.arb_model.specs.Posting.{next_stale_of}
use Rattle.arb_model.specs.Reading.{reading}
use Rattle.arb_model.specs.Standing.{request_of, the_clock}
use Rattle.arb_common.specs.declared.giving.Given.{Given}
use Rattle.arb_common.specs.declared.giving.Given.TheVariants.{Answered, Busy, Full}
use Rattle.arb_common.specs.Giving.{Begins, EntersOne, Gives, PostsOne, busier}
use Rattle.arb_common.specs.Limits.{StandsAt, with_limit}
use Rattle.arb_common.specs.Sides.{Side, out_of_turn}
use Rattle.arb_c.specs.declared.member.handle.MemberHandle.{MemberHandle}
use Rattle.arb_c.specs.declared.wire.WirePost.{WirePost}
use Rattle.arb_c.specs.declared.wire.WireReply.{WireReply}
use Rattle.arb_c.specs.Calls.{code_below}
use Rattle.arb_c.specs.Codes.{closed, full, in_a_turn, in_no_turn, no_application, no_client, no_position, no_request, no_word, ok, stale, taken}
use Rattle.arb_c.specs.Holding.{limit_in, unmanaged_in}
use Rattle.arb_c.specs.MemberHolding.{Description, MemberHolding}
use Rattle.arb_c.specs.Wire.{reply_shown}

-- what a member's handle is open on, or none where it is closed
abbrev pub member_of : MemberHandle → Option MemberHolding
member_of handle = handle.held.value

-- what holds of two, where both are there
abbrev pub OfBoth : {A : Type 0} → Option A → Option A → (A → A → Type 0) → Type 0
OfBoth (Some before) (Some after) holds = holds before after
OfBoth before after holds = ⊥

-- another step of the member, or none: it has seen and done nothing else
abbrev pub SameHistory : (before after : MemberHolding) → Type 0
SameHistory before after = after ≡ record before { stance = record before.stance { side = record before.stance.side { steps = after.stance.side.steps; busy = after.stance.side.busy } } }

-- the same of what a handle holds, open or closed
abbrev pub IsAsBefore : (before after : Option MemberHolding) → Type 0
IsAsBefore None after = after ≡ None
IsAsBefore (Some before) None = ⊥
IsAsBefore (Some before) (Some after) = SameHistory before after

-- ---- opening

-- a member that is in no turn, of the machine that a text describes with the text's limit on orders; it has seen no event
pub record OpensMember (document : Option Members) (machine : Machine) (after : MemberHolding) : Type 0 where
  pub side : Side
  pub stance : after.stance ≡ out_of_turn side
  pub machine_is : side.machine ≡ with_limit machine (limit_in document machine)
  pub seen : side.seen ≡ []
  pub mine : side.mine ≡ []
  pub described : after.described ≡ record { machine = machine; limit = limit_in document machine; unmanaged = unmanaged_in document }

-- the same of a text
abbrev pub OpensShared : (after : Option MemberHolding) → (text : List ℕ) → Type 0
OpensShared None text = ⊥
OpensShared (Some after) text = OfOutcome (outcome_of (parse_document text))
  where
    OfOutcome : Result Machine ConfigFault → Type 0
    OfOutcome (Ok machine) = OpensMember (parse_document text) machine after
    OfOutcome (Err fault) = ⊥

-- one more member has seen as much, and entered nothing; it is in no turn
abbrev pub Copies : (before other : MemberHolding) → Type 0
Copies before other = other ≡ record { stance = out_of_turn (record before.stance.side { mine = []; steps = 0; busy = 0 }); described = before.described }

-- ---- orders

-- the code of a call that wants a member, and one that is in a turn or in none
abbrev pub turn_code : (wanted : Bool) → (missing : ℕ) → Option MemberHolding → ℕ
turn_code wanted missing None = closed
turn_code true missing (Some m) = if m.stance.in_turn then ok else missing
turn_code false missing (Some m) = if m.stance.in_turn then missing else ok

-- the code of a call that wants one in no turn
abbrev pub free_code : Option MemberHolding → ℕ
free_code m = turn_code false in_a_turn m

-- the code of a call that wants one in a turn
abbrev pub held_code : Option MemberHolding → ℕ
held_code m = turn_code true in_no_turn m

-- the code of an order that may be given: the first that applies
abbrev pub order_code : (rest : Option MemberHolding → ℕ) → Option MemberHolding → (client : ℕ) → Result Order ℕ → ℕ
order_code rest None client order = closed
order_code rest (Some m) client order = if nat_lt the_clock client then no_client else named_code order
  where
    named_code : Result Order ℕ → ℕ
    named_code (Err code) = code
    named_code (Ok order) = rest (Some m)

-- the code of what comes of an order
abbrev pub given_code : Given → ℕ
given_code (Answered reply) = ok
given_code Busy = taken
given_code Full = full

-- the reply as C then has it
abbrev pub reply_given : Given → (before : WireReply) → WireReply
reply_given (Answered reply) before = reply_shown reply
reply_given Busy before = before
reply_given Full before = before

-- an order was given, with this code and this reply: it was answered, or another member has the lock, or the limit is reached
pub record GivesAs (before : MemberHolding) (client : ℕ) (named : Result Order ℕ) (code : ℕ) (old new : WireReply) (after : MemberHolding) : Type 0 where
  pub order : Order
  pub order_is : named ≡ Ok order
  pub given : Given
  pub gives : Gives before.stance.side client order given after.stance.side
  pub legal : IsLegal before.stance.side.machine after.stance.side.seen
  pub code_is : code ≡ given_code given
  pub reply_is : new ≡ reply_given given old
  pub rest : after ≡ record before { stance = out_of_turn after.stance.side }
  pub same : (after.stance.side.table ≡ before.stance.side.table) × (after.stance.side.machine ≡ before.stance.side.machine)

-- a turn began
pub record BeginsTurn (before after : MemberHolding) : Type 0 where
  pub begins : Begins before.stance.side after.stance.side
  pub rest : after ≡ record before { stance = record { side = after.stance.side; in_turn = true } }

-- another member has the lock, as one step told
abbrev pub FoundTaken : (before after : MemberHolding) → Type 0
FoundTaken before after = after ≡ record before { stance = record before.stance { side = busier before.stance.side } }

-- the code of an order in a turn
abbrev pub entering_code : Option MemberHolding → ℕ
entering_code None = closed
entering_code (Some m) =
    if m.stance.in_turn then
    (let k = state_after m.stance.side.machine m.stance.side.seen in
    if is_some (next_stale_of k.standing k.posted) then stale
    else if nat_le m.stance.side.machine.orders (orders_in m.stance.side.seen) then full
    else ok)
    else in_no_turn

-- an order was entered in a turn
pub record EntersAs (before : MemberHolding) (client : ℕ) (named : Result Order ℕ) (new : WireReply) (after : MemberHolding) : Type 0 where
  pub order : Order
  pub order_is : named ≡ Ok order
  pub reply : Reply
  pub enters : EntersOne before.stance.side client order reply after.stance.side
  pub legal : IsLegal before.stance.side.machine after.stance.side.seen
  pub reply_is : new ≡ reply_shown reply
  pub rest : after ≡ record before { stance = record before.stance { side = after.stance.side } }

-- a turn began, and an order was entered in it
pub record BeginsWith (before : MemberHolding) (client : ℕ) (named : Result Order ℕ) (new : WireReply) (after : MemberHolding) : Type 0 where
  pub begun : MemberHolding
  pub begins : BeginsTurn before begun
  pub enters : EntersAs begun client named new after

-- the limit is reached, as the member then sees, and nothing was entered; three steps take the lock, read the count and give the lock back
pub record MeetsLimit (before after : MemberHolding) : Type 0 where
  pub later : IsPrefix before.stance.side.seen after.stance.side.seen
  pub legal : IsLegal before.stance.side.machine after.stance.side.seen
  pub reached : orders_in after.stance.side.seen ≡ before.stance.side.machine.orders
  pub rest : after ≡ record before { stance = out_of_turn (record before.stance.side { seen = after.stance.side.seen; steps = before.stance.side.steps + 3 }) }

-- the code of a post, and of an end
abbrev pub posting_code : (posted done : ℕ) → Option MemberHolding → ℕ
posting_code posted done None = closed
posting_code posted done (Some m) =
    if m.stance.in_turn then
    (let k = state_after m.stance.side.machine m.stance.side.seen in
    if is_some (next_stale_of k.standing k.posted) then posted else done)
    else in_no_turn

-- the next stale word was posted in a turn
pub record PostsAs (before : MemberHolding) (post : WirePost) (after : MemberHolding) : Type 0 where
  pub posts : PostsOne before.stance.side post.word post.value after.stance.side
  pub legal : IsLegal before.stance.side.machine after.stance.side.seen
  pub rest : after ≡ record before { stance = record before.stance { side = after.stance.side } }

-- a turn ended: the lock was given back by one step
abbrev pub EndsTurn : (before after : MemberHolding) → Type 0
EndsTurn before after = after ≡ record before { stance = out_of_turn (record before.stance.side { steps = before.stance.side.steps + 1 }) }

-- ---- readers

-- what the text says of the machine, of what a handle holds
abbrev pub described_of : MemberHandle → Option Description
described_of handle = option_map (λ m. m.described) (member_of handle)

-- the value is the word's reading at the end of what is then seen, which begins with what was seen before; in a turn nothing more happened
pub record ReadsWord (before : MemberHolding) (word value : ℕ) (after : MemberHolding) : Type 0 where
  pub value_is : value ≡ reading after.stance.side.seen word
  pub later : IsPrefix before.stance.side.seen after.stance.side.seen
  pub legal : IsLegal before.stance.side.machine after.stance.side.seen
  pub turn : MatchBool before.stance.in_turn (after.stance.side.seen ≡ before.stance.side.seen) ⊤
  pub rest : after ≡ record before { stance = record before.stance { side = record before.stance.side { seen = after.stance.side.seen; steps = before.stance.side.steps + 1 } } }

-- what holds of the arbiter in a turn: it stands where the history leads, but for its counts of orders
abbrev pub OfArbiter : Option MemberHolding → (Arbiter → Type 0) → Type 0
OfArbiter None holds = ⊥
OfArbiter (Some m) holds = (a : Arbiter) × StandsAt m.stance.side.machine m.stance.side.seen a × holds a

-- who is found owns the core of a number, and nobody else does
pub record FindsOwner (a : Arbiter) (core : ℕ) (found : Option ℕ) : Type 0 where
  pub finds : (thread : ℕ) → (found ≡ Some thread) ↔ IsOwner a.machine a.standing.seats core thread

-- the code of a call that only wants an open handle
abbrev pub open_code : Option MemberHolding → ℕ
open_code None = closed
open_code (Some m) = ok

-- the code of a call that wants the number of a page word
abbrev pub word_code : Option MemberHolding → (word : ℕ) → ℕ
word_code m word = code_below m (λ _. word_count) word no_word

-- the code of a call that wants a number below a bound, or else answers another code, and a turn
abbrev pub held_code_below : (bound otherwise : ℕ) → Option MemberHolding → (number : ℕ) → ℕ
held_code_below bound otherwise None number = closed
held_code_below bound otherwise (Some m) number = if nat_lt number bound then held_code (Some m) else otherwise

-- the code of a call that wants a thread's number, and a turn
abbrev pub thread_code : Option MemberHolding → (thread : ℕ) → ℕ
thread_code m thread = held_code_below all_threads no_client m thread

-- the code of a call that wants an application's number, and a turn
abbrev pub application_code : Option MemberHolding → (app : ℕ) → ℕ
application_code m app = held_code_below applications no_application m app

-- the code of an application that has joined, or hasn't
abbrev pub request_code : Arbiter → (app : ℕ) → ℕ
request_code a app = if is_some (request_of a.standing app) then ok else no_request

-- the code of a call that wants the index of an unmanaged core
abbrev pub index_code : Option Description → (index : ℕ) → ℕ
index_code text index = code_below text (λ t. length t.unmanaged) index no_position

-- the code of a call that wants a position
abbrev pub position_code : Option Description → (position : ℕ) → ℕ
position_code text position = code_below text (λ t. length (cores_of t.machine)) position no_position
