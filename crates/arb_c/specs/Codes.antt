-- The codes that calls answer. Those of `src/codes.rt` are proved to be the same.
use Rattle.std.specs.Prelude.{ℕ}
use Rattle.arb_config.specs.declared.fault.ConfigFault.{ConfigFault}
use Rattle.arb_config.specs.declared.fault.ConfigFault.TheVariants.{NotToml, UnknownKey, BadKey, OutOfRange, SocketCount, CoreTwice, ManagedCount, NoUnmanaged, Memory}

-- it was done
abbrev pub ok : ℕ
ok = 0

-- the handle is closed
abbrev pub closed : ℕ
closed = 1

-- the handle is open already
abbrev pub already_open : ℕ
already_open = 2

-- no client, or no thread, has this number
abbrev pub no_client : ℕ
no_client = 3

-- no order is of this kind
abbrev pub no_order : ℕ
no_order = 4

-- an entry of the request is above its limit
abbrev pub entry_too_large : ℕ
entry_too_large = 5

-- a word is to be posted before the next order
abbrev pub stale : ℕ
stale = 6

-- the limit on orders is reached
abbrev pub full : ℕ
full = 7

-- no word is to be posted
abbrev pub settled : ℕ
settled = 8

-- no page word has this number
abbrev pub no_word : ℕ
no_word = 9

-- no managed core is at this position, or no unmanaged core at this index
abbrev pub no_position : ℕ
no_position = 10

-- nobody is on the core of this number, or it isn't managed
abbrev pub no_owner : ℕ
no_owner = 11

-- the text is longer than its limit
abbrev pub too_long : ℕ
too_long = 12

-- the text isn't UTF-8
abbrev pub not_utf8 : ℕ
not_utf8 = 13

-- an allocation failed
abbrev pub out_of_memory : ℕ
out_of_memory = 14

-- no application has this number
abbrev pub no_application : ℕ
no_application = 15

-- the application hasn't joined, so it has no request
abbrev pub no_request : ℕ
no_request = 16

-- another member has the lock
abbrev pub taken : ℕ
taken = 17

-- the member is in a turn
abbrev pub in_a_turn : ℕ
in_a_turn = 18

-- the member is in no turn
abbrev pub in_no_turn : ℕ
in_no_turn = 19

-- a core is listed twice
abbrev pub core_twice : ℕ
core_twice = 26

-- the code of a configuration's fault
abbrev pub fault_code : ConfigFault → ℕ
fault_code NotToml = 21
fault_code UnknownKey = 22
fault_code BadKey = 23
fault_code OutOfRange = 24
fault_code SocketCount = 25
fault_code (CoreTwice core) = core_twice
fault_code ManagedCount = 27
fault_code NoUnmanaged = 28
fault_code Memory = out_of_memory

-- the core that a fault names, or the number that stood there before
abbrev pub core_named : ConfigFault → (before : ℕ) → ℕ
core_named (CoreTwice core) before = core
core_named fault before = before
