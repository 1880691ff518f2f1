-- What a handle is open on: an arbiter, its orders before the last renewal, and what its machine doesn't keep of the text.
use Rattle.std.specs.Prelude.{ℕ, ◌-◌, ◌+◌, ◌^◌, List, [], map, codes, Option, Some, None, is_some, ◌==◌, if◌then◌else◌, replicate, slice_index, sum}
use Rattle.std.specs.List.{enumerate_from, flat_map}
use Rattle.toml.specs.Data.{Data, Members, get_member}
use Rattle.arb_config.specs.Conditions.{cores_at, sockets_in}
use Rattle.arb_config.specs.Machine.{Machine}
use Rattle.arb_model.specs.Arbiter.{Arbiter, opening_arbiter}
use Rattle.arb_model.specs.Limits.{clients}
use Rattle.arb_model.specs.Lists.{each_at}
use Rattle.arb_c.specs.declared.wire.WireCore.{WireCore}

-- an arbiter with all that C asks of it
pub record Holding : Type 0 where
  pub arbiter : Arbiter
  -- how many orders of each client were entered before the last renewal
  pub earlier : List ℕ
  -- how many orders may be entered, those before renewals included
  pub limit : ℕ
  -- the unmanaged cores of its machine, each with its socket
  pub unmanaged : List WireCore

-- how many orders were entered, those before renewals included
abbrev pub orders_of : Holding → ℕ
orders_of h = sum h.earlier + sum h.arbiter.standing.counts

-- how many of them a client gave
abbrev pub count_of : Holding → (client : ℕ) → ℕ
count_of h client = slice_index h.earlier client + slice_index h.arbiter.standing.counts client

-- each client's orders by two lists of counts
abbrev pub sums_of : (earlier counts : List ℕ) → List ℕ
sums_of earlier counts = each_at (λ client count. count + slice_index counts client) 0 earlier

-- the posted value of a page word: word 0 counts all orders
abbrev pub posted_shown : Holding → (word : ℕ) → ℕ
posted_shown h word = if word == 0 then orders_of h else slice_index h.arbiter.posted word

-- the limit on orders where the text states none: the count of orders is a number of 64 bits
abbrev pub no_limit : ℕ
no_limit = 2 ^ 64 - 1

-- the limit on orders: the machine's where the document states it
abbrev pub limit_of : Members → Machine → ℕ
limit_of tree machine = if is_some (get_member (codes "orders") tree) then machine.orders else no_limit

-- that of a text, where it is a document
abbrev pub limit_in : Option Members → Machine → ℕ
limit_in None machine = no_limit
limit_in (Some tree) machine = limit_of tree machine

-- the core of a number on a socket
abbrev pub core_on : (socket number : ℕ) → WireCore
core_on socket number = record { number = number; socket = socket }

-- the unmanaged cores of a socket and its number, in the order of their list
abbrev pub unmanaged_on : ℕ × Data → List WireCore
unmanaged_on socket = map (core_on socket.0) (cores_at (codes "unmanaged") socket.1)

-- the unmanaged cores of a document: sockets in order, numbered from 0
abbrev pub unmanaged_cores : Members → List WireCore
unmanaged_cores tree = flat_map unmanaged_on (enumerate_from 0 (sockets_in tree))

-- those of a text, where it is a document
abbrev pub unmanaged_in : Option Members → List WireCore
unmanaged_in None = []
unmanaged_in (Some tree) = unmanaged_cores tree

-- before all orders: the opening arbiter of a machine, with the limit and the unmanaged cores of the text that describes it
abbrev pub opening_holding : Option Members → Machine → Holding
opening_holding document machine = record {
  arbiter = opening_arbiter machine;
  earlier = replicate clients 0;
  limit = limit_in document machine;
  unmanaged = unmanaged_in document;
}
