-- The machine as it is written in the tree: each list in the order of the text, and nothing left out.
use Rattle.std.specs.Prelude.{◌≡◌, ℕ, pos, map, codes, Option, Some, None}
use Rattle.std.specs.List.{flat_map}
use Rattle.toml.specs.Data.{Data, integer, Members, get_member}
use Rattle.arb_config.specs.Conditions.{sockets_in}
use Rattle.arb_config.specs.Limits.{default_grace, default_orders}
use Rattle.arb_config.specs.Machine.{Machine}
use Rattle.arb_config.specs.Tree.{elements_at, members_in}

-- a core number as the text has it
abbrev pub core_value : ℕ → Data
core_value core = integer (pos core)

-- the number is the value at its key, or the default where the key is missing
abbrev pub IsNumberAt : ℕ → Option Data → ℕ → Type 0
IsNumberAt default None number = number ≡ default
IsNumberAt default (Some value) number = value ≡ integer (pos number)

-- the machine has the lists and the numbers of the tree
pub record IsWritten (tree : Members) (m : Machine) : Type 0 where
  pub sockets : map (map core_value) m.sockets ≡ map (λ socket. elements_at (codes "managed") (members_in socket)) (sockets_in tree)
  pub unmanaged : map core_value m.unmanaged ≡ flat_map (λ socket. elements_at (codes "unmanaged") (members_in socket)) (sockets_in tree)
  pub grace : IsNumberAt default_grace (get_member (codes "grace") tree) m.grace
  pub orders : IsNumberAt default_orders (get_member (codes "orders") tree) m.orders
