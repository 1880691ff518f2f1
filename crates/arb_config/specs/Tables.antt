-- How a topology's look-up tables fit its machine.
use Rattle.std.specs.Prelude.{◌≡◌, ℕ, ◌==◌, ◌<◌, List, if◌then◌else◌, position}
use Rattle.std.specs.List.{list_any, slice_index_or}
use Rattle.std.specs.Option.{option_map_or}
use Rattle.arb_config.specs.declared.roles.Role.{Role}
use Rattle.arb_config.specs.declared.roles.Role.TheVariants.{Absent, Unmanaged, Managed}
use Rattle.arb_config.specs.Limits.{core_numbers}
use Rattle.arb_config.specs.Machine.{IsMachine, Machine, cores_of, socket_by_position}

-- what a core number is, where these are the managed cores by position and these the unmanaged ones
abbrev pub role_of : List ℕ → List ℕ → ℕ → Role
role_of cores unmanaged core =
    option_map_or Managed (position (λ managed. managed == core) cores)
    (if list_any (λ other. other == core) unmanaged then Unmanaged else Absent)

-- the table has the role of each core number
abbrev pub HasRoles : List ℕ → List ℕ → List Role → Type 0
HasRoles cores unmanaged roles = (core : ℕ) (d : Role) → core < core_numbers → slice_index_or roles core d ≡ role_of cores unmanaged core

-- the tables are those of the machine: the core and the socket of each position, and the role of each core number
pub record FitsMachine (m : Machine) (cores sockets : List ℕ) (roles : List Role) : Type 0 where
  pub machine : IsMachine m
  pub core_of_each : cores ≡ cores_of m
  pub socket_of_each : sockets ≡ socket_by_position m
  pub role_of_each : HasRoles cores m.unmanaged roles
