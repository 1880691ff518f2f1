-- The machine that a topology's fields stand for, and what holds of the fields.
use Rattle.std.specs.Prelude.{map}
use Rattle.arb_config.specs.declared.topology.Topology.TheInside.{Inside}
use Rattle.arb_config.specs.Tables.{FitsMachine}
use Rattle.arb_config.specs.Machine.{Machine}

-- the machine that the fields hold
abbrev pub machine_of_fields : Inside → Machine
machine_of_fields t = record {
  sockets = map (λ cores. cores.items) t.sockets.items;
  unmanaged = t.unmanaged.items;
  grace = t.grace;
  orders = t.orders;
}

-- the look-up tables among the fields fit the machine
abbrev pub FitsTables : Inside → Type 0
FitsTables t = FitsMachine (machine_of_fields t) t.cores.items t.socket_by_position.items t.roles
