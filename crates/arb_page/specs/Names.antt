-- What a name names.
use Rattle.std.specs.Prelude.{[]}
use Rattle.atomic_table.specs.Seated.{TableId}
use Rattle.arb_config.specs.Machine.{Machine}
use Rattle.arb_model.specs.History.{History}

-- pages that have no name yet, as contracts see them: which table it is, its machine, and the history so far
pub record Unnamed : Type 0 where
  pub table : TableId
  pub machine : Machine
  pub seen : History

-- a point without a name, as contracts see it: which table it is, and the history that was seen there
pub record Standpoint : Type 0 where
  pub table : TableId
  pub seen : History

-- no table, and no machine: what a name names before a call picks what it is to name
abbrev pub no_table : TableId
no_table = record { words = 0; slots = 0; views_name = 0; atom = 0; block = 0; offset = 0; slot_names = [] }

abbrev pub no_machine : Machine
no_machine = record { sockets = []; unmanaged = []; grace = 0; orders = 0 }
