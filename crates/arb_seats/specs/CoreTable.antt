-- The cores of a machine, and who is on them.
use Rattle.std.specs.Prelude.{List, Option}
use Rattle.arb_config.specs.Machine.{Machine}
use Rattle.arb_model.specs.declared.holders.Holder.{Holder}

-- a machine, and who is on each of its managed cores, by position
pub record CoreTable : Type 0 where
  pub machine : Machine
  pub cores : List (Option Holder)
