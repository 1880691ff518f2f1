-- What contracts see of a member, and of a note.
use Rattle.std.specs.Prelude.{ℕ, Bool, false, List}
use Rattle.atomic_table.specs.Seated.{TableId}
use Rattle.arb_config.specs.Machine.{Machine}
use Rattle.arb_model.specs.History.{History}

-- which table it is, its machine, the history that the member has seen, the places among its entries of those that the member entered, how many steps it has made, and how often it found the lock taken; a step is a load, a store or a compare-exchange of one word
pub record Side : Type 0 where
  pub table : TableId
  pub machine : Machine
  pub seen : History
  pub mine : List ℕ
  pub steps : ℕ
  pub busy : ℕ

-- which table it is, and the history that was seen there
pub record Standpoint : Type 0 where
  pub table : TableId
  pub seen : History

-- a member, and whether it is in a turn
pub record Stance : Type 0 where
  pub side : Side
  pub in_turn : Bool

-- one that is in no turn
abbrev pub out_of_turn : Side → Stance
out_of_turn side = record { side = side; in_turn = false }
