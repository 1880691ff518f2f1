-- Which lists of clients are refused, and the server of a new house.
use Rattle.std.specs.Prelude.{ℕ, ◌≡◌, ◌≢◌, ◌<◌, false, Some, List, [], length, replicate, slice_get}
use Rattle.arb_desk.specs.Passes.{QueueId}
use Rattle.arb_house.specs.declared.opening.OpenFault.{OpenFault}
use Rattle.arb_house.specs.declared.opening.OpenFault.TheVariants.{Twice, Memory}
use Rattle.arb_house.specs.Serving.{ServerState}

-- no two clients of a list are one
abbrev pub AllApart : List ℕ → Type 0
AllApart clients = (i j c d : ℕ) → i < j → slice_get clients i ≡ Some c → slice_get clients j ≡ Some d → c ≢ d

-- the client at an index equals one at an earlier index
pub record Repeats (clients : List ℕ) (index client : ℕ) : Type 0 where
  pub earlier : ℕ
  pub before : earlier < index
  pub there : slice_get clients earlier ≡ Some client
  pub here : slice_get clients index ≡ Some client

-- the first client of a list that equals an earlier one
pub record IsFirstTwice (clients : List ℕ) (client : ℕ) : Type 0 where
  pub index : ℕ
  pub repeats : Repeats clients index client
  pub first : (index' other : ℕ) → index' < index → Repeats clients index' other → ⊥

-- why a list of clients is refused
abbrev pub RefusesToOpen : List ℕ → OpenFault → Type 0
RefusesToOpen clients (Twice client) = IsFirstTwice clients client
RefusesToOpen clients Memory = AllApart clients

-- the server of a new house, which has this queue: it has seen and taken nothing, no client has closed, and its journal has no room yet
abbrev pub opening_server : QueueId → List ℕ → ServerState
opening_server queue clients = record { seen = []; taken = []; clients = clients; closed = replicate (length clients) false; room = 0; queue = queue }
