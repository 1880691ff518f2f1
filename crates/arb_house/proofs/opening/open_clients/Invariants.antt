-- The server's pass has taken nothing and made the passes of the clients so far; the history is empty; and the clients so far are fresh, of the desk's queue, each with its sender.
use Rattle.std.proofs.Common.{◌≡◌, [], length, map, true, take}
use Rattle.std.specs.Arc.{arc_value}
use Rattle.crossbeam_queue.specs.Passes.{IsPassOf, view}
use Rattle.arb_desk.specs.Passes.{queue_id}
use Rattle.arb_client.specs.Sides.{fresh}
use Rattle.arb_house.proofs.OpeningLaws.{MadeFrom}
use Rattle.arb_house.proofs.opening.open_clients.Given as goal

abbrev pub invariant-loop-k : goal.invariant-loop-k
invariant-loop-k g l =
    IsPassOf (arc_value l.desk).orders l.server × ((view l.server).is_server ≡ true) × ((view l.server).taken ≡ []) × MadeFrom l.k l.clients (view l.server).made
    × (l.writer.seen ≡ []) × (l.sides.items ≡ map (fresh (queue_id (arc_value l.desk).orders)) (take l.k l.clients)) × (length l.answers.items ≡ l.k)
