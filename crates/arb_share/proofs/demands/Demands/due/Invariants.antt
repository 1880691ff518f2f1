use Rattle.std.proofs.Common.{◌≡◌, ◌+◌, ◌-◌, ◌≤◌, List, Option, sum}
use Rattle.arb_share.specs.Limits.{levels}
use Rattle.arb_share.specs.Demands.{AreDemands}
use Rattle.arb_share.specs.Due.{Entries, add_rows, due_from}
use Rattle.arb_share.proofs.demands.Demands.due.Given as goal

abbrev pub invariant-loop-level : goal.invariant-loop-level
invariant-loop-level l = record {
  whole : sum l.due + l.left ≤ l.managed;
  rest : (requests : List (Option Entries)) → AreDemands l.self requests → add_rows l.due (due_from (levels - l.level) l.level l.left requests) ≡ due_from levels 0 l.managed requests;
}
