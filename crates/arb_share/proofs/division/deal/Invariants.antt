use Rattle.std.proofs.Common.{◌≡◌, ◌+◌, ◌-◌, ◌≤◌, length}
use Rattle.std.specs.Prelude.{min}
use Rattle.arb_share.proofs.EvenLoop.{InRound}
use Rattle.arb_share.proofs.division.deal.Given as goal

abbrev pub invariant-turns : goal.invariant-turns
invariant-turns l = record {
  long : length l.shares ≡ length l.demands;
  few : l.left ≤ l.supply;
  counted : l.wanting ≤ l.app;
  round : InRound l.demands l.shares (l.supply - l.left + min l.wanting l.left) l.supply l.rounds l.app;
}
