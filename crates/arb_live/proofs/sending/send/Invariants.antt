use Rattle.std.proofs.Common.{◌≡◌, List, ℕ, ◌++◌, length}
use Rattle.arb_live.specs.Events.{Did, puts}
use Rattle.arb_live.proofs.sending.send.Given as goal

-- what is gone from the rest was written
abbrev pub invariant-loop-rest : goal.invariant-loop-rest
invariant-loop-rest g l = record {
  done : List ℕ;
  split : l.bytes ≡ done ++ l.rest;
  did : Did (g.S.TwoWay.told l.initial.stream) (g.S.TwoWay.told l.stream) (puts done);
  writes : g.S.TwoWay.failed_writes l.stream ≡ g.S.TwoWay.failed_writes l.initial.stream;
  reads : g.S.TwoWay.failed_reads l.stream ≡ g.S.TwoWay.failed_reads l.initial.stream;
}

abbrev pub decreases-loop-rest : goal.decreases-loop-rest
decreases-loop-rest g l = length l.rest
