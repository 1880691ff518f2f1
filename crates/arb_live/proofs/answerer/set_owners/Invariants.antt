use Rattle.std.proofs.Common.{◌≡◌, ◌*◌, ◌≤◌, length}
use Rattle.arb_script.proofs.TableLaws.{lines_before}
use Rattle.arb_live.proofs.answerer.set_owners.Given as goal

-- the lines of the positions before this one are there
abbrev pub invariant-loop-position : goal.invariant-loop-position
invariant-loop-position l = record {
  lines : l.text.bytes ≡ lines_before l.topology l.core.standing.seats l.position;
  short : length l.text.bytes ≤ 128 * l.position;
}
