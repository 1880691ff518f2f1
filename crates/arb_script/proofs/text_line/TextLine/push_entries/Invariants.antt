use Rattle.std.proofs.Common.{◌≡◌, ◌+◌, ◌*◌, ◌<◌, ◌≤◌, ◌++◌, length, take}
use Rattle.std.specs.List.{flat_map}
use Rattle.arb_share.specs.Limits.{levels}
use Rattle.arb_model.proofs.TextLaws.{entry_piece}
use Rattle.arb_script.proofs.text_line.TextLine.push_entries.Given as goal

-- the entries of the levels before this one are there
abbrev pub invariant-loop-level : goal.invariant-loop-level
invariant-loop-level l = record {
  text : l.self ≡ l.initial.self ++ flat_map entry_piece (take l.level l.request);
  short : length l.self ≤ length l.initial.self + 4 * l.level;
  whole : 0 < l.level → length l.request ≡ levels;
}
