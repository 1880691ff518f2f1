use Rattle.std.proofs.Common.{◌≡◌, ◌<◌, length, take}
use Rattle.std.specs.Fmt.{HasWritten, IsPlainFormatter}
use Rattle.std.specs.List.{flat_map}
use Rattle.arb_share.specs.Limits.{levels}
use Rattle.arb_model.proofs.TextLaws.{entry_piece}
use Rattle.arb_model.proofs.texts.write_entries.Given as goal

-- the entries of the levels before this one are written
abbrev pub invariant-loop-level : goal.invariant-loop-level
invariant-loop-level g l = record {
  written : IsPlainFormatter l.initial.f → HasWritten g.W.Write.write_str_gives l.initial.f (flat_map entry_piece (take l.level l.request)) l.f;
  complete : 0 < l.level → length l.request ≡ levels;
}
