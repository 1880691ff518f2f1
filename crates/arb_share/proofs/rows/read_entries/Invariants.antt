use Rattle.std.proofs.Common.{length}
use Rattle.arb_share.specs.Text.{words_of}
use Rattle.arb_share.proofs.RowsLaws.{ReadsEntries}
use Rattle.arb_share.proofs.rows.read_entries.Given as goal

abbrev pub invariant-loop-word : goal.invariant-loop-word
invariant-loop-word l = ReadsEntries (words_of l.line) (words_of l.rest) l.entries l.level

abbrev pub decreases-loop-word : goal.decreases-loop-word
decreases-loop-word l = length l.rest
