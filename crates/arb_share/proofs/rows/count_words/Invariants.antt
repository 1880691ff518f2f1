use Rattle.std.proofs.Common.{◌≡◌, ◌+◌, ◌≤◌, length}
use Rattle.arb_share.specs.Text.{words_of}
use Rattle.arb_share.proofs.rows.count_words.Given as goal

abbrev pub invariant-loop-after : goal.invariant-loop-after
invariant-loop-after l = record {
  words : l.count + length (words_of l.rest) ≡ length (words_of l.line);
  bytes : l.count + length l.rest ≤ length l.line;
}

abbrev pub decreases-loop-after : goal.decreases-loop-after
decreases-loop-after l = length l.rest
