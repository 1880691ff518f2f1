use Rattle.std.proofs.Common.{refl}
use Rattle.std.proofs.Output.{has_written_of_eq}
use Rattle.arb_draw.proofs.shape.BarTitleDisplay.fmt.Goals as goal

pub returns-clause-writes : goal.returns-clause-writes
returns-clause-writes g c = λ plain ok. has_written_of_eq _ _ _ _ _ (rw (c.words-words.ensures, c.saturating_sub-last.ensures) refl) (c.write.ensures.writes plain ok)
