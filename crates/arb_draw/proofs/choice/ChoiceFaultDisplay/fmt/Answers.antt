use Rattle.std.proofs.Common.{append_assoc}
use Rattle.std.proofs.Output.{has_written_of_eq}
use Rattle.arb_draw.proofs.choice.ChoiceFaultDisplay.fmt.Goals as goal

pub returns-in-NoOrder-clause-writes : goal.returns-in-NoOrder-clause-writes
returns-in-NoOrder-clause-writes g c = λ plain ok. has_written_of_eq _ _ _ _ _ (rw c.in-NoOrder.is (simp append_assoc)) (c.write.ensures.writes plain ok)

pub returns-in-Backwards-clause-writes : goal.returns-in-Backwards-clause-writes
returns-in-Backwards-clause-writes g c = λ plain ok. has_written_of_eq _ _ _ _ _ (rw c.in-Backwards.is (simp append_assoc)) (c.write-in-Backwards.ensures.writes plain ok)
