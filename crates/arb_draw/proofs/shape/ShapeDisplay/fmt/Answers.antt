use Rattle.std.proofs.Common.{append_assoc, refl}
use Rattle.std.proofs.Output.{has_written_of_eq}
use Rattle.arb_draw.proofs.shape.ShapeDisplay.fmt.Goals as goal

pub returns-in-Begin-clause-writes : goal.returns-in-Begin-clause-writes
returns-in-Begin-clause-writes g c = λ plain ok. has_written_of_eq _ _ _ _ _ (rw c.in-Begin.is refl) (c.write.ensures.writes plain ok)

pub returns-in-Swatch-clause-writes : goal.returns-in-Swatch-clause-writes
returns-in-Swatch-clause-writes g c = λ plain ok. has_written_of_eq _ _ _ _ _ (rw c.in-Swatch.is refl) (c.write-in-Swatch.ensures.writes plain ok)

pub returns-in-Tick-clause-writes : goal.returns-in-Tick-clause-writes
returns-in-Tick-clause-writes g c = λ plain ok. has_written_of_eq _ _ _ _ _ (rw c.in-Tick.is (simp append_assoc)) (c.write-in-Tick.ensures.writes plain ok)

pub returns-in-Socket-clause-writes : goal.returns-in-Socket-clause-writes
returns-in-Socket-clause-writes g c = λ plain ok. has_written_of_eq _ _ _ _ _ (rw c.in-Socket.is refl) (c.write-in-Socket.ensures.writes plain ok)

pub returns-in-Bar-clause-writes : goal.returns-in-Bar-clause-writes
returns-in-Bar-clause-writes g c = λ plain ok. has_written_of_eq _ _ _ _ _ (rw c.in-Bar.is refl) (c.write-in-Bar.ensures.writes plain ok)

pub returns-in-Panel-clause-writes : goal.returns-in-Panel-clause-writes
returns-in-Panel-clause-writes g c = λ plain ok. has_written_of_eq _ _ _ _ _ (rw c.in-Panel.is refl) (c.write-in-Panel.ensures.writes plain ok)
