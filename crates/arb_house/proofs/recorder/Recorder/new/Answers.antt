use Rattle.std.proofs.Common.{sym, ap, ◌∙◌}
use Rattle.arb_model.specs.History.{entries_of}
use Rattle.arb_house.proofs.recorder.Recorder.new.Goals as goal

pub invariant_of-result : goal.invariant_of-result
invariant_of-result g c = c.new-2.ensures.items ∙ ap entries_of (sym c.new.ensures)
