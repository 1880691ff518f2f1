use Rattle.std.proofs.Common.{refl}
use Rattle.std.proofs.Output.{has_written_append, has_written_of_eq}
use Rattle.arb_model.proofs.TextLaws.{asked_in_turn}
use Rattle.arb_model.proofs.texts.OrderDisplay.fmt.Goals as goal

pub returns-in_ok-write-in-Ask-clause-writes : goal.returns-in_ok-write-in-Ask-clause-writes
returns-in_ok-write-in-Ask-clause-writes g c = λ plain ok.
    let word = c.in_ok-write-in-Ask.ensures.writes plain refl in
    has_written_of_eq _ _ _ _ _ (asked_in_turn _ _ c.in-Ask.is)
    (has_written_append _ _ _ _ _ _ word (c.write_entries.ensures word.plain ok))
