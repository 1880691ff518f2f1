-- The pasts so far are counted, and the first of each client among them is found.
use Rattle.std.proofs.Common.{◌≡◌, length, not, take}
use Rattle.std.specs.List.{list_any}
use Rattle.arb_model.specs.Limits.{clients}
use Rattle.arb_desk.specs.declared.past.Past.{Past}
use Rattle.arb_house.proofs.CountLaws.{Counts}
use Rattle.arb_house.proofs.IndexLaws.{Places}
use Rattle.arb_house.proofs.survey.Survey.of.Given as goal

abbrev pub invariant-loop-index : goal.invariant-loop-index
invariant-loop-index l =
    (length l.counts ≡ clients) × (length l.indexes ≡ clients)
    × (l.cut ≡ list_any (λ (past : Past). not past.whole) (take l.index l.pasts))
    × Counts (take l.index l.pasts) l.counts × Places l.pasts l.index l.indexes
