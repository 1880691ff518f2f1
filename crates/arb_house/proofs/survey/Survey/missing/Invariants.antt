-- Of the clients so far those without a past are marked.
use Rattle.std.proofs.Common.{◌≡◌, length, take}
use Rattle.arb_model.specs.Limits.{clients}
use Rattle.arb_house.specs.Pasts.{IsMissing}
use Rattle.arb_house.specs.Walks.{Marks}
use Rattle.arb_house.proofs.survey.Survey.missing.Given as goal

abbrev pub invariant-loop-client : goal.invariant-loop-client
invariant-loop-client l = (length l.marks ≡ clients) × Marks (IsMissing (take l.client-index l.clients) l.self.pasts.now) l.marks
