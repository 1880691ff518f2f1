use Rattle.std.proofs.Common.{ap, ◌∙◌}
use Rattle.arb_model.specs.Reading.{reading}
use Rattle.arb_model.proofs.ReadingLaws.{reading_empty}
use Rattle.arb_page.proofs.OpeningLaws.{shows_nothing}
use Rattle.arb_page.proofs.blank.Pages+Brand.open.Goals as goal

pub of_words-requires : goal.of_words-requires
of_words-requires c = shows_nothing c.args.topology.now

pub returns-clause-zero : goal.returns-clause-zero
returns-clause-zero c w = ap (λ me. reading me.0.seen w) c.in_ok-words.ensures.4 ∙ reading_empty w
