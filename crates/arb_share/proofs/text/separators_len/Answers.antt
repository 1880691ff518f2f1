use Rattle.std.proofs.Common.{rules, tests, ◌∙◌, not}
use Rattle.std.proofs.lemmas.Iterator.{YieldsList-from_slice}
use Rattle.std.proofs.lemmas.Iterator.Search.{position_from_yields_List}
use Rattle.arb_share.specs.Text.{is_separator}
use Rattle.arb_share.proofs.TextLaws.{unwrap_position}
use Rattle.arb_share.proofs.text.separators_len.Goals as goal

pub returns-clause-index : goal.returns-clause-index
returns-clause-index c =
    c.unwrap_or.ensures ∙ unwrap_position (λ byte. not (is_separator byte)) _ _ (position_from_yields_List (λ byte. not (is_separator byte)) _ _ _ c.position.ensures.ran (YieldsList-from_slice _ c.iter.ensures.rest) (λ x b q k. search (rules, tests)))
