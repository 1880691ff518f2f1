use Rattle.std.proofs.Common.{rules, tests, ◌∙◌, ◌==◌}
use Rattle.std.proofs.lemmas.Iterator.{YieldsList-from_slice}
use Rattle.std.proofs.lemmas.Iterator.Search.{position_from_yields_List}
use Rattle.arb_share.proofs.TextLaws.{unwrap_position}
use Rattle.arb_share.proofs.text.len_before.Goals as goal

pub returns-clause-index : goal.returns-clause-index
returns-clause-index c =
    let end = c.args.end in
    c.unwrap_or.ensures ∙ unwrap_position (λ byte. byte == end) _ _ (position_from_yields_List (λ byte. byte == end) _ _ _ c.position.ensures.ran (YieldsList-from_slice _ c.iter.ensures.rest) (λ x b q k. search (rules, tests)))
