use Rattle.std.proofs.Common.{◌∙◌, sym, rules, tests}
use Rattle.std.proofs.lemmas.Iterator.{YieldsList-from_slice}
use Rattle.std.proofs.lemmas.Iterator.Search.{any_from_yields_List}
use Rattle.toml.specs.View.{view}
use Rattle.arb_config.specs.Conditions.{is_outside}
use Rattle.arb_config.proofs.TreeViews.{list_any-view}
use Rattle.arb_config.proofs.passes.has_core_outside_at.Goals as goal
use Rattle.arb_config.specs.Limits.{highest_core}

pub returns : goal.returns
returns c =
    rw (← c.elements_under.ensures)
    (any_from_yields_List (λ value. is_outside 0 highest_core (view value)) _ _ _ c.any.ensures.ran (YieldsList-from_slice c.elements_under.result.now cc) (λ x b q k. search (rules, tests))
    ∙ sym (list_any-view (is_outside 0 highest_core) c.elements_under.result.now))
