use Rattle.std.proofs.Common.{◌∙◌, sym, rules, tests}
use Rattle.std.proofs.lemmas.Iterator.{YieldsList-from_slice}
use Rattle.std.proofs.lemmas.Iterator.Search.{any_from_yields_List}
use Rattle.toml.specs.View.{view}
use Rattle.arb_config.specs.Conditions.{has_core_outside}
use Rattle.arb_config.proofs.TreeViews.{list_any-view}
use Rattle.arb_config.proofs.passes.has_number_outside.Goals as goal

pub returns-else-has_top_number_outside : goal.returns-else-has_top_number_outside
returns-else-has_top_number_outside c =
    rw (← c.has_top_number_outside.ensures, c.if-has_top_number_outside.false, ← c.elements_at.ensures)
    (any_from_yields_List (λ socket. has_core_outside (view socket)) _ _ _ c.any.ensures.ran (YieldsList-from_slice c.elements_at.result.now cc) (λ x b q k. search (rules, tests))
    ∙ sym (list_any-view has_core_outside c.elements_at.result.now))
