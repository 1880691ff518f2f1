use Rattle.std.proofs.Common.{◌∙◌, sym, rules, tests}
use Rattle.std.proofs.lemmas.Iterator.{YieldsList-from_slice}
use Rattle.std.proofs.lemmas.Iterator.Search.{any_from_yields_List}
use Rattle.toml.specs.View.{view}
use Rattle.arb_config.specs.Conditions.{has_unknown_socket_key}
use Rattle.arb_config.proofs.TreeViews.{list_any-view}
use Rattle.arb_config.proofs.passes.has_unknown_key.Goals as goal

pub returns-else-has_unknown_top_key : goal.returns-else-has_unknown_top_key
returns-else-has_unknown_top_key c =
    rw (← c.has_unknown_top_key.ensures, c.if-has_unknown_top_key.false, ← c.elements_at.ensures)
    (any_from_yields_List (λ socket. has_unknown_socket_key (view socket)) _ _ _ c.any.ensures.ran (YieldsList-from_slice c.elements_at.result.now cc) (λ x b q k. search (rules, tests))
    ∙ sym (list_any-view has_unknown_socket_key c.elements_at.result.now))
