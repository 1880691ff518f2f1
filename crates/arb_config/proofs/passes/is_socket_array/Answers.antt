use Rattle.std.proofs.Common.{rules, tests}
use Rattle.std.proofs.lemmas.Iterator.{YieldsList-from_slice}
use Rattle.std.proofs.lemmas.Iterator.Search.{all_from_yields_List}
use Rattle.std.proofs.lemmas.List.Folds.{list_all-map}
use Rattle.toml.specs.View.{view}
use Rattle.arb_config.specs.Conditions.{is_socket}
use Rattle.arb_config.proofs.TreeViews.{elements_of-view, is_array_of-found}
use Rattle.arb_config.proofs.passes.is_socket_array.Goals as goal

pub returns-in-Some : goal.returns-in-Some
returns-in-Some c =
    let values = c.in-Some.sockets.now.items in
    rw (is_array_of-found is_socket (view c.args.value.now) _ c.in-Some.ensures, elements_of-view values, list_all-map is_socket view values)
    (all_from_yields_List (λ value. is_socket (view value)) _ _ _ c.all.ensures.ran (YieldsList-from_slice values cc) (λ x b q k. search (rules, tests)))
