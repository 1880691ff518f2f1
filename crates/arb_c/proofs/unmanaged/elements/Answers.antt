use Rattle.std.proofs.Common.{◌∙◌, sym}
use Rattle.toml.specs.View.{view}
use Rattle.arb_config.proofs.TreeViews.{elements_in-array, elements_of-view}
use Rattle.arb_c.proofs.unmanaged.elements.Goals as goal

pub returns-in-Some : goal.returns-in-Some
returns-in-Some c =
    rw c.as_slice.ensures.value (sym (elements_in-array (view c.args.value.now) _ c.in-Some.ensures ∙ elements_of-view c.in-Some.items.now.items))
