use Rattle.std.proofs.Common.{◌∙◌, not, sym, rules, tests, string_bytes}
use Rattle.std.specs.Map.{keys_of}
use Rattle.std.specs.Map.Iter.{deref}
use Rattle.std.proofs.lemmas.Iterator.Consumers.{YieldsList-from_rest}
use Rattle.std.proofs.lemmas.Iterator.Search.{any_from_yields_List}
use Rattle.arb_config.specs.Conditions.{is_top_key}
use Rattle.arb_config.proofs.TreeViews.{list_any-keys}
use Rattle.arb_config.proofs.passes.has_unknown_top_key.Goals as goal

pub returns : goal.returns
returns c =
    any_from_yields_List (λ key. not (is_top_key (string_bytes key))) _ _ _ c.any.ensures.ran (YieldsList-from_rest {shows = deref} (keys_of c.args.table.now.entries) c.keys.ensures.rest) (λ x b q k. search (rules, tests))
    ∙ sym (list_any-keys (λ key. not (is_top_key key)) c.args.table.now.entries)
