use Rattle.std.proofs.Common.{◌∙◌, not, sym, rules, tests, string_bytes}
use Rattle.std.specs.Map.{keys_of}
use Rattle.std.specs.Map.Iter.{deref}
use Rattle.std.proofs.lemmas.Iterator.Consumers.{YieldsList-from_rest}
use Rattle.std.proofs.lemmas.Iterator.Search.{any_from_yields_List}
use Rattle.toml.specs.View.{view}
use Rattle.arb_config.specs.Conditions.{is_socket_key}
use Rattle.arb_config.proofs.TreeViews.{list_any-keys, members_in-table}
use Rattle.arb_config.proofs.passes.has_unknown_socket_key.Goals as goal

pub returns-in-Some : goal.returns-in-Some
returns-in-Some c =
    rw (members_in-table (view c.args.socket.now) _ c.in-Some.ensures)
    (any_from_yields_List (λ key. not (is_socket_key (string_bytes key))) _ _ _ c.any.ensures.ran (YieldsList-from_rest {shows = deref} (keys_of c.in-Some.table.now.entries) c.keys.ensures.rest) (λ x b q k. search (rules, tests))
    ∙ sym (list_any-keys (λ key. not (is_socket_key key)) c.in-Some.table.now.entries))
