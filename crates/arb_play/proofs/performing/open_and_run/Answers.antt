use Rattle.std.proofs.Common.{List, map, sym, ap, ◌∙◌, subst}
use Rattle.std.specs.Prelude.{All}
use Rattle.arb_client.specs.Sides.{Side}
use Rattle.arb_play.specs.Performing.{IsFresh}
use Rattle.arb_play.proofs.ClientLaws.{only_memory}
use Rattle.arb_play.proofs.JoinLaws.{all_fresh, fresh_ids}
use Rattle.arb_play.proofs.performing.open_and_run.Goals as goal

pub run_all-requires-clause-fresh : goal.run_all-requires-clause-fresh
run_all-requires-clause-fresh g c κs within = subst (λ (l : List Side). All (IsFresh c.in-Ok-open.server.queue) l) (sym c.in-Ok-open.ensures.clients) (all_fresh _ _)

pub run_all-requires-clause-named : goal.run_all-requires-clause-named
run_all-requires-clause-named g c κs within =
    ap (λ (l : List Side). map (λ side. side.id) l) c.in-Ok-open.ensures.clients
    ∙ (fresh_ids _ _
    ∙ (c.as_slice.ensures.value
    ∙ c.in-Ok.ensures.clients))

pub returns : goal.returns
returns g c =
    record { runs = record { fault = only_memory _ _ _ c.as_slice.ensures.value c.in-Ok.ensures.apart c.in-Err.ensures.refused; gives_up = tt; answered = tt }; own = tt }
