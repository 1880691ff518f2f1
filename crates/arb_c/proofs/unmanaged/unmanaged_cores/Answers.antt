use Rattle.std.proofs.Common.{◌≡◌, ◌∙◌, map, take, length, sym, ap, arith}
use Rattle.std.specs.List.{enumerate_from, flat_map}
use Rattle.std.proofs.lemmas.List.{length-map, length-take-le, map_more, take_all}
use Rattle.toml.specs.View.{table_view, view}
use Rattle.arb_c.specs.Holding.{unmanaged_on}
use Rattle.arb_c.proofs.ListedLaws.{unmanaged-numbers, unmanaged-push}
use Rattle.arb_c.proofs.unmanaged.unmanaged_cores.Goals as goal

pub loop-number-preserved : goal.loop-number-preserved
loop-number-preserved c =
    let values = c.elements_at-socket-items.result.now in
    let number = c.loop-number.number in
    let before = map view (take number values) in
    let long : number ≡ length before = omega (arith, length-map (take number values) view, length-take-le number values (omega arith)) in
    let more = rw (← c.socket-item.is) at (map_more view values number c.socket-item.result (omega arith)) in
    rw (c.in_ok-add_cores.ensures, c.loop-number.invariant, more) (sym (unmanaged-push before (view c.socket-item.result) number long))

pub returns-clause-numbers : goal.returns-clause-numbers
returns-clause-numbers c =
    let values = c.elements_at-socket-items.result.now in
    let all : take c.loop-number.number values ≡ values = take_all c.loop-number.number values (omega arith) in
    let sockets = ap (map view) all ∙ c.elements_at-socket-items.ensures in
    ap (map (λ core. core.number)) (c.loop-number.invariant ∙ ap (λ xs. flat_map unmanaged_on (enumerate_from 0 xs)) sockets) ∙ unmanaged-numbers (table_view c.args.table.now)
