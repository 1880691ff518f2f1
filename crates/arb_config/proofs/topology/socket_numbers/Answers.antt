use Rattle.std.proofs.Common.{◌+◌, ◌<◌, ◌∙◌, length, map, take, sym, ap, arith}
use Rattle.std.proofs.lemmas.List.{length-map, length-take-le, map_more}
use Rattle.arb_config.specs.Machine.{socket_numbers_from}
use Rattle.arb_config.proofs.Machines.{socket_numbers-resized}
use Rattle.arb_config.proofs.topology.socket_numbers.Goals as goal

pub loop-number-preserved : goal.loop-number-preserved
loop-number-preserved c =
    let number = c.loop-number.number in
    let sockets = c.args.sockets.now in
    let numbers = c.loop-number.numbers in
    let cores = c.index-sockets-number.result in
    let within : number < length sockets = omega arith in
    let before = map (λ v. v.items) (take number sockets) in
    let more = rw (← c.index-sockets-number.is) at (map_more (λ v. v.items) sockets number cores within) in
    c.in_ok-resize.ensures.items
    ∙ (socket_numbers-resized numbers.items before cores.items numbers.len (c.len.result + c.len-in-loop-number.result) number c.loop-number.invariant
    (omega (arith, numbers.ok.0)) (omega (arith, c.len.ensures, c.len-in-loop-number.ensures, cores.ok.0))
    (omega (arith, length-map (take number sockets) (λ v. v.items), length-take-le number sockets (omega arith)))
    ∙ sym (ap (socket_numbers_from 0) more))
