use Rattle.arb_seats.proofs.Words.{◌≡◌, ◌≤◌, ◌<◌, ℕ, length, slice_index, arith, socket_by_position, owned_on, set_size}
use Rattle.arb_seats.proofs.CoreTableLaws.{few_cores}
use Rattle.arb_seats.proofs.NextFreeLaws.{numbers-rise, on_sockets}
use Rattle.arb_seats.proofs.NextToAskLaws.{LookedAt-empty, LookedAt-none, LookedAt-stays, LookedAt-still, LookedAt-taken, best-next, left_on}
use Rattle.arb_seats.proofs.core_table.Cores.next_to_ask.Goals.{then-there-eq0, else-there-eq0, then-rank-fewest, else-rank-fewest}
use Rattle.arb_seats.proofs.core_table.Cores.next_to_ask.Goals as goal

pub loop-socket-init : goal.loop-socket-init
loop-socket-init c = record { looked = LookedAt-none _ _ c.args.app; low = omega arith; within = omega arith }

pub loop-socket-preserved : goal.loop-socket-preserved
loop-socket-preserved c =
    let sockets = socket_by_position c.args.self.now.machine in
    let cores = c.args.self.now.cores in
    let app = c.args.app in
    let socket = c.loop-socket.socket in
    let there = c.both-there.result in
    let few : length cores ≤ set_size = rw (← c.self.view_is) (few_cores c.self.invariant) in
    let are = left_on sockets cores app socket c.of.result c.of-2.result c.without-left.result _ there few
    (rw (c.of.ensures, ← c.self.view_is) (c.self.invariant.are_owned app c.requires)) (rw (c.of-2.ensures, ← c.self.view_is) (c.self.invariant.are_asked app c.requires))
    (rw (← c.self.view_is) (c.self.invariant.are_on socket c.loop-socket-test.true)) c.without-left.ensures c.both-there.ensures in
    let i = c.loop-socket.invariant in
    let fewest = c.loop-socket.fewest in
    let owned = c.owned_on.ensures in
    elim c.if-there-eq0.branch [
      | then-there-eq0 none ↦ elim c.if-rank-fewest.branch [
        | then-rank-fewest still ↦ rw (still.best-is, still.fewest-is) (record {
          looked = LookedAt-still sockets cores app socket c.loop-socket.best fewest there i.looked are.0 are.1 _ none.if-there-eq0.true (omega (arith, none.behind-is)) (omega (arith, still.if-rank-fewest.true));
          low = omega arith;
          within = c.loop-socket-test.true;
        })
        | else-rank-fewest some ↦ rw (some.best-is, some.fewest-is) (record {
          looked = LookedAt-empty sockets cores app socket c.loop-socket.best fewest there i.looked are.0 are.1 none.if-there-eq0.true;
          low = omega (arith, i.low);
          within = i.within;
        })
      ]
      | else-there-eq0 left ↦
          elim c.if-rank-fewest.branch [
            | then-rank-fewest taken ↦
                let rank : c.if-rank-fewest.fewest ≡ owned_on sockets cores app socket = omega (arith, taken.fewest-is, left.behind-is, owned) in
                rw (taken.best-is, rank) (record {
                  looked = LookedAt-taken sockets cores app socket c.loop-socket.best fewest there i.looked are.0 are.1 c.both-there.type_inv (omega (arith, left.if-there-eq0.false)) (omega (arith, taken.if-rank-fewest.true, left.behind-is, owned));
                  low = omega arith;
                  within = c.loop-socket-test.true;
                })
            | else-rank-fewest more ↦ rw (more.best-is, more.fewest-is) (record {
              looked = LookedAt-stays sockets cores app socket c.loop-socket.best fewest there i.looked are.0 are.1 (omega (arith, more.if-rank-fewest.false, left.behind-is, owned));
              low = omega (arith, i.low);
              within = i.within;
            })
          ]
    ]

pub returns : goal.returns
returns c =
    let sockets = socket_by_position c.args.self.now.machine in
    let cores = c.args.self.now.cores in
    let app = c.args.app in
    let i = c.loop-socket.invariant in
    let few : length cores ≤ set_size = rw (← c.self.view_is) (few_cores c.self.invariant) in
    let long : length sockets ≡ length cores = rw (← c.self.view_is) (omega (arith, c.self.invariant.is_machine.socket_each, c.self.invariant.one_each)) in
    let below : (q : ℕ) → q < length cores → slice_index sockets q < c.loop-socket.socket = rw (← c.self.view_is) (on_sockets c.self.invariant c.loop-socket.socket c.loop-socket-test.false) in
    let are = left_on sockets cores app c.loop-socket.best c.of.result c.of-2.result c.without-left.result _ c.both.result few
    (rw (c.of.ensures, ← c.self.view_is) (c.self.invariant.are_owned app c.requires)) (rw (c.of-2.ensures, ← c.self.view_is) (c.self.invariant.are_asked app c.requires))
    (rw (← c.self.view_is) (c.self.invariant.are_on c.loop-socket.best i.within)) c.without-left.ensures c.both.ensures in
    best-next sockets cores app c.loop-socket.best c.loop-socket.fewest c.loop-socket.socket c.both.result i.looked below
    (λ p q le inside. numbers-rise 0 c.args.self.now.machine.sockets p q le (omega (arith, inside, long))) few are.0 are.1 c.last_position.result c.last_position.ensures
