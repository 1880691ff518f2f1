use Rattle.arb_seats.proofs.Words.{◌≡◌, ◌≤◌, ◌+◌, ◌<◌, ℕ, length, slice_index, arith, ap, ◌∙◌, socket_by_position, owned_on, count_below-le, set_size}
use Rattle.arb_seats.proofs.CoreTableLaws.{few_cores}
use Rattle.arb_seats.proofs.NextFreeLaws.{LookedAt-empty, LookedAt-none, LookedAt-stays, LookedAt-taken, best-next_core, free_on, on_sockets}
use Rattle.arb_seats.proofs.core_table.Cores.next_free.Goals.{then-there-eq0, else-there-eq0, then-most-rank, else-most-rank}
use Rattle.arb_seats.proofs.core_table.Cores.next_free.Goals as goal

pub loop-socket-init : goal.loop-socket-init
loop-socket-init c = record { looked = LookedAt-none _ _ c.args.app; low = omega arith; within = omega arith }

pub overflow_add-rank : goal.overflow_add-rank
overflow_add-rank c =
    let few : length c.args.self.now.cores ≤ set_size = rw (← c.self.view_is) (few_cores c.self.invariant) in
    let most : owned_on (socket_by_position c.args.self.now.machine) c.args.self.now.cores c.args.app c.loop-socket.socket ≤ length c.args.self.now.cores = count_below-le _ _ in
    record { fits = omega (arith, few, most, c.owned_on-owned.ensures) }

pub loop-socket-preserved : goal.loop-socket-preserved
loop-socket-preserved c =
    let sockets = socket_by_position c.args.self.now.machine in
    let cores = c.args.self.now.cores in
    let app = c.args.app in
    let socket = c.loop-socket.socket in
    let there = c.both-there.result in
    let are = free_on sockets cores app socket _ _ there (rw (← c.self.view_is) c.self.invariant.are_free) (rw (← c.self.view_is) (c.self.invariant.are_on socket c.loop-socket-test.true)) c.both-there.ensures in
    let i = c.loop-socket.invariant in
    elim c.if-there-eq0.branch [
      | then-there-eq0 none ↦ elim c.if-most-rank.branch [
        | then-most-rank more ↦ absurd (omega (arith, more.if-most-rank.true, none.rank-is))
        | else-most-rank fewer ↦ rw (fewer.best-is, fewer.most-is) (record {
          looked = LookedAt-empty sockets cores app socket c.loop-socket.best c.loop-socket.most there i.looked are.0 are.1 none.if-there-eq0.true;
          low = omega (arith, i.low);
          within = i.within;
        })
      ]
      | else-there-eq0 some ↦
          let owned : c.if-there-eq0.rank ≡ owned_on sockets cores app socket + 1 = some.rank-is ∙ ap (λ (n : ℕ). n + 1) c.owned_on-owned.ensures in
          elim c.if-most-rank.branch [
            | then-most-rank more ↦ rw (more.best-is, more.most-is, owned) (record {
              looked = LookedAt-taken sockets cores app socket c.loop-socket.best c.loop-socket.most there i.looked are.0 are.1 c.both-there.type_inv (omega (arith, some.if-there-eq0.false)) (omega (arith, more.if-most-rank.true, owned));
              low = omega arith;
              within = c.loop-socket-test.true;
            })
            | else-most-rank fewer ↦ rw (fewer.best-is, fewer.most-is) (record {
              looked = LookedAt-stays sockets cores app socket c.loop-socket.best c.loop-socket.most there i.looked are.0 are.1 i.low (omega (arith, fewer.if-most-rank.false, owned));
              low = omega (arith, i.low);
              within = i.within;
            })
          ]
    ]

pub returns : goal.returns
returns c =
    let sockets = socket_by_position c.args.self.now.machine in
    let cores = c.args.self.now.cores in
    let i = c.loop-socket.invariant in
    let few : length cores ≤ set_size = rw (← c.self.view_is) (few_cores c.self.invariant) in
    let below : (q : ℕ) → q < length cores → slice_index sockets q < c.loop-socket.socket = rw (← c.self.view_is) (on_sockets c.self.invariant c.loop-socket.socket c.loop-socket-test.false) in
    let are = free_on sockets cores c.args.app c.loop-socket.best _ _ c.both.result (rw (← c.self.view_is) c.self.invariant.are_free) (rw (← c.self.view_is) (c.self.invariant.are_on c.loop-socket.best i.within)) c.both.ensures in
    best-next_core sockets cores c.args.app c.loop-socket.best c.loop-socket.most c.loop-socket.socket c.both.result i.looked below few are.0 are.1 c.first_position.result c.first_position.ensures
