use Rattle.std.proofs.Common.{ℕ, ◌≤◌, get_or, arith, rules}
use Rattle.arb_share.proofs.Rounds.{Between-first, Between-on, Between-tried}
use Rattle.arb_share.proofs.division.rounds_covered.Goals.{then-covered-lt-FEW_ROUNDS, else-covered-lt-FEW_ROUNDS}
use Rattle.arb_share.proofs.division.rounds_covered.Goals as goal

pub loop-beyond-init : goal.loop-beyond-init
loop-beyond-init c =
    let d = c.args.demands.now in
    let small : (k : ℕ) → get_or d k 0 ≤ 255 = λ k. search rules in
    let few = c.few_rounds_covered-covered in
    elim c.if-covered-lt-FEW_ROUNDS.branch [
      | then-covered-lt-FEW_ROUNDS w ↦
          rw w.beyond-is (Between-tried d c.args.supply few.result few.ensures.covered (few.ensures.most w.if-covered-lt-FEW_ROUNDS.true))
      | else-covered-lt-FEW_ROUNDS w ↦
          let beyond = w.saturating_add-beyond.result in
          let first = Between-first d c.args.supply beyond 255 c.requires small (omega (arith, w.saturating_add-beyond.ensures, c.requires)) (grind (arith, w.saturating_add-beyond.ensures)) in
          rw w.beyond-is (Between-on d c.args.supply few.result beyond first few.ensures.covered)
    ]
