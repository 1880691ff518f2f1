-- It paused once at the end of each turn so far, and may be called again.
use Rattle.arb_play.specs.Holding.{Calls}
use Rattle.arb_play.proofs.hold.HoldGate.take_turns.Given as goal

abbrev pub invariant-loop-turn : goal.invariant-loop-turn
invariant-loop-turn g l = record {
  callable : goal.F-IsAlwaysCallable g l.pause;
  turns : Calls (λ before after. goal.F-step g before tt after) l._turn l.initial.pause l.pause;
}
