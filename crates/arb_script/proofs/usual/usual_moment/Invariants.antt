use Rattle.arb_script.proofs.UsualLaws.{ReadsDigits}
use Rattle.arb_script.proofs.usual.usual_moment.Given as goal

-- the digits so far, and their value
abbrev pub invariant-loop-index : goal.invariant-loop-index
invariant-loop-index l = ReadsDigits l.text l.index l.value
