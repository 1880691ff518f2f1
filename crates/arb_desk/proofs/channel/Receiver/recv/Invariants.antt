-- The pass is one of the channel.
use Rattle.crossbeam_channel.specs.Claims.{IsSeatAt}
use Rattle.crossbeam_channel.specs.Ends.{receives_on}
use Rattle.arb_desk.proofs.channel.Receiver.recv.Given as goal

abbrev pub invariant-loop-look : goal.invariant-loop-look
invariant-loop-look g l = IsSeatAt (receives_on l.self-inside.end) l.self-inside.pass
