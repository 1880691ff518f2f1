use Rattle.std.proofs.Common.{arith}
use Rattle.std.proofs.lemmas.Grind.{common_steps}
use Rattle.arb_client.specs.Sides.{GainsRoom}
use Rattle.arb_client.proofs.SideLaws.{gains_room_trans}
use Rattle.arb_client.proofs.client.Client.post_at_last.Goals as goal

pub loop-preserved : goal.loop-preserved
loop-preserved g c =
    let gains : GainsRoom c.loop.self c.post-answer.new.self = grind (arith, common_steps) in
    (tt, tt, gains_room_trans _ _ _ c.loop.invariant.2 gains)
