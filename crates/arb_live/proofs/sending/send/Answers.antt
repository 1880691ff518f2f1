use Rattle.std.proofs.Common.{◌++◌, take, refl, ◌∙◌}
use Rattle.arb_share.proofs.StreamLaws.{moves_front}
use Rattle.arb_live.proofs.EventLaws.{Did-puts}
use Rattle.arb_live.proofs.sending.send.Goals as goal

pub loop-rest-preserved : goal.loop-rest-preserved
loop-rest-preserved g c =
    let i = c.loop-rest.invariant in
    let rest = c.loop-rest.rest.now in
    record {
      done = i.done ++ take c.in-Ok.taken rest;
      split = moves_front _ i.done rest c.in-Ok.taken i.split;
      did = Did-puts _ _ _ i.done (take c.in-Ok.taken rest) _ refl i.did c.in-Ok.ensures.written;
      writes = c.in-Ok.ensures.counts.ok ∙ i.writes;
      reads = c.in-Ok.ensures.counts.kept ∙ i.reads;
    }
