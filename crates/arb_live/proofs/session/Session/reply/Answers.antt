use Rattle.arb_live.proofs.AnsweredLaws.{flushed_reply}
use Rattle.arb_live.proofs.session.Session.reply.Goals as goal

pub returns-clause-replied : goal.returns-clause-replied
returns-clause-replied g c =
    flushed_reply c.flush.result (c.in_ok-take_bytes.ensures {u = tt}).answered c.flush.ensures.flushed c.flush.ensures.none c.flush.ensures.counts
