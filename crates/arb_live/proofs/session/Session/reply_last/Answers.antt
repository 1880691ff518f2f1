use Rattle.arb_live.proofs.AnsweredLaws.{flushed_reply}
use Rattle.arb_live.proofs.session.Session.reply_last.Goals as goal

pub returns : goal.returns
returns g c =
    flushed_reply c.flush.result (c.in_ok-finish.ensures {u = tt}) c.flush.ensures.flushed c.flush.ensures.none c.flush.ensures.counts
