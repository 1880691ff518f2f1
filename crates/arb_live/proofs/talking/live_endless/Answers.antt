use Rattle.arb_live.proofs.talking.live_endless.Goals as goal

-- (what an edit makes wrong has an answer, so that it is refused at once)
pub returns-clause-talked : goal.returns-clause-talked
returns-clause-talked g c = c.talk.ensures.talked

pub returns-clause-written : goal.returns-clause-written
returns-clause-written g c = c.talk.ensures.written
