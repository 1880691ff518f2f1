use Rattle.arb_live.proofs.session.Session.new.Goals as goal

-- (what an edit makes wrong has an answer, so that it is refused at once)
pub returns-clause-opening : goal.returns-clause-opening
returns-clause-opening c = c.new.ensures.opening

pub returns-clause-orders : goal.returns-clause-orders
returns-clause-orders c = c.new.ensures.orders
