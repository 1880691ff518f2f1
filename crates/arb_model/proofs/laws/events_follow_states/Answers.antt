use Rattle.arb_model.proofs.SettlingLaws.{entry_follows, follows_by_state, replies_of_steps}
use Rattle.arb_model.proofs.laws.events_follow_states.Goals as goal

pub returns : goal.returns
returns c = record { event = follows_by_state; entry = entry_follows; reply = replies_of_steps }
