use Rattle.arb_model.proofs.SettlingLaws.{posts_settle, settles_one_way}
use Rattle.arb_model.proofs.laws.histories_settle.Goals as goal

pub returns : goal.returns
returns c = record { posts = posts_settle; only = settles_one_way }
