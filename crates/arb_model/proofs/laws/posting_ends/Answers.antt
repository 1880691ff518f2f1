use Rattle.arb_model.proofs.PostingLaws.{one_post, posting_ends, settled_since_none}
use Rattle.arb_model.proofs.WordsLaws.{next_is, none_stale}
use Rattle.arb_model.proofs.laws.posting_ends.Goals as goal

pub returns : goal.returns
returns c = record { one_less = one_post; done = settled_since_none; settled = none_stale; least = next_is; ends = posting_ends }
