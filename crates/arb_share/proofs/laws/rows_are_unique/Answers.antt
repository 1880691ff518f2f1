use Rattle.arb_share.proofs.RowsLaws.{Reads-ExactlyOne}
use Rattle.arb_share.proofs.laws.rows_are_unique.Goals as goal

pub returns : goal.returns
returns c = Reads-ExactlyOne
