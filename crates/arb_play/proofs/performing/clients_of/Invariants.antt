use Rattle.arb_play.proofs.ClientLaws.{Marked}
use Rattle.arb_play.proofs.performing.clients_of.Given as goal

abbrev pub invariant-loop-index : goal.invariant-loop-index
invariant-loop-index l = Marked l.script l.index l.ids.items l.named
