-- That a history is legal is a fact, with one proof at most. So a field of a struct may hold it.
use Rattle.std.proofs.Common.{[], ◌∷◌}
use Rattle.std.proofs.Props.{props}
use Rattle.arb_config.specs.Machine.{Machine}
use Rattle.arb_model.specs.declared.orders.Event.TheVariants.{Entered, Posted}
use Rattle.arb_model.specs.declared.orders.Order.{Order}
use Rattle.arb_model.specs.declared.orders.Order.TheVariants.{Join, Ask, Cap, Block, Retire, Leave, Status, Tick}
use Rattle.arb_model.specs.History.{FitsOrder, History, IsLegal, LegalFrom, State, beginning, state_next}
use Rattle.arb_model.specs.HistoryLaws.{LegalIsFact}

fits_prop : (order : Order) → IsProp (FitsOrder order)
fits_prop Join = hlevel
fits_prop (Ask request) = hlevel props
fits_prop (Cap cap) = hlevel props
fits_prop Block = hlevel
fits_prop Retire = hlevel
fits_prop Leave = hlevel
fits_prop Status = hlevel
fits_prop (Tick moment) = hlevel props

from_prop : (m : Machine) (k : State) (h : History) → IsProp (LegalFrom m k h)
from_prop m k [] = hlevel
from_prop m k (Entered e ∷ es) = hlevel (props, fits_prop e.order, from_prop m (state_next m k (Entered e)) es)
from_prop m k (Posted w value ∷ es) = hlevel (props, from_prop m (state_next m k (Posted w value)) es)

-- cited by a ghost field as `by { Prim.hlevel legal_prop }`
pub legal_prop : LegalIsFact
unfolding IsLegal
legal_prop m h = from_prop m (beginning m) h
