-- Laws of legal histories.
use Rattle.std.proofs.Common.{◌≡◌, [], ◌∷◌, ◌++◌, sym, subst}
use Rattle.std.specs.Prelude.{fold}
use Rattle.std.proofs.lemmas.List.Sums.{fold_push}
use mathlib.Core.List.{IsPrefix}
use Rattle.arb_model.specs.declared.orders.Event.{Event}
use Rattle.arb_config.specs.Machine.{Machine}
use Rattle.arb_model.specs.History.{History, IsLegal, LegalFrom, MayFollow, State, beginning, state_after, state_next}

pub legal_empty : (m : Machine) → IsLegal m []
unfolding IsLegal
legal_empty m = tt

pub from_prefix : (m : Machine) (k : State) (xs ys : History) → LegalFrom m k (xs ++ ys) → LegalFrom m k xs
from_prefix m k [] ys l = tt
from_prefix m k (x ∷ xs) ys l = (l.0, from_prefix m (state_next m k x) xs ys l.1)

pub legal_prefix : (m : Machine) (xs zs : History) → IsPrefix xs zs → IsLegal m zs → IsLegal m xs
unfolding IsLegal
legal_prefix m xs zs p l = from_prefix m (beginning m) xs p.0 (subst (LegalFrom m (beginning m)) (sym p.1) l)

pub from_more : (m : Machine) (k : State) (xs ys : History) → LegalFrom m k xs → LegalFrom m (fold (state_next m) k xs) ys → LegalFrom m k (xs ++ ys)
from_more m k [] ys l more = more
from_more m k (x ∷ xs) ys l more = (l.0, from_more m (state_next m k x) xs ys l.1 more)

pub legal_next : (m : Machine) (h : History) (e : Event) → IsLegal m h → MayFollow m h e → IsLegal m (h ++ e ∷ [])
unfolding IsLegal MayFollow state_after
legal_next m h e l may = from_more m (beginning m) h (e ∷ []) l (may, tt)

pub state_more : (m : Machine) (h : History) (e : Event) → state_after m (h ++ e ∷ []) ≡ state_next m (state_after m h) e
unfolding state_after
state_more m h e = fold_push (state_next m) (beginning m) h e

pub from_split : (m : Machine) (k : State) (xs ys : History) → LegalFrom m k (xs ++ ys) → LegalFrom m (fold (state_next m) k xs) ys
from_split m k [] ys l = l
from_split m k (x ∷ xs) ys l = from_split m (state_next m k x) xs ys l.1

pub legal_allowed : (m : Machine) (before rest : History) (e : Event) → IsLegal m (before ++ e ∷ rest) → MayFollow m before e
unfolding IsLegal MayFollow state_after
legal_allowed m before rest e l = (from_split m (beginning m) before (e ∷ rest) l).0
