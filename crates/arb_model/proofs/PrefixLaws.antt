-- Prefixes of a history.
use Rattle.std.proofs.Common.{[], ◌++◌, append_assoc, refl, arith}
use Rattle.std.proofs.lemmas.List.{append-nil}
use mathlib.Core.List.{IsPrefix}
use Rattle.arb_model.specs.History.{History}

pub prefix_of_nil : (h : History) → IsPrefix [] h
prefix_of_nil h = (h, refl)

pub prefix_self : (h : History) → IsPrefix h h
prefix_self h = ([], append-nil h)

pub prefix_more : (before h more : History) → IsPrefix before h → IsPrefix before (h ++ more)
prefix_more before h more p = (p.0 ++ more, grind (arith, append_assoc))
