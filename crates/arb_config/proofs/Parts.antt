-- A part of a joined list is no longer than the whole.
use Rattle.std.proofs.Common.{ℕ, ◌<◌, ◌≤◌, List, [], ◌∷◌, length, get_or, map, zero, suc, arith, length-append}
use Rattle.std.specs.List.{concat}

pub length-part-le : {X : Type 0} (items : X → List ℕ) (lists : List X) (k : ℕ) (d : X) → k < length lists → length (items (get_or lists k d)) ≤ length (concat (map items lists))
length-part-le items [] k d h = absurd (omega arith)
length-part-le items (x ∷ lists) zero d h = omega (arith, length-append (items x) (concat (map items lists)))
length-part-le items (x ∷ lists) (suc k) d h = omega (arith, length-append (items x) (concat (map items lists)), length-part-le items lists k d (omega arith))
