-- Whose each entry of the history is: a list of the seats that entered them, in their order.
use Rattle.std.specs.Prelude.{ℕ, ◌+◌, ◌≤◌, ◌==◌, if◌then◌else◌, List, [], ◌∷◌, ◌++◌}
use Rattle.arb_model.specs.declared.orders.Event.{Event}
use Rattle.arb_model.specs.declared.orders.Event.TheVariants.{Entered, Posted}
use Rattle.arb_model.specs.History.{History, orders_in}

-- the places at which a list of seats has a seat, the first place being n
abbrev pub places_from : (seat n : ℕ) → List ℕ → List ℕ
places_from seat n [] = []
places_from seat n (x ∷ xs) = if x == seat then n ∷ places_from seat (n + 1) xs else places_from seat (n + 1) xs

-- the seats after an event of a seat
abbrev pub givers_after : List ℕ → ℕ → Event → List ℕ
givers_after givers seat (Entered e) = givers ++ seat ∷ []
givers_after givers seat (Posted w value) = givers

-- the places of a seat's own entries after its own event
abbrev pub mine_after : List ℕ → History → Event → List ℕ
mine_after mine h (Entered e) = mine ++ orders_in h ∷ []
mine_after mine h (Posted w value) = mine

-- numbers that rise from one bound, below another
abbrev pub Rises : (low : ℕ) → List ℕ → (end : ℕ) → Type 0
Rises low [] end = low ≤ end
Rises low (x ∷ xs) end = (low ≤ x) × Rises (x + 1) xs end
