-- Marks of clients: one client more is marked, and the first that is marked.
use Rattle.std.proofs.Common.{◌≢◌, ℕ, ◌<◌, inl, inr, List, Bool, true, false, length, set, get_or-set_same, get_or-set_other}
use Rattle.std.proofs.lemmas.Bool.{cases_eq}
use mathlib.Core.Logic.{◌↔◌}
use Rattle.arb_house.specs.Walks.{Marks}

-- one client more has the property, and is marked
pub marks_more : (P Q : ℕ → Type 0) (marks : List Bool) (v : ℕ) → v < length marks → Marks P marks → Q v → ((c : ℕ) → c ≢ v → P c ↔ Q c) → Marks Q (set marks v true)
marks_more P Q marks v h is here others c within =
    elim (cases_eq c v) [
      | inl e ↦ rw e ((λ _. here), λ _. get_or-set_same marks v true false h)
      | inr ne ↦ rw (get_or-set_other marks v c true false ne) ((λ m. (others c ne).0 ((is c within).0 m)), λ q. (is c within).1 ((others c ne).1 q))
    ]

-- the same clients have another property
pub marks_same : (P Q : ℕ → Type 0) (marks : List Bool) → Marks P marks → ((c : ℕ) → P c ↔ Q c) → Marks Q marks
marks_same P Q marks is same c within = ((λ m. (same c).0 ((is c within).0 m)), λ q. (is c within).1 ((same c).1 q))
