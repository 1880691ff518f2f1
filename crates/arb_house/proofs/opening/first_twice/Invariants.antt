-- The clients so far are apart, and the next one differs from those before it that were compared.
use Rattle.std.proofs.Common.{◌≡◌, ◌≢◌, ℕ, ◌<◌, Some}
use Rattle.std.specs.Prelude.{slice_get}
use Rattle.arb_house.proofs.opening.first_twice.Given as goal

abbrev pub invariant-loop-j : goal.invariant-loop-j
invariant-loop-j l = (i c d : ℕ) → i < l.j → slice_get l.clients i ≡ Some c → slice_get l.clients l.k ≡ Some d → c ≢ d

abbrev pub invariant-loop-k : goal.invariant-loop-k
invariant-loop-k l = (i j c d : ℕ) → i < j → j < l.k → slice_get l.clients i ≡ Some c → slice_get l.clients j ≡ Some d → c ≢ d
