-- What contracts see of a gate that holds one order back.
use Rattle.std.specs.Prelude.{ℕ, zero, suc, ◌≡◌, ◌≤◌}

-- the order that it holds back, the one that it waits for, and how many turns it waits at most
pub record Holding : Type 0 where
  pub held : ℕ
  pub until : ℕ
  pub limit : ℕ

-- by so many calls what is called came from one state to another
abbrev pub Calls : {P : Type 0} → (P → P → Type 0) → ℕ → P → P → Type 0
Calls step zero p q = p ≡ q
Calls {P} step (suc n) p q = (j : P) × Calls step n p j × step j q

-- and by so many calls at most
abbrev pub CallsAtMost : {P : Type 0} → (P → P → Type 0) → ℕ → P → P → Type 0
CallsAtMost step limit p q = (n : ℕ) × (n ≤ limit) × Calls step n p q
