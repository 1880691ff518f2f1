-- What a writer or a reader has seen.
use Rattle.std.specs.Prelude.{ℕ}
use Rattle.arb_model.specs.History.{History}

-- a writer or a reader, as contracts see it: the history that it has seen, which is a point of the one history, and how many steps it has made; a step is one load or one store of one word
pub record Observer : Type 0 where
  pub seen : History
  pub steps : ℕ

-- one that has seen a history, and has made no step yet
abbrev pub newcomer : History → Observer
newcomer h = record { seen = h; steps = 0 }
