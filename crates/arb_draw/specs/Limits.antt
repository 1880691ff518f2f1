-- The limits of a picture. Those of `src/limits.rt` are proved to be the same.
use Rattle.std.specs.Prelude.{ℕ}

-- how many orders a picture shows at most
abbrev pub max_orders : ℕ
max_orders = 2000

-- how many bars a picture has at most, the hatched parts among them
abbrev pub max_bars : ℕ
max_bars = 20000
