-- The limits of a configuration. Those of `src/limits.rt` are proved to be the same.
use Rattle.std.specs.Prelude.{ℕ, ◌-◌}

-- the highest number of sockets
abbrev pub max_sockets : ℕ
max_sockets = 8

-- the highest number of managed cores, over all sockets
abbrev pub max_managed : ℕ
max_managed = 128

-- how many core numbers there are; the first is 0
abbrev pub core_numbers : ℕ
core_numbers = 1024

-- the highest core number
abbrev pub highest_core : ℕ
highest_core = core_numbers - 1

-- the longest grace, in microseconds
abbrev pub max_grace : ℕ
max_grace = 1000000000

-- the grace, in microseconds, of a configuration that gives none
abbrev pub default_grace : ℕ
default_grace = 10000

-- the highest limit on the orders of a run
abbrev pub max_orders : ℕ
max_orders = 1000000

-- the limit on the orders of a run, of a configuration that gives none
abbrev pub default_orders : ℕ
default_orders = 1000000
