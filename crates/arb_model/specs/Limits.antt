-- How many threads and clients there are, and the limit on caps.
use Rattle.std.specs.Prelude.{ℕ, ◌+◌, ◌*◌}
use Rattle.arb_share.specs.Limits.{applications}

-- how many threads an application has at most
abbrev pub threads : ℕ
threads = 32

-- how many threads all applications have at most, together
abbrev pub all_threads : ℕ
all_threads = applications * threads

-- how many clients there are: all threads, and the clock
abbrev pub clients : ℕ
clients = all_threads + 1

-- the largest cap that an application may have
abbrev pub max_cap : ℕ
max_cap = 128
