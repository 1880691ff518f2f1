-- How many cores each application owns on each socket, as a list that has the counts of an application together.
use Rattle.std.specs.Prelude.{◌≡◌, ℕ, ◌+◌, ◌*◌, ◌<◌, ◌==◌, ◌&&◌, List, slice_index}
use Rattle.arb_config.specs.Limits.{max_sockets}
use Rattle.arb_model.specs.Lists.{one_if}

-- the count of an application and a socket
abbrev pub count_at : (counts : List ℕ) (app socket : ℕ) → ℕ
count_at counts app socket = slice_index counts (app * max_sockets + socket)

-- the second counts are the first with one core more, of an application on a socket
abbrev pub HasOneMore : (app socket : ℕ) (fewer more : List ℕ) → Type 0
HasOneMore app socket fewer more =
    (a s : ℕ) → s < max_sockets → count_at more a s ≡ count_at fewer a s + one_if ((app == a) && (socket == s))
