-- How many places the queue has.
use Rattle.std.specs.Prelude.{ℕ}

-- how many messages the queue holds at most
abbrev pub places : ℕ
places = 64
