-- The owner table: who has each managed core.
use Rattle.std.specs.Prelude.{ℕ, List, [], ◌∷◌, ◌++◌, Option, Some, None, is_some, length, slice_index, codes, decimal}
use Rattle.std.specs.List.{flat_map, range_with_len}
use Rattle.arb_share.specs.Text.{line_feed}
use Rattle.arb_config.specs.Machine.{Machine, cores_of, socket_by_position}
use Rattle.arb_model.specs.declared.holders.Holder.{Holder}
use Rattle.arb_model.specs.Standing.{Seats, holder_at}
use Rattle.arb_model.specs.Texts.{client_word}
use Rattle.arb_model.specs.Texts.{asked_text}

-- who has a core, and whether it is asked back
abbrev pub owner_text : Option Holder → List ℕ
owner_text None = codes "free"
owner_text (Some holder) = codes "owner " ++ client_word holder.thread ++ asked_text (is_some holder.asked)

-- the line of a core: its number, its socket and who has it
abbrev pub core_line : (core socket : ℕ) → Option Holder → List ℕ
core_line core socket holder = codes "core " ++ decimal core ++ codes " socket " ++ decimal socket ++ codes " " ++ owner_text holder ++ line_feed ∷ []

-- the line of the core at a position
abbrev pub line_at : Machine → Seats → (position : ℕ) → List ℕ
line_at m s position = core_line (slice_index (cores_of m) position) (slice_index (socket_by_position m) position) (holder_at s.cores position)

-- the owner table: a line for each managed core, in order of position
abbrev pub table_text : Machine → Seats → List ℕ
table_text m s = flat_map (line_at m s) (range_with_len 0 (length (cores_of m)))
