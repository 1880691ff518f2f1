use Rattle.std.proofs.Common.{◌≡◌, ◌<◌, ◌≤◌, ℕ, [], List, Option, length, slice_index_or, slice_set}
use Rattle.arb_share.specs.Limits.{levels}
use Rattle.arb_share.specs.Demands.{AreDemands}
use Rattle.arb_share.specs.Due.{Entries, demands_at}
use Rattle.arb_share.proofs.demands.Demands.set.Given as goal

abbrev pub invariant-loop-level : goal.invariant-loop-level
invariant-loop-level l =
    (length l.self-inside.rows ≡ levels)
    × ((requests : List (Option Entries)) → AreDemands l.fn.self requests
    → ((level : ℕ) → level < l.level → slice_index_or l.self-inside.rows level [] ≡ demands_at level (slice_set requests l.app l.request))
    × ((level : ℕ) → l.level ≤ level → level < levels → slice_index_or l.self-inside.rows level [] ≡ demands_at level requests))
