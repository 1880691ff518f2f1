-- Who holds cores.
use Rattle.std.specs.Prelude.{ℕ, ◌<◌, List, Option, None, Some, MatchOption}
use Rattle.arb_model.specs.declared.holders.Holder.{Holder}
use Rattle.arb_model.specs.Limits.{all_threads}
use Rattle.arb_model.specs.Standing.{holder_at}

-- whoever is on a core is a thread
abbrev pub AreThreads : List (Option Holder) → Type 0
AreThreads cores = (p : ℕ) → MatchOption (holder_at cores p) (Unit {0}) (λ holder. holder.thread < all_threads)

-- a core of a holder that is asked back since a moment, or not
abbrev pub asked_since : Holder → Option ℕ → Option Holder
asked_since holder since = Some (record { thread = holder.thread; asked = since })

-- a core that is given to a thread; it isn't asked back
abbrev pub given_to : ℕ → Option Holder
given_to thread = Some (record { thread = thread; asked = None })
