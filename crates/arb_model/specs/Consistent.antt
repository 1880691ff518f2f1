-- What holds at each point of a legal history, between two posts as well.
use Rattle.std.specs.Prelude.{◌≡◌, ℕ, ◌<◌, length, slice_index}
use Rattle.arb_config.specs.Machine.{Machine}
use Rattle.arb_model.specs.Limits.{all_threads}
use Rattle.arb_model.specs.Layout.{NamesACore, position_named, word_count}
use Rattle.arb_model.specs.History.{NamesNoCoreTwice, State, place_posted}
use Rattle.arb_model.specs.WellFormed.{IsStanding}
use Rattle.arb_model.specs.Words.{place_word, word_of}

-- a well formed standing, and posted words that name no core twice and will not while the stale ones are posted in their order
pub record IsConsistent (m : Machine) (k : State) : Type 0 where
  pub standing : IsStanding m k.standing
  pub long : length k.posted ≡ word_count
  -- word 0 is never stale
  pub counted : slice_index k.posted 0 ≡ word_of k.standing 0
  pub apart : NamesNoCoreTwice k.posted
  -- where a thread's posted word names a core, no other posted word names the core that it has now
  pub clear : (t u : ℕ) → t < all_threads → u < all_threads → NamesACore (place_posted k.posted t) → NamesACore (place_posted k.posted u) → NamesACore (place_word k.standing.seats u) → position_named (place_posted k.posted t) ≡ position_named (place_word k.standing.seats u) → t ≡ u
