-- The post that comes next: of the stale word that is posted first, where any is stale.
use Rattle.std.specs.Prelude.{◌≡◌, ℕ, List, Option, Some, None, slice_set}
use Rattle.arb_model.specs.Posting.{next_stale_of}
use Rattle.arb_model.specs.Standing.{Standing}
use Rattle.arb_model.specs.Words.{word_of}

-- what was posted of a standing's words before the next post, and after it: the post is a word with its value
abbrev pub PostsNext : Standing → (old new : List ℕ) → Option (ℕ × ℕ) → Type 0
PostsNext s old new None = (next_stale_of s old ≡ None) × (new ≡ old)
PostsNext s old new (Some post) = (next_stale_of s old ≡ Some post.0) × ((post.1 ≡ word_of s post.0) × (new ≡ slice_set old post.0 post.1))
