-- Posted words: which are stale, which is posted next, and the posts that bring all up to date.
use Rattle.std.specs.Prelude.{ℕ, zero, suc, List, [], ◌∷◌, Option, Some, None, Bool, ◌==◌, ◌&&◌, not, nat_lt, if◌then◌else◌, slice_index, slice_set}
use Rattle.std.specs.List.{position_or_len, range_with_len}
use Rattle.std.specs.Option.{option_or}
use Rattle.arb_model.specs.declared.orders.Event.{Event}
use Rattle.arb_model.specs.declared.orders.Event.TheVariants.{Entered, Posted}
use Rattle.arb_model.specs.Lists.{count_below}
use Rattle.arb_model.specs.Layout.{is_place_index, names_a_core, word_count}
use Rattle.arb_model.specs.Standing.{Standing}
use Rattle.arb_model.specs.Words.{word_of}

-- a word is stale where what was posted differs from the standing's word
abbrev pub is_stale : Standing → List ℕ → ℕ → Bool
is_stale s posted w = not (slice_index posted w == word_of s w)

-- a stale place word whose posted value names a core
abbrev pub names_stale : Standing → List ℕ → ℕ → Bool
names_stale s posted w = is_place_index w && (names_a_core (slice_index posted w) && is_stale s posted w)

-- the first number below n that passes a test
abbrev pub first_below : (ℕ → Bool) → ℕ → Option ℕ
first_below passes n = found (position_or_len passes (range_with_len 0 n))
  where
    found : ℕ → Option ℕ
    found i = if nat_lt i n then Some i else None

-- the next stale word: the least stale place word whose posted value names a core; where there is none, the least stale word
unfoldable pub next_stale_of : Standing → List ℕ → Option ℕ
next_stale_of s posted = option_or (first_below (names_stale s posted) word_count) (first_below (is_stale s posted) word_count)

-- how many words are stale
unfoldable pub stale_count : Standing → List ℕ → ℕ
stale_count s posted = count_below (is_stale s posted) word_count

-- what follows where a word is next, and nothing where none is
abbrev pub posts_then : Option ℕ → (ℕ → List Event) → List Event
posts_then None more = []
posts_then (Some w) more = more w

-- the posts of the next stale words one after another, at most so many
abbrev pub posts_within : (most : ℕ) → Standing → List ℕ → List Event
posts_within zero s posted = []
posts_within (suc most) s posted =
    posts_then (next_stale_of s posted) (λ w. Posted w (word_of s w) ∷ posts_within most s (slice_set posted w (word_of s w)))

-- all posts that follow, in their order
unfoldable pub posts_of : Standing → List ℕ → List Event
posts_of s posted = posts_within word_count s posted

-- an event is a post whose word and value are related so
abbrev pub OnPost : (ℕ → ℕ → Type 0) → Event → Type 0
OnPost Relates (Entered e) = ⊥
OnPost Relates (Posted w value) = Relates w value
