-- Handing on the posts that follow, one after another.
use Rattle.std.proofs.Common.{◌≡◌, ℕ, List, length, ap, sym, ◌∙◌, Some, None, refl}
use Rattle.std.specs.List.{FoldsTo}
use Rattle.std.proofs.lemmas.List.{length-set}
use Rattle.arb_model.specs.declared.orders.Event.{Event}
use Rattle.arb_model.specs.Layout.{word_count}
use Rattle.arb_model.specs.Posting.{OnPost, next_stale_of, posts_of}
use Rattle.arb_seats.specs.NextPost.{PostsNext}
use Rattle.arb_model.specs.Standing.{Standing}
use Rattle.arb_model.proofs.PostingLaws.{posts_done, posts_next}

-- a post is handed on: a call with its word and its value
abbrev pub handing : {F : Type 0} → (F → ℕ → ℕ → F → Type 0) → F → Event → F → Type 0
handing R before post after = OnPost (λ w value. R before w value after) post

-- the next post is handed on, and then those that follow it
pub handed_more : {F : Type 0} (R : F → ℕ → ℕ → F → Type 0) (each after last : F) (s t : Standing) (posted next : List ℕ) (w value : ℕ) → length next ≡ word_count → PostsNext s posted next (Some (w, value)) → t ≡ s → R each w value after → FoldsTo (handing R) after (posts_of t next) last → FoldsTo (handing R) each (posts_of s posted) last
handed_more R each after last s t posted next w value long (turn, (is, is_set)) same met calls =
    let was : length posted ≡ word_count = sym (length-set posted w value) ∙ sym (ap length is_set) ∙ long in
    rw (posts_next s posted w was turn) (after, rw is at met, rw (same, is_set, is) at calls)

-- where no word is next nothing is handed on
pub handed_none : {F : Type 0} (R : F → ℕ → ℕ → F → Type 0) (each : F) (s : Standing) (posted : List ℕ) → next_stale_of s posted ≡ None → FoldsTo (handing R) each (posts_of s posted) each
handed_none R each s posted none = rw (posts_done s posted none) refl
