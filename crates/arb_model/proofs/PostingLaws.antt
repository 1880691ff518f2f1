-- Laws of posting: each post makes one stale word less, and posting ends.
use Rattle.std.proofs.lemmas.Bool.Decides.{nat_tests}
use Rattle.std.proofs.Common.{◌≡◌, ℕ, ◌+◌, ◌-◌, ◌<◌, ◌≤◌, List, [], ◌∷◌, length, set, zero, suc, refl, arith, sym, ap, ◌∙◌, subst, Some, None, true, false, inl, inr, slice_index, not}
use Rattle.std.specs.Prelude.{◌==◌, slice_set}
use Rattle.std.proofs.lemmas.Bool.{eq-eqb}
use Rattle.std.proofs.lemmas.List.{get_or-set_same, get_or-set_other, length-set}
use Rattle.arb_model.specs.Layout.{word_count}
use Rattle.arb_model.specs.declared.orders.Event.TheVariants.{Posted}
use Rattle.arb_config.specs.Machine.{Machine}
use Rattle.arb_model.specs.History.{History, MayPost, State}
use Rattle.arb_model.specs.Laws.{BringsUpToDate}
use Rattle.arb_model.specs.Posting.{is_stale, next_stale_of, posts_of, posts_then, posts_within, stale_count}
use Rattle.arb_model.specs.Standing.{Standing}
use Rattle.arb_model.specs.Words.{word_of}
use Rattle.arb_model.proofs.CountLaws.{count_below-le, count_below-one_less, none_counted}
use Rattle.arb_model.proofs.StepLaws.{cases_Option}
use Rattle.arb_model.proofs.WordsLaws.{next_is}

-- each post makes the number of stale words less by one
pub stale_count-post : (s : Standing) (posted : List ℕ) (w : ℕ) → length posted ≡ word_count → w < word_count → is_stale s posted w ≡ true → stale_count s (set posted w (word_of s w)) + 1 ≡ stale_count s posted
unfolding stale_count
stale_count-post s posted w long within stale =
    let inside : w < length posted = omega (arith, long) in
    let value : ℕ = word_of s w in
    let now : slice_index (set posted w value) w ≡ value = get_or-set_same posted w value 0 inside in
    let fresh : is_stale s (set posted w value) w ≡ false = ap not (eq-eqb (slice_index (set posted w value) w) value now) in
    count_below-one_less (is_stale s posted) (is_stale s (set posted w value)) w word_count within stale fresh
    (λ p ne. let same : slice_index (set posted w value) p ≡ slice_index posted p = get_or-set_other posted w p value 0 ne in ap (λ n. not (n == word_of s p)) same)

-- each post makes the number of stale words less by one
pub one_post : (s : Standing) (posted : List ℕ) (w : ℕ) → length posted ≡ word_count → next_stale_of s posted ≡ Some w → stale_count s (set posted w (word_of s w)) + 1 ≡ stale_count s posted
one_post s posted w long turn = grind (arith, nat_tests, next_is, stale_count-post)

-- where none is stale, none is next
pub settled_since_none : (s : Standing) (posted : List ℕ) → stale_count s posted ≡ 0 → next_stale_of s posted ≡ None
unfolding stale_count
settled_since_none s posted z =
    elim (cases_Option (next_stale_of s posted)) [
      | inl e ↦ e
      | inr r ↦
          let n = next_is s posted r.0 r.1 in
          absurd (none_counted (is_stale s posted) word_count r.0 z n.within n.stale)
    ]

pub posts_none : (most : ℕ) (s : Standing) (posted : List ℕ) → next_stale_of s posted ≡ None → posts_within (suc most) s posted ≡ []
posts_none most s posted e = ap (λ o. posts_then o (λ w. Posted w (word_of s w) ∷ posts_within most s (slice_set posted w (word_of s w)))) e

pub posts_some : (most : ℕ) (s : Standing) (posted : List ℕ) (w : ℕ) → next_stale_of s posted ≡ Some w → posts_within (suc most) s posted ≡ Posted w (word_of s w) ∷ posts_within most s (set posted w (word_of s w))
posts_some most s posted w e = ap (λ o. posts_then o (λ w. Posted w (word_of s w) ∷ posts_within most s (slice_set posted w (word_of s w)))) e

nothing_stale : (m : Machine) (k : State) → length k.posted ≡ word_count → next_stale_of k.standing k.posted ≡ None → BringsUpToDate m k []
nothing_stale m k long e = record { legal = tt; standing = refl; long = long; settled = e }

posting_ends_within : (m : Machine) (most : ℕ) (k : State) → length k.posted ≡ word_count → stale_count k.standing k.posted ≤ most → BringsUpToDate m k (posts_within most k.standing k.posted)
posting_ends_within m zero k long few =
    nothing_stale m k long (settled_since_none k.standing k.posted (omega (arith, few)))
posting_ends_within m (suc most) k long few =
    elim (cases_Option (next_stale_of k.standing k.posted)) [
      | inl e ↦ subst (BringsUpToDate m k) (sym (posts_none most k.standing k.posted e)) (nothing_stale m k long e)
      | inr r ↦
          let value : ℕ = word_of k.standing r.0 in
          let next : State = record k { posted = set k.posted r.0 value } in
          let rest : BringsUpToDate m next (posts_within most k.standing next.posted) = posting_ends_within m most next (length-set k.posted r.0 value ∙ long) (omega (arith, few, one_post k.standing k.posted r.0 long r.1)) in
          let may : MayPost k r.0 value = record { turn = r.1; is = refl } in
          subst (BringsUpToDate m k) (sym (posts_some most k.standing k.posted r.0 r.1)) (record { legal = (may, rest.legal); standing = rest.standing; long = rest.long; settled = rest.settled })
    ]

-- no more words are stale than there are
pub stale_count-le : (s : Standing) (posted : List ℕ) → stale_count s posted ≤ word_count
unfolding stale_count
stale_count-le s posted = count_below-le (is_stale s posted) word_count

pub posting_ends : (m : Machine) (k : State) → length k.posted ≡ word_count → BringsUpToDate m k (posts_of k.standing k.posted)
unfolding posts_of
posting_ends m k long = posting_ends_within m word_count k long (stale_count-le k.standing k.posted)

-- posting for one turn more changes nothing where all stale words have had theirs
within_more : (most : ℕ) (s : Standing) (posted : List ℕ) → length posted ≡ word_count → stale_count s posted ≤ most → posts_within most s posted ≡ posts_within (suc most) s posted
within_more zero s posted long few = sym (posts_none zero s posted (settled_since_none s posted (omega (arith, few))))
within_more (suc most) s posted long few =
    elim (cases_Option (next_stale_of s posted)) [
      | inl e ↦ posts_none most s posted e ∙ sym (posts_none (suc most) s posted e)
      | inr r ↦
          let value : ℕ = word_of s r.0 in
          let more = within_more most s (set posted r.0 value) (length-set posted r.0 value ∙ long) (omega (arith, few, one_post s posted r.0 long r.1)) in
          posts_some most s posted r.0 r.1 ∙ ap (λ (posts : History). Posted r.0 value ∷ posts) more ∙ sym (posts_some (suc most) s posted r.0 r.1)
    ]

-- all posts that follow: the next one, and those that follow that
pub posts_next : (s : Standing) (posted : List ℕ) (w : ℕ) → length posted ≡ word_count → next_stale_of s posted ≡ Some w → posts_of s posted ≡ Posted w (word_of s w) ∷ posts_of s (set posted w (word_of s w))
unfolding posts_of
posts_next s posted w long turn =
    let value : ℕ = word_of s w in
    let few : stale_count s (set posted w value) ≤ word_count - 1 = omega (arith, stale_count-le s posted, one_post s posted w long turn) in
    posts_some (word_count - 1) s posted w turn ∙ ap (λ (posts : History). Posted w value ∷ posts) (within_more (word_count - 1) s (set posted w value) (length-set posted w value ∙ long) few)

-- and none where no word is next
pub posts_done : (s : Standing) (posted : List ℕ) → next_stale_of s posted ≡ None → posts_of s posted ≡ []
unfolding posts_of
posts_done s posted none = posts_none (word_count - 1) s posted none
