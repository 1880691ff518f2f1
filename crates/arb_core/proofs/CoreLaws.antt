-- What an order makes of an arbiter.
use Rattle.std.proofs.Common.{◌≡◌, ℕ, ◌+◌, ◌<◌, ◌≤◌, ◌∙◌, List, length, set, arith, ap, inl, inr, sym, subst, Option, Some, None, MatchOption}
use Rattle.std.specs.Prelude.{IfSome, slice_index, sum}
use Rattle.std.proofs.lemmas.Bool.{cases_lt}
use Rattle.std.proofs.lemmas.List.{set_past}
use Rattle.std.proofs.lemmas.List.Folds.{sum_by-replicate}
use Rattle.arb_model.specs.declared.holders.Holder.{Holder}
use Rattle.arb_model.specs.declared.orders.Order.{Order}
use Rattle.arb_model.specs.declared.orders.Reply.{Reply}
use Rattle.arb_config.specs.Machine.{IsMachine, Machine}
use Rattle.arb_model.specs.Arbiter.{Arbiter, IsArbiter, opening_arbiter}
use Rattle.arb_model.specs.History.{FitsOrder}
use Rattle.arb_model.specs.Layout.{word_count}
use Rattle.arb_model.specs.Posting.{next_stale_of, stale_count}
use Rattle.arb_model.specs.Owners.{ChangesOwners}
use Rattle.arb_model.specs.Standing.{Standing, holder_at}
use Rattle.arb_model.specs.Step.{Outcome, step_of}
use Rattle.arb_model.specs.Words.{seat_word, word_of}
use Rattle.arb_model.proofs.WordsLaws.{none_stale, word_of_seats}
use Rattle.arb_seats.specs.NextPost.{PostsNext}
use Rattle.arb_seats.specs.PageWords.{PageWords, next_stale_in}
use Rattle.arb_seats.specs.ShownSeats.{ShownSeats, ShowsSeats}
use Rattle.arb_model.proofs.EntryLaws.{step_counts, sum_counts}
use Rattle.arb_model.proofs.PostedLaws.{IsConsistent-beginning, IsConsistent-entered, IsConsistent-posted, next_of_words}
use Rattle.arb_model.proofs.PostingLaws.{one_post}
use Rattle.arb_model.proofs.WellFormedLaws.{are_threads}
use Rattle.arb_seats.proofs.PagesLaws.{next_stale_in-is}
use Rattle.arb_seats.proofs.ShownLaws.{shown_words}
use Rattle.arb_model.proofs.StepLaws.{step_changes_owners}

abbrev pub arbiter : Machine → Standing → List ℕ → Arbiter
arbiter machine standing posted = record { machine = machine; standing = standing; posted = posted }

-- an order counts as one at most
pub one_more : (m : Machine) (s : Standing) (client : ℕ) (order : Order) → sum (step_of m s client order).standing.counts ≤ sum s.counts + 1
one_more m s client order =
    elim (cases_lt client (length s.counts)) [
      | inl less ↦ omega (arith, sum_counts m s client order less)
      | inr past ↦ omega (arith, ap sum (step_counts m s client order ∙ set_past s.counts client (slice_index s.counts client + 1) past))
    ]

-- an order keeps an arbiter well formed
pub IsArbiter-step : (m : Machine) (s after : Standing) (posted words : List ℕ) (client : ℕ) (order : Order) (reply : Reply) (v : Arbiter) → IsArbiter (arbiter m s posted) → ◌≡◌ {A = Outcome} (record { reply = reply; standing = after }) (step_of m s client order) → words ≡ set posted 0 (word_of after 0) → arbiter m s posted ≡ v → FitsOrder order → sum v.standing.counts < v.machine.orders → next_stale_of v.standing v.posted ≡ None → IsArbiter (arbiter m after words)
IsArbiter-step m s after posted words client order reply v i e w is fits room settled =
    let here : sum s.counts < m.orders = rw (← is) at room in
    let none : next_stale_of s posted ≡ None = rw (← is) at settled in
    let same : after ≡ (step_of m s client order).standing = ap (λ (o : Outcome). o.standing) e in
    record {
      machine = i.machine;
      consistent = rw (w, same) (IsConsistent-entered m (record { standing = s; posted = posted }) client order i.machine i.consistent fits none);
      within = omega (arith, here, ap (λ (x : Standing). sum x.counts) same, one_more m s client order);
    }

-- the next stale word is a page word but word 0
pub next_within : (a : Arbiter) (next : Option ℕ) → IsArbiter a → next ≡ next_stale_of a.standing a.posted → IfSome next (λ w. (0 < w) × (w < word_count))
next_within a None i e = tt
next_within a (Some w) i e = next_of_words a.machine (record { standing = a.standing; posted = a.posted }) w i.consistent (sym e)

-- a post of the next stale word keeps an arbiter well formed, and makes one stale word less
pub record Posts (before after : Arbiter) (w : ℕ) : Type 0 where
  pub is : after ≡ arbiter before.machine before.standing (set before.posted w (word_of before.standing w))
  pub formed : IsArbiter after
  pub one_less : stale_count after.standing after.posted + 1 ≡ stale_count before.standing before.posted

pub posts_as : (a before after : Arbiter) (w : ℕ) → a ≡ before → IsArbiter a → next_stale_of before.standing before.posted ≡ Some w → after ≡ arbiter a.machine a.standing (set a.posted w (seat_word a.standing.seats w)) → Posts before after w
posts_as a before after w same i turn e =
    let v : IsArbiter before = subst (λ (x : Arbiter). IsArbiter x) same i in
    let some : 0 < w = (next_within before (Some w) v (sym turn)).0 in
    let is : after ≡ arbiter before.machine before.standing (set before.posted w (word_of before.standing w)) =
    e ∙ ap (λ (x : Arbiter). arbiter x.machine x.standing (set x.posted w (seat_word x.standing.seats w))) same ∙ ap (λ (value : ℕ). arbiter before.machine before.standing (set before.posted w value)) (word_of_seats before.standing w some) in
    record {
      is = is;
      formed = rw is (record { machine = v.machine; consistent = IsConsistent-posted before.machine (record { standing = before.standing; posted = before.posted }) w v.consistent turn; within = v.within });
      one_less = ap (λ (x : Arbiter). stale_count x.standing x.posted + 1) is ∙ one_post before.standing before.posted w v.consistent.long turn;
    }

-- what posting the word that is next makes of an arbiter, with the word and its value, if any is stale
pub record PostsOne (before after : Arbiter) (next : Option (ℕ × ℕ)) : Type 0 where
  pub formed : IsArbiter after
  pub within : IfSome next (λ post. post.0 < word_count)
  pub one_less : IfSome next (λ _. stale_count after.standing after.posted + 1 ≡ stale_count before.standing before.posted)

pub posts_one : (next : Option (ℕ × ℕ)) (a after : Arbiter) → IsArbiter a → after ≡ arbiter a.machine a.standing after.posted → PostsNext a.standing a.posted after.posted next → PostsOne a after next
posts_one None a after i rest (none, same) =
    let is : after ≡ a = rest ∙ ap (arbiter a.machine a.standing) same in
    record { formed = subst (λ (x : Arbiter). IsArbiter x) (sym is) i; within = tt; one_less = tt }
posts_one (Some post) a after i rest (turn, (value, same)) =
    let is : after ≡ arbiter a.machine a.standing (set a.posted post.0 (word_of a.standing post.0)) = rest ∙ ap (arbiter a.machine a.standing) (same ∙ ap (set a.posted post.0) value) in
    record {
      formed = rw is (record { machine = i.machine; consistent = IsConsistent-posted a.machine (record { standing = a.standing; posted = a.posted }) post.0 i.consistent turn; within = i.within });
      within = (next_within a (Some post.0) i (sym turn)).1;
      one_less = ap (λ (x : Arbiter). stale_count x.standing x.posted + 1) is ∙ one_post a.standing a.posted post.0 i.consistent.long turn;
    }

-- where no word was stale all words are posted
pub posted_all : (a after : Arbiter) → after ≡ arbiter a.machine a.standing after.posted → PostsNext a.standing a.posted after.posted None → (w : ℕ) → w < word_count
    → slice_index after.posted w ≡ word_of after.standing w
posted_all a after rest (none, same) = let is : after ≡ a = rest ∙ ap (arbiter a.machine a.standing) same in rw is (none_stale a.standing a.posted none)

-- a new arbiter is well formed
pub IsArbiter-opening : (m : Machine) → IsMachine m → IsArbiter (opening_arbiter m)
IsArbiter-opening m machine =
    record { machine = machine; consistent = IsConsistent-beginning m; within = omega (arith, sum_by-replicate (λ x. x) 513 0) }

-- and changes owners by the law
pub arbiter_owners : (m : Machine) (s after : Standing) (posted : List ℕ) (client : ℕ) (order : Order) (reply : Reply) (v : Arbiter) → IsArbiter (arbiter m s posted) → ◌≡◌ {A = Outcome} (record { reply = reply; standing = after }) (step_of m s client order) → arbiter m s posted ≡ v → ChangesOwners v.machine v.standing client order after.seats
arbiter_owners m s after posted client order reply v i e is =
    rw (← is, ap (λ (o : Outcome). o.standing) e) (step_changes_owners m s client order (i.consistent.standing.cores ∙ sym i.machine.socket_each))

-- an arbiter's holders are threads
pub arbiter_holder : (m : Machine) (s : Standing) (posted : List ℕ) (position : ℕ) (core : Option Holder) (holder : Holder) → IsArbiter (arbiter m s posted) → core ≡ holder_at s.seats.cores position → core ≡ Some holder → holder.thread < 512
arbiter_holder m s posted position core holder i e some =
    subst (λ (o : Option Holder). MatchOption o (Unit {0}) (λ h. h.thread < 512)) (sym e ∙ some) (are_threads m s i.consistent.standing position)

-- the page words of an arbiter's seats are those of its standing
pub shown_words_of : (a : Arbiter) (f : ShownSeats) (pages : PageWords) → IsArbiter a → f ≡ record { machine = a.machine; seats = a.standing.seats; posted = a.posted } → pages.posted ≡ f.posted → ShowsSeats f.seats pages → (w : ℕ) → w < word_count → slice_index pages.words w ≡ word_of a.standing w
shown_words_of a f pages i is posted shows = shown_words f.seats pages a.standing shows (grind arith) (grind (arith, i.consistent.counted))

-- and so is the next stale one
pub shown_next : (a : Arbiter) (f : ShownSeats) (pages : PageWords) → IsArbiter a → f ≡ record { machine = a.machine; seats = a.standing.seats; posted = a.posted } → pages.posted ≡ f.posted → ShowsSeats f.seats pages → next_stale_in pages ≡ next_stale_of a.standing a.posted
shown_next a f pages i is posted shows =
    next_stale_in-is a.standing pages (shown_words_of a f pages i is posted shows) ∙ ap (next_stale_of a.standing) (grind arith)
