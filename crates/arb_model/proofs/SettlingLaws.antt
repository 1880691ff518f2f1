-- Histories go on to where no word is stale, by the posts that follow and no others.
use Rattle.std.proofs.lemmas.Grind.{common_steps}
use Rattle.std.proofs.lemmas.Bool.Decides.{nat_tests}
use Rattle.std.proofs.Common.{◌≡◌, ℕ, ◌≤◌, List, [], ◌∷◌, ◌++◌, length, set, zero, suc, refl, arith, sym, ap, ◌∙◌, subst, None, inl, inr}
use Rattle.std.specs.Prelude.{fold, sum}
use Rattle.std.proofs.lemmas.List.{length-set}
use Rattle.std.proofs.lemmas.List.Folds.{sum_by-replicate}
use Rattle.std.proofs.lemmas.List.Sums.{fold-append}
use Rattle.arb_config.specs.Machine.{IsMachine, Machine}
use Rattle.arb_model.specs.declared.orders.Event.{Event}
use Rattle.arb_model.specs.declared.orders.Event.TheVariants.{Entered, Posted}
use Rattle.arb_model.specs.Consistent.{IsConsistent}
use Rattle.arb_model.specs.History.{History, IsLegal, LegalFrom, MayFollow, State, beginning, is_entry, orders_in, posts_after, state_after, state_next}
use Rattle.arb_model.specs.HistoryLaws.{EntryFollows, FollowsByState, LegalIsArbiter, OrdersWithin, PostsSettle, ReadsSettled, RepliesOfSteps, SettlesOneWay, StatesBegin, SumsOrders}
use Rattle.arb_model.specs.Laws.{BringsUpToDate}
use Rattle.arb_model.specs.Layout.{word_count}
use Rattle.arb_model.specs.Posting.{next_stale_of, posts_of, posts_within, stale_count}
use Rattle.arb_model.specs.Standing.{Standing}
use Rattle.arb_model.specs.Words.{word_of}
use Rattle.arb_model.proofs.CountLaws.{counts_cons}
use Rattle.arb_model.proofs.EntryLaws.{counts_entries, entries_after, sum_counts}
use Rattle.arb_model.proofs.LegalLaws.{from_more, from_split, legal_allowed, legal_prefix}
use Rattle.arb_model.proofs.PostedLaws.{IsConsistent-after, IsConsistent-beginning, IsConsistent-next}
use Rattle.arb_model.proofs.PostingLaws.{one_post, posting_ends, posts_none, posts_some, settled_since_none, stale_count-le}
use Rattle.arb_model.proofs.ReadingLaws.{reads_posted}
use Rattle.arb_model.proofs.StepLaws.{cases_Option}
use Rattle.arb_model.proofs.WordsLaws.{none_stale}

-- the state after nothing
pub states_begin : StatesBegin
unfolding state_after
states_begin m = refl

-- the state after one history and then more
pub state_join : (m : Machine) (h more : History) → state_after m (h ++ more) ≡ fold (state_next m) (state_after m h) more
unfolding state_after
state_join m h more = fold-append (state_next m) (beginning m) h more

pub legal_join : (m : Machine) (h more : History) → IsLegal m h → LegalFrom m (state_after m h) more → IsLegal m (h ++ more)
unfolding IsLegal state_after
legal_join m h more l follows = from_more m (beginning m) h more l follows

pub legal_rest : (m : Machine) (h more : History) → IsLegal m (h ++ more) → LegalFrom m (state_after m h) more
unfolding IsLegal state_after
legal_rest m h more l = from_split m (beginning m) h more l

-- what may follow may happen in the state that was led to
pub follows_by_state : FollowsByState
unfolding MayFollow
follows_by_state m h e = (λ may. may, λ may. may)

pub entry_follows : EntryFollows
entry_follows m h client order reply machine l may = grind (arith, nat_tests, common_steps, counts_entries, follows_by_state)

pub replies_of_steps : RepliesOfSteps
replies_of_steps m before rest e l = grind (arith, nat_tests, common_steps, follows_by_state, legal_allowed)

-- posts are no orders
posts_alone : (most : ℕ) (s : Standing) (posted : List ℕ) → orders_in (posts_within most s posted) ≡ 0
posts_alone zero s posted = refl
posts_alone (suc most) s posted =
    elim (cases_Option (next_stale_of s posted)) [
      | inl e ↦ ap orders_in (posts_none most s posted e)
      | inr r ↦
          let value : ℕ = word_of s r.0 in
          let rest : List Event = posts_within most s (set posted r.0 value) in
          omega (arith, ap orders_in (posts_some most s posted r.0 r.1), counts_cons is_entry (Posted r.0 value) rest, posts_alone most s (set posted r.0 value))
    ]

all_alone : (s : Standing) (posted : List ℕ) → orders_in (posts_of s posted) ≡ 0
unfolding posts_of
all_alone s posted = posts_alone word_count s posted

-- the posts that follow settle a history
pub posts_settle : PostsSettle
posts_settle m h machine l =
    let k : State = state_after m h in
    let b : BringsUpToDate m k (posts_after m h) = posting_ends m k (IsConsistent-after m h machine l).long in
    let after : state_after m (h ++ posts_after m h) ≡ fold (state_next m) k (posts_after m h) = state_join m h (posts_after m h) in
    let done : next_stale_of (fold (state_next m) k (posts_after m h)).standing (fold (state_next m) k (posts_after m h)).posted ≡ None = subst (λ (s : Standing). next_stale_of s (fold (state_next m) k (posts_after m h)).posted ≡ None) (sym b.standing) b.settled in
    record {
      legal = legal_join m h (posts_after m h) l b.legal;
      alone = all_alone k.standing k.posted;
      settled = subst (λ (x : State). next_stale_of x.standing x.posted ≡ None) (sym after) done;
    }

-- legal posts to where no word is stale are those that follow
one_way : (m : Machine) (most : ℕ) (k : State) (posts : History) → length k.posted ≡ word_count → stale_count k.standing k.posted ≤ most → LegalFrom m k posts → orders_in posts ≡ 0 → next_stale_of (fold (state_next m) k posts).standing (fold (state_next m) k posts).posted ≡ None → posts ≡ posts_within most k.standing k.posted
one_way m most k (Entered e ∷ es) long few l alone done = absurd (omega (arith, alone, counts_cons is_entry (Entered e) es))
one_way m zero k [] long few l alone done = refl
one_way m (suc most) k [] long few l alone done = sym (posts_none most k.standing k.posted done)
one_way m zero k (Posted w value ∷ es) long few l alone done =
    absurd (cc (l.0.turn, settled_since_none k.standing k.posted (omega (arith, few))))
one_way m (suc most) k (Posted w value ∷ es) long few l alone done =
    let own : ℕ = word_of k.standing w in
    let next : ℕ → State = λ v. record k { posted = set k.posted w v } in
    let rest : es ≡ posts_within most k.standing (set k.posted w own) = one_way m most (next own) es (length-set k.posted w own ∙ long)
    (omega (arith, few, one_post k.standing k.posted w long l.0.turn))
    (subst (λ (v : ℕ). LegalFrom m (next v) es) l.0.is l.1)
    (omega (arith, alone, counts_cons is_entry (Posted w value) es))
    (subst (λ (v : ℕ). next_stale_of (fold (state_next m) (next v) es).standing (fold (state_next m) (next v) es).posted ≡ None) l.0.is done) in
    (λ i. Posted w (l.0.is i) ∷ rest i) ∙ sym (posts_some most k.standing k.posted w l.0.turn)

pub settles_one_way : SettlesOneWay
unfolding posts_of
settles_one_way m h posts machine s =
    let k : State = state_after m h in
    let l : IsLegal m h = legal_prefix m h (h ++ posts) (posts, refl) s.legal in
    let after : state_after m (h ++ posts) ≡ fold (state_next m) k posts = state_join m h posts in
    one_way m word_count k posts (IsConsistent-after m h machine l).long (stale_count-le k.standing k.posted) (legal_rest m h posts s.legal) s.alone (subst (λ (x : State). next_stale_of x.standing x.posted ≡ None) after s.settled)

-- where no word is stale the readings are the standing's words
pub reads_settled : ReadsSettled
reads_settled m h w machine l settled less =
    reads_posted m h w machine l less ∙ none_stale (state_after m h).standing (state_after m h).posted settled w less

-- the counts sum up to the orders
pub sums_orders : SumsOrders
sums_orders m h machine l = sym (IsConsistent-after m h machine l).counted ∙ entries_after m h machine l

within_from : (m : Machine) (k : State) (h : History) → IsMachine m → IsConsistent m k → LegalFrom m k h → sum k.standing.counts ≤ m.orders → sum (fold (state_next m) k h).standing.counts ≤ m.orders
within_from m k [] machine i l few = few
within_from m k (Entered e ∷ es) machine i l few = grind (arith, nat_tests, IsConsistent-next, sum_counts, within_from m (state_next m k (Entered e)) es machine (IsConsistent-next m k (Entered e) machine i l.0) l.1 (omega (arith, l.0.room, sum_counts m k.standing e.client e.order (omega (arith, l.0.client, i.standing.counts)))))
within_from m k (Posted w value ∷ es) machine i l few = within_from m (state_next m k (Posted w value)) es machine (IsConsistent-next m k (Posted w value) machine i l.0) l.1 few

within_after : (m : Machine) (h : History) → IsMachine m → IsLegal m h → sum (state_after m h).standing.counts ≤ m.orders
unfolding IsLegal state_after
within_after m h machine l = grind (arith, nat_tests, common_steps, sum_by-replicate, within_from, IsConsistent-beginning)

pub orders_within : OrdersWithin
orders_within m h machine l = omega (arith, within_after m h machine l, sums_orders m h machine l)

-- the arbiter after a legal history
pub legal_is_arbiter : LegalIsArbiter
legal_is_arbiter m h machine l = record { machine = machine; consistent = IsConsistent-after m h machine l; within = within_after m h machine l }
