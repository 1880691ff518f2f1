-- Laws of readings.
use Rattle.std.proofs.lemmas.Grind.{common_steps}
use Rattle.std.proofs.lemmas.Bool.Decides.{nat_tests}
use Rattle.std.proofs.Common.{List, Option, unwrap_or, ◌≡◌, ℕ, ◌+◌, ◌<◌, [], ◌∷◌, ◌++◌, refl, arith, sym, ap, ◌∙◌, Some, None, true, slice_index}
use Rattle.std.specs.Option.{option_or}
use Rattle.std.specs.Prelude.{◌==◌, fold}
use Rattle.std.proofs.lemmas.Bool.{cond-false, eq-eqb, ne_eqb}
use Rattle.std.proofs.lemmas.List.{get_or-set_same, get_or-set_other, get_or-replicate}
use Rattle.std.proofs.lemmas.List.Sums.{sum_by_push}
use Rattle.arb_model.specs.Layout.{place_index, position_named, word_count}
use Rattle.arb_model.specs.declared.orders.Entry.{Entry}
use Rattle.arb_model.specs.declared.orders.Event.{Event}
use Rattle.arb_model.specs.declared.orders.Event.TheVariants.{Entered, Posted}
use Rattle.arb_config.specs.Machine.{IsMachine, Machine}
use Rattle.arb_model.specs.History.{History, IsLegal, LegalFrom, MayFollow, State, beginning, orders_in, place_posted, state_after, state_next}
use Rattle.arb_model.specs.Consistent.{IsConsistent}
use Rattle.arb_model.specs.Laws.{NoCoreReadTwice, ReadsPosted}
use Rattle.arb_model.specs.Reading.{last_posted, posted_by, reading, word_written}
use Rattle.arb_model.proofs.EntryLaws.{entries_after}
use Rattle.arb_model.proofs.PostedLaws.{IsConsistent-after, IsConsistent-beginning, IsConsistent-next, no_core_twice, next_of_words}

unwrap_first_of : (a b : Option ℕ) (n : ℕ) → unwrap_or (option_or a b) n ≡ unwrap_or a (unwrap_or b n)
unwrap_first_of a b n = grind (arith, nat_tests)

option_or_none : (a : Option ℕ) → option_or a None ≡ a
option_or_none a = grind (arith, nat_tests)

option_or_assoc : (a b c : Option ℕ) → option_or (option_or a b) c ≡ option_or a (option_or b c)
option_or_assoc a b c = grind (arith, nat_tests)

-- one event more
last_posted_push : (w : ℕ) (h : History) (e : Event) → last_posted w (h ++ e ∷ []) ≡ option_or (posted_by w e) (last_posted w h)
last_posted_push w [] e = sym (option_or_none (posted_by w e))
last_posted_push w (x ∷ xs) e = ap (λ o. option_or o (posted_by w x)) (last_posted_push w xs e) ∙ option_or_assoc (posted_by w e) (last_posted w xs) (posted_by w x)

-- word 0 reads the number of orders
pub reading_orders : (h : History) → reading h 0 ≡ orders_in h
unfolding reading
reading_orders h = refl

reading_word : (h : History) (w : ℕ) → (w ≡ 0 → ⊥) → reading h w ≡ unwrap_or (last_posted w h) 0
unfolding reading
reading_word h w some = cond-false (w == 0) (orders_in h) (unwrap_or (last_posted w h) 0) (ne_eqb w 0 some)

hit : (w value : ℕ) → posted_by w (Posted w value) ≡ Some value
hit w value = let own : (w == w) ≡ true = eq-eqb w w refl in rw own refl

missed : (w : ℕ) (e : Event) → (word_written e ≡ w → ⊥) → posted_by w e ≡ None
missed w e ne = grind (arith, nat_tests, ne_eqb)

not_entered : (e : Event) → (word_written e ≡ 0 → ⊥) → orders_in (e ∷ []) ≡ 0
not_entered e ne = grind (arith, nat_tests)

-- the empty history reads 0
pub reading_empty : (w : ℕ) → reading [] w ≡ 0
reading_empty w = grind (arith, nat_tests, common_steps, reading_orders, reading_word)

-- an event changes the reading of no word but the one that it writes
pub reading_other : (h : History) (e : Event) (w : ℕ) → (word_written e ≡ w → ⊥) → reading (h ++ e ∷ []) w ≡ reading h w
reading_other h e w ne = grind (arith, nat_tests, common_steps, reading_orders, sum_by_push, not_entered, reading_word, last_posted_push, missed)

-- an order counts
pub reading_entered : (h : History) (e : Entry) → reading (h ++ Entered e ∷ []) 0 ≡ reading h 0 + 1
reading_entered h e = grind (arith, nat_tests, reading_orders, sum_by_push)

-- a post is read
pub reading_posted : (h : History) (w value : ℕ) → (w ≡ 0 → ⊥) → reading (h ++ Posted w value ∷ []) w ≡ value
reading_posted h w value some = grind (arith, nat_tests, common_steps, reading_word, last_posted_push, hit)

-- what an event leaves in a word other than word 0
next_word : (m : Machine) (k : State) (e : Event) (w : ℕ) → IsConsistent m k → (w ≡ 0 → ⊥) → w < word_count → unwrap_or (posted_by w e) (slice_index k.posted w) ≡ slice_index (state_next m k e).posted w
next_word m k e w i some less = grind (arith, nat_tests, common_steps, get_or-set_other, get_or-set_same)

words_from : (m : Machine) (k : State) (h : History) (w : ℕ) → IsMachine m → IsConsistent m k → LegalFrom m k h → (w ≡ 0 → ⊥) → w < word_count → unwrap_or (last_posted w h) (slice_index k.posted w) ≡ slice_index (fold (state_next m) k h).posted w
words_from m k [] w machine i l some less = refl
words_from m k (e ∷ es) w machine i l some less = grind (arith, nat_tests, unwrap_first_of, next_word, IsConsistent-next, words_from m (state_next m k e) es w machine (IsConsistent-next m k e machine i l.0) l.1 some less)

words_after : (m : Machine) (h : History) (w : ℕ) → IsMachine m → IsLegal m h → (w ≡ 0 → ⊥) → w < word_count → unwrap_or (last_posted w h) 0 ≡ slice_index (state_after m h).posted w
unfolding IsLegal state_after
words_after m h w machine l some less =
    let first : slice_index (beginning m).posted w ≡ 0 = get_or-replicate {A = ℕ} word_count w 0 0 less in
    sym (ap (λ (n : ℕ). unwrap_or (last_posted w h) n) first) ∙ words_from m (beginning m) h w machine (IsConsistent-beginning m) l some less

-- what is read is what was posted
pub reads_posted : ReadsPosted
reads_posted m h w machine l less = grind (arith, nat_tests, common_steps, reading_orders, entries_after, reading_word, words_after)

-- a post that may follow a legal history is of a page word but word 0
pub post_of_word : (m : Machine) (h : History) (w value : ℕ) → IsMachine m → IsLegal m h → MayFollow m h (Posted w value) → (0 < w) × (w < word_count)
unfolding MayFollow
post_of_word m h w value machine l may = next_of_words m (state_after m h) w (IsConsistent-after m h machine l) may.turn

-- no core is read twice at one point
pub no_core_read_twice : NoCoreReadTwice
no_core_read_twice m h machine l t u ht hu a b e =
    let posted : List ℕ = (state_after m h).posted in
    let x : reading h (place_index t) ≡ place_posted posted t = reads_posted m h (place_index t) machine l (omega (arith, ht)) in
    let y : reading h (place_index u) ≡ place_posted posted u = reads_posted m h (place_index u) machine l (omega (arith, hu)) in
    no_core_twice m h machine l t u ht hu (omega (arith, x, a)) (omega (arith, y, b)) (sym (ap position_named x) ∙ e ∙ ap position_named y)
