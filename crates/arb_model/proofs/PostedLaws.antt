-- No core is posted twice.
use Rattle.std.proofs.lemmas.Grind.{common_steps}
use Rattle.std.proofs.lemmas.Bool.Decides.{nat_tests}
use Rattle.std.proofs.Common.{◌≡◌, ℕ, ◌-◌, ◌<◌, List, [], ◌∷◌, set, refl, arith, sym, ap, ◌∙◌, subst, Option, Some, None, true, inl, inr, slice_index}
use Rattle.std.specs.Prelude.{fold}
use Rattle.std.proofs.lemmas.Bool.{cases_lt, cases_Bool, cases_eq, eqb-true, false≢true, and_parts}
use Rattle.std.proofs.lemmas.List.{get_or-set_same, get_or-set_other, length-set, length-replicate, get_or-replicate}
use Rattle.arb_model.specs.declared.holders.Holder.{Holder}
use Rattle.arb_model.specs.declared.orders.Order.{Order}
use Rattle.arb_model.specs.declared.orders.Order.TheVariants.{Block}
use Rattle.arb_model.specs.declared.orders.Event.{Event}
use Rattle.arb_model.specs.declared.orders.Event.TheVariants.{Entered, Posted}
use Rattle.arb_config.specs.Machine.{IsMachine, Machine}
use Rattle.arb_model.specs.History.{FitsOrder, History, IsLegal, LegalFrom, MayHappen, State, beginning, place_posted, state_after, state_next, after_order}
use Rattle.arb_model.specs.Consistent.{IsConsistent}
use Rattle.arb_model.specs.Layout.{NamesACore, first_place, place_index, position_named, word_count}
use Rattle.arb_model.specs.Limits.{all_threads}
use Rattle.arb_model.specs.Laws.{IsNext, NoCoreTwice}
use Rattle.arb_model.specs.Owners.{ChangesOwners, is_left}
use Rattle.arb_model.specs.Posting.{next_stale_of}
use Rattle.arb_model.specs.Standing.{Seats, Standing, holder_at, is_held_by}
use Rattle.arb_model.specs.Step.{step_of}
use Rattle.arb_model.specs.WellFormed.{IsStanding}
use Rattle.arb_model.specs.Words.{place_word, word_of}
use Rattle.arb_model.proofs.StepLaws.{step_changes_owners}
use Rattle.arb_model.proofs.WellFormedLaws.{IsStanding-opening, IsStanding-step}
use Rattle.arb_model.proofs.WordsLaws.{fresh_is, held_counts, names_core, next_is, none_stale, one_holder, stale_differs, word_of_place, words_apart}

-- at the beginning no word names a core
pub IsConsistent-beginning : (m : Machine) → IsConsistent m (beginning m)
IsConsistent-beginning m =
    let low : (t : ℕ) → t < all_threads → place_posted (beginning m).posted t ≡ 0 = λ t h. get_or-replicate {A = ℕ} word_count (place_index t) 0 0 (omega arith) in
    record {
      standing = IsStanding-opening m;
      long = length-replicate {A = ℕ} word_count 0;
      counted = refl;
      apart = λ t u h _ a _ _. absurd (omega (arith, a, low t h));
      clear = λ t u h _ a _ _ _. absurd (omega (arith, a, low t h));
    }

-- who leaves by a `Block`
left_by_block : (m : Machine) (s : Standing) (client t : ℕ) (core : Option Holder) → is_held_by t core ≡ true → is_left m s client Block core ≡ true → t ≡ client
left_by_block m s client t core h l = grind (arith, nat_tests, common_steps, false≢true, eqb-true, and_parts)

-- a thread that was on a core has none of another's cores after an order
not_taken : (m : Machine) (client : ℕ) (order : Order) (s : Standing) (after : Seats) → IsStanding m s → ChangesOwners m s client order after → (t u p q : ℕ) → is_held_by t (holder_at s.seats.cores p) ≡ true → is_held_by u (holder_at s.seats.cores q) ≡ true → is_held_by u (holder_at after.cores p) ≡ true → t ≡ u
not_taken m client order s after w c t u p q tp uq up =
    elim (cases_Bool (is_held_by u (holder_at s.seats.cores p))) [
      | inl here ↦ one_holder t u (holder_at s.seats.cores p) tp here
      | inr off ↦ elim (c.waited p u up off) [
        | inl waits ↦ absurd (omega (arith, waits, held_counts u s.seats.cores q uq, w.once u))
        | inr own ↦ left_by_block m s client t (holder_at s.seats.cores p) tp (subst (λ (o : Order). is_left m s client o (holder_at s.seats.cores p) ≡ true) own.1 (c.was_left p u up off)) ∙ sym own.0
      ]
    ]

-- an order is entered where no word is stale
pub IsConsistent-entered : (m : Machine) (k : State) (client : ℕ) (order : Order) → IsMachine m → IsConsistent m k → FitsOrder order → next_stale_of k.standing k.posted ≡ None → IsConsistent m (after_order k (step_of m k.standing client order).standing)
IsConsistent-entered m k client order machine w fits none =
    let s : Standing = k.standing in
    let after : Standing = (step_of m s client order).standing in
    let posted : List ℕ = set k.posted 0 (word_of after 0) in
    let c : ChangesOwners m s client order after.seats = step_changes_owners m s client order (w.standing.cores ∙ sym machine.socket_each) in
    let was : (t : ℕ) → t < all_threads → place_posted posted t ≡ place_word s.seats t = λ t h. get_or-set_other k.posted 0 (place_index t) (word_of after 0) 0 (λ e. absurd (omega (arith, e))) ∙ none_stale s k.posted none (place_index t) (omega arith) ∙ word_of_place s t in
    record {
      standing = IsStanding-step m s client order machine w.standing fits;
      long = length-set k.posted 0 (word_of after 0) ∙ w.long;
      counted = get_or-set_same k.posted 0 (word_of after 0) 0 (omega (arith, w.long));
      apart = λ t u ht hu a b e. words_apart s.seats t u (omega (arith, was t ht, a)) (omega (arith, was u hu, b)) (sym (ap position_named (was t ht)) ∙ e ∙ ap position_named (was u hu));
      clear = λ t u ht hu a b d e.
          let x = names_core s.seats t (omega (arith, was t ht, a)) in
          let y = names_core s.seats u (omega (arith, was u hu, b)) in
          let z = names_core after.seats u d in
          let half : position_named (place_word s.seats t) ≡ position_named (place_word after.seats u) = sym (ap position_named (was t ht)) ∙ e in
          let same : z.core ≡ x.core = omega (arith, x.is, z.is, half) in
          not_taken m client order s after.seats w.standing c t u x.core y.core x.held y.held (sym (ap (λ p. is_held_by u (holder_at after.seats.cores p)) same) ∙ z.held);
    }

-- a post of the next stale word, to what the standing has, names no core that another posted word names
posted_apart : (m : Machine) (k : State) (x u : ℕ) → IsConsistent m k → IsNext k.standing k.posted (place_index x) → x < all_threads → u < all_threads → NamesACore (place_word k.standing.seats x) → NamesACore (place_posted k.posted u) → position_named (place_posted k.posted u) ≡ position_named (place_word k.standing.seats x) → u ≡ x
posted_apart m k x u w n hx hu a b e = grind (arith, nat_tests, fresh_is, word_of_place, words_apart)

-- a post of a word that isn't a place word
IsConsistent-posted_low : (m : Machine) (k : State) (w : ℕ) → IsConsistent m k → 0 < w → w < first_place → IsConsistent m (record k { posted = set k.posted w (word_of k.standing w) })
IsConsistent-posted_low m k w i more less = grind (arith, nat_tests, get_or-set_other, length-set)

-- a post of a place word
IsConsistent-posted_place : (m : Machine) (k : State) (x : ℕ) → IsConsistent m k → x < all_threads → IsNext k.standing k.posted (place_index x) → IsConsistent m (record k { posted = set k.posted (place_index x) (word_of k.standing (place_index x)) })
IsConsistent-posted_place m k x i hx n =
    let value : ℕ = word_of k.standing (place_index x) in
    let posted : List ℕ = set k.posted (place_index x) value in
    let seats : Seats = k.standing.seats in
    let own : place_posted posted x ≡ place_word seats x = get_or-set_same k.posted (place_index x) value 0 (omega (arith, i.long, hx)) ∙ word_of_place k.standing x in
    let other : (t : ℕ) → (t ≡ x → ⊥) → place_posted posted t ≡ place_posted k.posted t = λ t ne. get_or-set_other k.posted (place_index x) (place_index t) value 0 (λ e. ne (omega (arith, e))) in
    let taken : (u : ℕ) → u < all_threads → (u ≡ x → ⊥) → NamesACore (place_word seats x) → NamesACore (place_posted posted u) → position_named (place_posted posted u) ≡ position_named (place_word seats x) → ⊥ = λ u hu ne a b e. ne (posted_apart m k x u i n hx hu a (omega (arith, other u ne, b)) (sym (ap position_named (other u ne)) ∙ e)) in
    record {
      standing = i.standing;
      long = length-set k.posted (place_index x) value ∙ i.long;
      counted = get_or-set_other k.posted (place_index x) 0 value 0 (λ e. absurd (omega (arith, e))) ∙ i.counted;
      apart = λ t u ht hu a b e. elim (cases_eq t x) [
        | inl tx ↦ elim (cases_eq u x) [
          | inl ux ↦ tx ∙ sym ux
          | inr ne ↦
              let at : place_posted posted t ≡ place_word seats x = ap (place_posted posted) tx ∙ own in
              absurd (taken u hu ne (omega (arith, at, a)) b (sym e ∙ ap position_named at))
        ]
        | inr nt ↦ elim (cases_eq u x) [
          | inl ux ↦
              let at : place_posted posted u ≡ place_word seats x = ap (place_posted posted) ux ∙ own in
              absurd (taken t ht nt (omega (arith, at, b)) a (e ∙ ap position_named at))
          | inr ne ↦ i.apart t u ht hu (omega (arith, other t nt, a)) (omega (arith, other u ne, b)) (sym (ap position_named (other t nt)) ∙ e ∙ ap position_named (other u ne))
        ]
      ];
      clear = λ t u ht hu a b d e. elim (cases_eq t x) [
        | inl tx ↦
            let at : place_posted posted t ≡ place_word seats t = ap (place_posted posted) tx ∙ own ∙ sym (ap (place_word seats) tx) in
            words_apart seats t u (omega (arith, at, a)) d (sym (ap position_named at) ∙ e)
        | inr nt ↦ elim (cases_eq u x) [
          | inl ux ↦
              let at : place_word seats u ≡ place_word seats x = ap (place_word seats) ux in
              absurd (taken t ht nt (omega (arith, at, d)) a (e ∙ ap position_named at))
          | inr ne ↦ i.clear t u ht hu (omega (arith, other t nt, a)) (omega (arith, other u ne, b)) d (sym (ap position_named (other t nt)) ∙ e)
        ]
      ];
    }

-- a stale word is a page word but word 0
pub next_of_words : (m : Machine) (k : State) (w : ℕ) → IsConsistent m k → next_stale_of k.standing k.posted ≡ Some w → (0 < w) × (w < word_count)
next_of_words m k w i turn =
    let n : IsNext k.standing k.posted w = next_is k.standing k.posted w turn in
    elim (cases_eq w 0) [
      | inl zero_word ↦ absurd (stale_differs k.standing k.posted w n.stale (ap (slice_index k.posted) zero_word ∙ i.counted ∙ sym (ap (word_of k.standing) zero_word)))
      | inr more ↦ (omega (arith, more), n.within)
    ]

-- each post keeps it
pub IsConsistent-posted : (m : Machine) (k : State) (w : ℕ) → IsConsistent m k → next_stale_of k.standing k.posted ≡ Some w → IsConsistent m (record k { posted = set k.posted w (word_of k.standing w) })
IsConsistent-posted m k w i turn =
    let n : IsNext k.standing k.posted w = next_is k.standing k.posted w turn in
    elim (cases_lt w first_place) [
      | inl less ↦ IsConsistent-posted_low m k w i (next_of_words m k w i turn).0 less
      | inr past ↦
          let e : place_index (w - first_place) ≡ w = omega arith in
          subst (λ (v : ℕ). IsConsistent m (record k { posted = set k.posted v (word_of k.standing v) })) e
          (IsConsistent-posted_place m k (w - first_place) i (omega (arith, n.within)) (subst (IsNext k.standing k.posted) (sym e) n))
    ]

-- each event keeps it
pub IsConsistent-next : (m : Machine) (k : State) (e : Event) → IsMachine m → IsConsistent m k → MayHappen m k e → IsConsistent m (state_next m k e)
IsConsistent-next m k (Entered e) machine i may = IsConsistent-entered m k e.client e.order machine i may.fits may.settled
IsConsistent-next m k (Posted w value) machine i may =
    subst (λ (v : ℕ). IsConsistent m (record k { posted = set k.posted w v })) (sym may.is) (IsConsistent-posted m k w i may.turn)

IsConsistent-from : (m : Machine) (k : State) (h : History) → IsMachine m → IsConsistent m k → LegalFrom m k h → IsConsistent m (fold (state_next m) k h)
IsConsistent-from m k [] machine i l = i
IsConsistent-from m k (e ∷ es) machine i l = IsConsistent-from m (state_next m k e) es machine (IsConsistent-next m k e machine i l.0) l.1

pub IsConsistent-after : (m : Machine) (h : History) → IsMachine m → IsLegal m h → IsConsistent m (state_after m h)
unfolding IsLegal state_after
IsConsistent-after m h machine l = IsConsistent-from m (beginning m) h machine (IsConsistent-beginning m) l

-- No core is named by two posted place words, at any point of any legal history
pub no_core_twice : NoCoreTwice
no_core_twice m h machine l = (IsConsistent-after m h machine l).apart
