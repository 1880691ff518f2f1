-- What a renewal keeps.
use Rattle.std.proofs.Common.{◌≡◌, ℕ, ◌+◌, ◌<◌, List, [], ◌∷◌, set, refl, arith, sym, ap, ◌∙◌, Option, Some, None, inl, inr, not, slice_index}
use Rattle.std.specs.Prelude.{fold}
use Rattle.std.specs.List.{flat_map}
use Rattle.std.proofs.lemmas.Bool.{cases_eq, eq-eqb}
use Rattle.std.proofs.lemmas.List.{get_or-set_same, get_or-set_other, length-set, length-replicate, set-set, set_comm}
use Rattle.std.proofs.lemmas.List.Folds.{sum_by-replicate}
use Rattle.std.proofs.lemmas.List.Sums.{fold-append}
use Rattle.arb_config.specs.Machine.{Machine}
use Rattle.arb_model.specs.declared.orders.Event.{Event}
use Rattle.arb_model.specs.declared.orders.Event.TheVariants.{Entered, Posted}
use Rattle.arb_model.specs.declared.orders.Order.{Order}
use Rattle.arb_model.specs.declared.orders.Order.TheVariants.{Join, Ask, Cap, Block, Retire, Leave, Status, Tick}
use Rattle.arb_model.specs.declared.orders.Refusal.{Refusal}
use Rattle.arb_model.specs.Arbiter.{Arbiter, IsArbiter, state_of}
use Rattle.arb_model.specs.Consistent.{IsConsistent}
use Rattle.arb_model.specs.History.{History, State, beginning, place_posted, state_after, state_next}
use Rattle.arb_model.specs.Layout.{place_index, position_named, word_count}
use Rattle.arb_model.specs.Limits.{clients}
use Rattle.arb_model.specs.Posting.{is_stale, next_stale_of, stale_count}
use Rattle.arb_model.specs.Renewal.{DifferInCounts, LookAlike, RenewalIsUnseen, RenewedIsEndless, after_renewals, endless, renewed, renewed_state, uncounted}
use Rattle.arb_model.specs.Standing.{Standing}
use Rattle.arb_model.specs.Step.{answer_of, place_of, refusal_of, step_of}
use Rattle.arb_model.specs.WellFormed.{IsStanding}
use Rattle.arb_model.specs.Words.{seat_word, word_of}
use Rattle.arb_model.proofs.CountLaws.{count_below-none}
use Rattle.arb_model.proofs.PostingLaws.{settled_since_none}
use Rattle.arb_model.proofs.WordsLaws.{none_stale, word_of_seats}

IsStanding-uncounted : (m : Machine) (s : Standing) → IsStanding m s → IsStanding m (uncounted s)
IsStanding-uncounted m s w =
    record {
      requests = w.requests;
      requests_fit = w.requests_fit;
      caps = w.caps;
      caps_fit = w.caps_fit;
      cores = w.cores;
      moved = w.moved;
      counts = length-replicate {A = ℕ} clients 0;
      once = w.once;
      joined = w.joined;
    }

IsConsistent-renewed : (m : Machine) (k : State) → IsConsistent m k → IsConsistent m (renewed_state k)
IsConsistent-renewed m k i =
    let same : (t : ℕ) → place_posted (set k.posted 0 0) t ≡ place_posted k.posted t = λ t. get_or-set_other k.posted 0 (place_index t) 0 0 (λ e. absurd (omega (arith, e))) in
    record {
      standing = IsStanding-uncounted m k.standing i.standing;
      long = length-set k.posted 0 0 ∙ i.long;
      counted = get_or-set_same k.posted 0 0 0 (omega (arith, i.long));
      apart = λ t u ht hu a b e. i.apart t u ht hu (omega (arith, same t, a)) (omega (arith, same u, b)) (sym (ap position_named (same t)) ∙ e ∙ ap position_named (same u));
      clear = λ t u ht hu a b n e. i.clear t u ht hu (omega (arith, same t, a)) (omega (arith, same u, b)) n (sym (ap position_named (same t)) ∙ e);
    }

-- a renewal keeps an arbiter well formed
pub IsArbiter-renewed : (a : Arbiter) → IsArbiter a → IsArbiter (renewed a)
IsArbiter-renewed a i =
    record { machine = i.machine; consistent = IsConsistent-renewed a.machine (state_of a) i.consistent; within = omega (arith, sum_by-replicate (λ x. x) 513 0) }

-- and makes no word stale
pub renewed_settled : (a : Arbiter) → IsArbiter a → next_stale_of a.standing a.posted ≡ None → next_stale_of (renewed a).standing (renewed a).posted ≡ None
unfolding stale_count
renewed_settled a i none =
    settled_since_none (renewed a).standing (renewed a).posted (count_below-none (is_stale (renewed a).standing (renewed a).posted) word_count (λ w less. ap not (eq-eqb (slice_index (renewed a).posted w) (word_of (renewed a).standing w) (same w less))))
  where
    same : (w : ℕ) → w < word_count → slice_index (renewed a).posted w ≡ word_of (renewed a).standing w
    same w less =
        elim (cases_eq w 0) [
          | inl e ↦ ap (slice_index (renewed a).posted) e ∙ (IsConsistent-renewed a.machine (state_of a) i.consistent).counted ∙ sym (ap (word_of (renewed a).standing) e)
          | inr some ↦ get_or-set_other a.posted 0 w 0 0 (λ e. some e) ∙ none_stale a.standing a.posted none w less ∙ sym (word_of_seats a.standing w (omega (arith, some))) ∙ word_of_seats (renewed a).standing w (omega (arith, some))
        ]

-- other counts
abbrev counting : Standing → List ℕ → Standing
counting s counts = record s { counts = counts }

-- counts refuse nothing
same_refusal : (s : Standing) (a b : List ℕ) (client : ℕ) (order : Order) → refusal_of (counting s a) client order ≡ refusal_of (counting s b) client order
same_refusal s a b client Join = refl
same_refusal s a b client (Ask request) = refl
same_refusal s a b client (Cap cap) = refl
same_refusal s a b client Block = refl
same_refusal s a b client Retire = refl
same_refusal s a b client Leave = refl
same_refusal s a b client Status = refl
same_refusal s a b client (Tick moment) = refl

-- nor do they change what comes of an order
abbrev SameAnswers : Machine → Standing → (a b : List ℕ) → ℕ → Order → Option Refusal → Type 0
SameAnswers m s a b client order refusal = ((answer_of m (counting s a) client order refusal).reply ≡ (answer_of m (counting s b) client order refusal).reply) × (uncounted (answer_of m (counting s a) client order refusal).standing ≡ uncounted (answer_of m (counting s b) client order refusal).standing)

same_answers : (m : Machine) (s : Standing) (a b : List ℕ) (client : ℕ) (order : Order) (refusal : Option Refusal) → SameAnswers m s a b client order refusal
same_answers m s a b client order (Some refusal) = (refl, refl)
same_answers m s a b client Join None = (refl, refl)
same_answers m s a b client (Ask request) None = (refl, refl)
same_answers m s a b client (Cap cap) None = (refl, refl)
same_answers m s a b client Block None = (refl, refl)
same_answers m s a b client Retire None = (refl, refl)
same_answers m s a b client Leave None = (refl, refl)
same_answers m s a b client Status None = (refl, refl)
same_answers m s a b client (Tick moment) None = (refl, refl)

-- what comes of an order differs in counts at most, where the standings do
recounted : (s t : Standing) → DifferInCounts s t → t ≡ counting s t.counts
recounted s t e = ap (λ (x : Standing). counting x t.counts) (sym e)

abbrev SameStep : (m n : Machine) (s t : Standing) → ℕ → Order → Type 0
SameStep m n s t client order = ((step_of m s client order).reply ≡ (step_of n t client order).reply) × DifferInCounts (step_of m s client order).standing (step_of n t client order).standing

-- nor does the limit change anything
pub renewed_is_endless : (m : Machine) (s t : Standing) (client : ℕ) (order : Order) → DifferInCounts s t → SameStep m (endless m) s t client order
renewed_is_endless m s t client order e =
    let a : List ℕ = set s.counts client (slice_index s.counts client + 1) in
    let b : List ℕ = set t.counts client (slice_index t.counts client + 1) in
    let answers = same_answers m s a b client order (refusal_of (counting s a) client order) in
    let same : SameAnswers m s a b client order (refusal_of (counting s b) client order) = rw (same_refusal s a b client order) at answers in
    rw (recounted s t e) same

-- where an order is entered before and after a renewal
pub renewal_is_unseen : (m : Machine) (s : Standing) (client : ℕ) (order : Order) → SameStep m m (uncounted s) s client order
renewal_is_unseen m s client order =
    let a = renewed_is_endless m (uncounted s) s client order refl in
    let b = renewed_is_endless m s s client order refl in
    (a.0 ∙ sym b.0, a.1 ∙ sym b.1)

-- two states differ in counts and in word 0 at most
abbrev Alike : State → State → Type 0
Alike j k = DifferInCounts j.standing k.standing × (set j.posted 0 0 ≡ set k.posted 0 0)

-- an order posts word 0 alone
counts_posted : (p q : List ℕ) (a b : ℕ) → set p 0 0 ≡ set q 0 0 → set (set p 0 a) 0 0 ≡ set (set q 0 b) 0 0
counts_posted p q a b e = set-set p 0 a 0 ∙ e ∙ sym (set-set q 0 b 0)

-- a post of any word
word_posted : (p q : List ℕ) (w value : ℕ) → set p 0 0 ≡ set q 0 0 → set (set p w value) 0 0 ≡ set (set q w value) 0 0
word_posted p q w value e =
    elim (cases_eq w 0) [
      | inl is ↦ ap (λ x. set (set p x value) 0 0) is ∙ counts_posted p q value value e ∙ sym (ap (λ x. set (set q x value) 0 0) is)
      | inr other ↦ set_comm p w 0 value 0 (λ x. other x) ∙ ap (λ (l : List ℕ). set l w value) e ∙ sym (set_comm q w 0 value 0 (λ x. other x))
    ]

alike_next : (m : Machine) (j k : State) (e : Event) → Alike j k → Alike (state_next m j e) (state_next (endless m) k e)
alike_next m j k (Entered e) (s, p) = ((renewed_is_endless m j.standing k.standing e.client e.order s).1, counts_posted j.posted k.posted _ _ p)
alike_next m j k (Posted w value) (s, p) = (s, word_posted j.posted k.posted w value p)

alike_after : (m : Machine) (j k : State) (h : History) → Alike j k → Alike (fold (state_next m) j h) (fold (state_next (endless m)) k h)
alike_after m j k [] a = a
alike_after m j k (e ∷ es) a = alike_after m (state_next m j e) (state_next (endless m) k e) es (alike_next m j k e a)

alike_renewed : (k : State) → Alike (renewed_state k) k
alike_renewed k = (refl, set-set k.posted 0 0 0)

-- callers see the same of two such states
look_alike : (m : Machine) (j k : State) → Alike j k → LookAlike m (endless m) j k
look_alike m j k (s, p) =
    record {
      standings = s;
      replies = λ client order. (renewed_is_endless m j.standing k.standing client order s).0;
      places = λ thread. ap (λ (x : Standing). place_of m x.seats thread) s;
      words = λ w other. sym (word_of_seats j.standing w (omega (arith, other))) ∙ ap (λ (x : Standing). seat_word x.seats w) s ∙ word_of_seats k.standing w (omega (arith, other));
      posted = λ w other. sym (get_or-set_other j.posted 0 w 0 0 other) ∙ ap (λ (l : List ℕ). slice_index l w) p ∙ get_or-set_other k.posted 0 w 0 0 other;
    }

-- both look like a third, of which no renewal is
pub unseen_after : RenewalIsUnseen
unseen_after m k h =
    let x = fold (state_next m) (renewed_state k) h in
    let y = fold (state_next m) k h in
    let third = fold (state_next (endless m)) k h in
    let a = alike_after m (renewed_state k) k h (alike_renewed k) in
    let b = alike_after m k k h (refl, refl) in
    let with = look_alike m x third a in
    let without = look_alike m y third b in
    let both = look_alike m x y (a.0 ∙ sym b.0, a.1 ∙ sym b.1) in
    record {
      standings = both.standings;
      replies = λ client order. with.replies client order ∙ sym (without.replies client order);
      places = λ thread. with.places thread ∙ sym (without.places thread);
      words = both.words;
      posted = both.posted;
    }

-- renewals between histories
alike_between : (m : Machine) (j k : State) (hs : List History) → Alike j k → Alike (fold (λ i h. fold (state_next m) (renewed_state i) h) j hs) (fold (state_next (endless m)) k (flat_map (λ h. h) hs))
alike_between m j k [] a = a
alike_between m j k (h ∷ hs) a =
    let here = alike_after m (renewed_state j) k h (refl ∙ a.0, set-set j.posted 0 0 0 ∙ a.1) in
    let later = alike_between m (fold (state_next m) (renewed_state j) h) (fold (state_next (endless m)) k h) hs here in
    rw (fold-append (state_next (endless m)) k h (flat_map (λ x. x) hs)) later

pub endless_after : RenewedIsEndless
unfolding state_after
endless_after m hs = look_alike m (after_renewals m hs) (fold (state_next (endless m)) (beginning (endless m)) (flat_map (λ h. h) hs)) (alike_between m (beginning m) (beginning (endless m)) hs (refl, refl))
