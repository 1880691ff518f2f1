-- Posting all stale words at once.
use Rattle.std.proofs.Common.{◌≡◌, ℕ, ◌<◌, ◌∙◌, List, length, arith, ap, inl, inr, sym, subst, refl, None, not, slice_index}
use Rattle.std.specs.Prelude.{fold}
use Rattle.std.proofs.lemmas.Bool.{cases_eq, eq-eqb}
use Rattle.std.proofs.lemmas.List.{ext_get_or}
use Rattle.arb_config.specs.Machine.{Machine}
use Rattle.arb_model.specs.Arbiter.{Arbiter, IsArbiter, state_of}
use Rattle.arb_model.specs.Consistent.{IsConsistent}
use Rattle.arb_model.specs.History.{State, place_posted, state_next}
use Rattle.arb_model.specs.Layout.{place_index, position_named, word_count}
use Rattle.arb_model.specs.Limits.{all_threads}
use Rattle.arb_model.specs.Posting.{is_stale, next_stale_of, posts_of, stale_count}
use Rattle.arb_model.specs.Standing.{Standing}
use Rattle.arb_model.specs.Words.{place_word, seat_word, word_of}
use Rattle.arb_model.proofs.CountLaws.{count_below-none}
use Rattle.arb_model.proofs.PostingLaws.{posting_ends, settled_since_none}
use Rattle.arb_model.proofs.WordsLaws.{none_stale, word_of_place, word_of_seats, words_apart}
use Rattle.arb_core.proofs.CoreLaws.{arbiter}

-- all posted words are those of the standing
abbrev AreUpToDate : Standing → List ℕ → Type 0
AreUpToDate s posted = (w : ℕ) → w < word_count → slice_index posted w ≡ word_of s w

-- then none is stale
none_is_stale : (s : Standing) (posted : List ℕ) → AreUpToDate s posted → stale_count s posted ≡ 0
unfolding stale_count
none_is_stale s posted same =
    count_below-none (is_stale s posted) word_count (λ w less. ap not (eq-eqb (slice_index posted w) (word_of s w) (same w less)))

-- and no core is named twice
up_to_date_consistent : (m : Machine) (s : Standing) (old new : List ℕ) → IsConsistent m (record { standing = s; posted = old }) → length new ≡ word_count → AreUpToDate s new → IsConsistent m (record { standing = s; posted = new })
up_to_date_consistent m s old new i long same =
    let at : (t : ℕ) → t < all_threads → place_posted new t ≡ place_word s.seats t = λ t h. same (place_index t) (omega (arith, h)) ∙ word_of_place s t in
    record {
      standing = i.standing;
      long = long;
      counted = same 0 (omega arith);
      apart = λ t u ht hu a b d. words_apart s.seats t u (omega (arith, at t ht, a)) (omega (arith, at u hu, b)) (sym (ap position_named (at t ht)) ∙ d ∙ ap position_named (at u hu));
      clear = λ t u ht hu a b n d. words_apart s.seats t u (omega (arith, at t ht, a)) n (sym (ap position_named (at t ht)) ∙ d);
    }

-- the words are those to which the posts that follow lead
posts_lead : (m : Machine) (s : Standing) (old new : List ℕ) → length old ≡ word_count → length new ≡ word_count → AreUpToDate s new → ◌≡◌ {A = State} (record { standing = s; posted = new }) (fold (state_next m) (record { standing = s; posted = old }) (posts_of s old))
posts_lead m s old new was long same =
    let k : State = record { standing = s; posted = old } in
    let ends = posting_ends m k was in
    let after : State = fold (state_next m) k (posts_of s old) in
    let words : new ≡ after.posted = ext_get_or 0 new after.posted (long ∙ sym ends.long) (λ w less. let low : w < word_count = omega (arith, long, less) in same w low ∙ sym (none_stale s after.posted ends.settled w low)) in
    ap (λ (posted : List ℕ). record { standing = s; posted = posted }) words ∙ ap (λ (t : Standing). record { standing = t; posted = after.posted }) (sym ends.standing)

-- what posting all stale words at once makes of an arbiter
pub record Settles (before after : Arbiter) : Type 0 where
  pub rest : after ≡ arbiter before.machine before.standing after.posted
  pub settled : next_stale_of after.standing after.posted ≡ None
  pub up_to_date : (w : ℕ) → w < word_count → slice_index after.posted w ≡ word_of after.standing w
  pub formed : IsArbiter after
  pub leads : state_of after ≡ fold (state_next before.machine) (state_of before) (posts_of before.standing before.posted)

settles : (m : Machine) (s : Standing) (old new : List ℕ) → IsArbiter (arbiter m s old) → length new ≡ word_count → AreUpToDate s new → Settles (arbiter m s old) (arbiter m s new)
settles m s old new i long same =
    record {
      rest = refl;
      settled = settled_since_none s new (none_is_stale s new same);
      up_to_date = same;
      formed = record { machine = i.machine; consistent = up_to_date_consistent m s old new i.consistent long same; within = i.within };
      leads = posts_lead m s old new i.consistent.long long same;
    }

-- the words of the seats, and the count that word 0 had
all_up_to_date : (m : Machine) (s : Standing) (old new : List ℕ) → IsArbiter (arbiter m s old) → slice_index new 0 ≡ slice_index old 0 → ((w : ℕ) → 0 < w → w < word_count → slice_index new w ≡ seat_word s.seats w) → AreUpToDate s new
all_up_to_date m s old new i count seat w less =
    elim (cases_eq w 0) [
      | inl e ↦ ap (slice_index new) e ∙ count ∙ i.consistent.counted ∙ sym (ap (word_of s) e)
      | inr some ↦ seat w (omega (arith, some)) less ∙ word_of_seats s w (omega (arith, some))
    ]

pub settles_as : (a before after : Arbiter) → a ≡ before → IsArbiter a → after ≡ arbiter a.machine a.standing after.posted → length after.posted ≡ word_count → slice_index after.posted 0 ≡ slice_index a.posted 0 → ((w : ℕ) → 0 < w → w < word_count → slice_index after.posted w ≡ seat_word a.standing.seats w) → Settles before after
settles_as a before after same i rest long count seat =
    let made : Settles a (arbiter a.machine a.standing after.posted) = settles a.machine a.standing a.posted after.posted i long (all_up_to_date a.machine a.standing a.posted after.posted i count seat) in
    subst (λ (x : Arbiter). Settles x after) same (subst (λ (y : Arbiter). Settles a y) (sym rest) made)
