-- Laws of the marks that say whose each entry is.
use Rattle.std.proofs.Common.{◌≡◌, ◌≢◌, ◌⊎◌, ℕ, ◌+◌, ◌<◌, ◌≤◌, zero, suc, List, [], ◌∷◌, ◌++◌, length, refl, sym, ap, ◌∙◌, inl, inr, arith, eq-eqb, ne_eqb, length-append}
use Rattle.std.proofs.lemmas.Bool.{cases_eq}
use mathlib.Core.Option.{some, some-injective, some-ne-none}
use lib.ListN.{get_elem?}
use Rattle.arb_model.specs.declared.orders.Event.{Event}
use Rattle.arb_model.specs.declared.orders.Event.TheVariants.{Entered, Posted}
use Rattle.arb_model.specs.History.{History, orders_in}
use Rattle.arb_model.proofs.JournalLaws.{orders_add}
use Rattle.arb_common.specs.Places.{Rises, mine_after, givers_after, places_from}

-- one seat more, which is the seat
own_more : (seat n : ℕ) (xs : List ℕ) → places_from seat n (xs ++ seat ∷ []) ≡ places_from seat n xs ++ (n + length xs) ∷ []
own_more seat n [] = rw (eq-eqb seat seat refl) (ap (λ k. k ∷ []) (omega arith))
own_more seat n (x ∷ xs) =
    let more : places_from seat (n + 1) (xs ++ seat ∷ []) ≡ places_from seat (n + 1) xs ++ (n + length (x ∷ xs)) ∷ [] =
    own_more seat (n + 1) xs ∙ ap (λ k. places_from seat (n + 1) xs ++ k ∷ []) (omega arith) in
    elim (cases_eq x seat) [
      | inl same ↦ rw (eq-eqb x seat same) (ap (λ l. n ∷ l) more)
      | inr apart ↦ rw (ne_eqb x seat apart) more
    ]

-- one seat more, which is another
other_more : (seat n other : ℕ) (xs : List ℕ) → other ≢ seat → places_from seat n (xs ++ other ∷ []) ≡ places_from seat n xs
other_more seat n other [] apart = rw (ne_eqb other seat apart) refl
other_more seat n other (x ∷ xs) apart =
    let more = other_more seat (n + 1) other xs apart in
    elim (cases_eq x seat) [
      | inl same ↦ rw (eq-eqb x seat same) (ap (λ l. n ∷ l) more)
      | inr differ ↦ rw (ne_eqb x seat differ) more
    ]

-- a seat's own event
pub own_after : (givers : List ℕ) (seat : ℕ) (h : History) (e : Event) → length givers ≡ orders_in h → places_from seat 0 (givers_after givers seat e) ≡ mine_after (places_from seat 0 givers) h e
own_after givers seat h (Entered x) counted = own_more seat 0 givers ∙ ap (λ k. places_from seat 0 givers ++ k ∷ []) (omega (arith, counted))
own_after givers seat h (Posted w value) counted = refl

-- another's
pub other_after : (givers : List ℕ) (seat other : ℕ) (e : Event) → other ≢ seat → places_from seat 0 (givers_after givers other e) ≡ places_from seat 0 givers
other_after givers seat other (Entered x) apart = other_more seat 0 other givers apart
other_after givers seat other (Posted w value) apart = refl

-- each order has a mark
pub counted_after : (givers : List ℕ) (seat : ℕ) (h : History) (e : Event) → length givers ≡ orders_in h → length (givers_after givers seat e) ≡ orders_in (h ++ e ∷ [])
counted_after givers seat h (Entered x) counted =
    let one : orders_in (Entered x ∷ []) ≡ 1 = refl in
    let longer : length (givers ++ seat ∷ []) ≡ length givers + 1 = length-append givers (seat ∷ []) in
    omega (arith, orders_add h (Entered x ∷ []), one, longer, counted)
counted_after givers seat h (Posted w value) counted =
    let none : orders_in (Posted w value ∷ []) ≡ 0 = refl in
    omega (arith, orders_add h (Posted w value ∷ []), none, counted)

pub at_below : {A : Type 0} (l : List A) (i : ℕ) (a : A) → get_elem? l i ≡ some a → i < length l
at_below [] i a e = absurd (some-ne-none a (sym e))
at_below (x ∷ xs) zero a e = omega arith
at_below (x ∷ xs) (suc i) a e = let below = at_below xs i a e in omega (arith, below)

pub at_snoc_index : {A : Type 0} (l : List A) (a b : A) (j : ℕ) → get_elem? (l ++ a ∷ []) j ≡ some b → (get_elem? l j ≡ some b) ⊎ ((a ≡ b) × (length l ≤ j))
at_snoc_index [] a b zero e = inr (some-injective a b e, omega arith)
at_snoc_index [] a b (suc j) e = absurd (some-ne-none b (sym e))
at_snoc_index (x ∷ xs) a b zero e = inl e
at_snoc_index (x ∷ xs) a b (suc j) e =
    elim (at_snoc_index xs a b j e) [
      | inl was ↦ inl was
      | inr new ↦ inr (new.0, let past = new.1 in omega (arith, past))
    ]

-- numbers that rise below a bound rise below a greater one
pub rises_more : (low : ℕ) (xs : List ℕ) (end more : ℕ) → Rises low xs end → end ≤ more → Rises low xs more
rises_more low [] end more r le = omega (arith, r, le)
rises_more low (x ∷ xs) end more r le = (r.0, rises_more (x + 1) xs end more r.1 le)

-- and so they do with one number more, which is not below the bound
pub rises_push : (low : ℕ) (xs : List ℕ) (end next : ℕ) → Rises low xs end → end ≤ next → Rises low (xs ++ next ∷ []) (next + 1)
rises_push low [] end next r le = (omega (arith, r, le), omega arith)
rises_push low (x ∷ xs) end next r le = (r.0, rises_push (x + 1) xs end next r.1 le)
