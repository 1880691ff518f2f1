-- Whatever is audited comes to exactly one outcome.
use Rattle.std.proofs.Common.{◌≡◌, ◌≢◌, ℕ, ◌<◌, ◌≤◌, ◌==◌, ◌⊎◌, inl, inr, zero, suc, List, [], ◌∷◌, Bool, false, Result, Ok, Err, length, refl, sym, ap, subst, ◌∙◌, arith, rules, eq-eqb}
use Rattle.std.specs.Prelude.{slice_index_or}
use Rattle.std.specs.List.{Contains, list_any}
use Rattle.std.proofs.lemmas.Bool.{both_ways, cases_Bool, cases_eq, cases_lt, eqb-true, false≢true}
use Rattle.std.proofs.lemmas.List.{nil_from_length}
use Rattle.std.proofs.lemmas.List.Folds.{Any-from_list_any, list_any_at}
use denote.Enum.Declared.{Choice, Record, values_one}
use Rattle.arb_share.specs.Division.{ExactlyOne}
use Rattle.arb_model.specs.contracts.orders.Order as order
use Rattle.arb_model.specs.contracts.orders.Place as index
use Rattle.arb_model.specs.contracts.orders.Refusal as refusal
use Rattle.arb_model.specs.contracts.orders.Reply as reply
use Rattle.arb_model.specs.declared.orders.Entry.{Entry}
use Rattle.arb_model.specs.declared.orders.Order.{Order}
use Rattle.arb_model.specs.declared.orders.Place.{Place}
use Rattle.arb_model.specs.declared.orders.Refusal.{Refusal}
use Rattle.arb_model.specs.declared.orders.Reply.{Reply}
use Rattle.arb_model.specs.Limits.{clients}
use Rattle.arb_desk.specs.declared.past.Past.{Past}
use Rattle.arb_house.specs.declared.auditing.AuditFault.{AuditFault}
use Rattle.arb_house.specs.declared.auditing.AuditFault.TheVariants.{Early, Missing, Twice, Differs as differs}
use Rattle.arb_house.specs.FirstClient.{IsFirst, NoClient}
use Rattle.arb_house.specs.Pasts.{AnsweredOrders, Differs, IsMissing, IsTwice, entries_of_client, first_list, pasts_of, recalled}
use Rattle.arb_house.specs.Auditing.{Agree, Audits, IsFirstFault, ended_early}

-- two values are one, or they aren't
abbrev Same : {A : Type 0} → A → A → Type 0
Same a b = (a ≡ b) ⊎ (a ≢ b)

same_units : (a b : Unit {0}) → Same a b
same_units a b = inl refl

same_ends : (a b : ⊥) → Same a b
same_ends a b = absurd a

same_bools : (a b : Bool) → Same a b
same_bools a b = search (cases_Bool, rules)

same_sums : {A B : Type 0} → ((a b : A) → Same a b) → ((a b : B) → Same a b) → (x y : A ⊎ B) → Same x y
same_sums each other (inl a) (inl b) = elim (each a b) [ inl e ↦ inl (ap inl e) | inr ne ↦ inr (λ e. ne cc) ]
same_sums each other (inr a) (inr b) = elim (other a b) [ inl e ↦ inl (ap inr e) | inr ne ↦ inr (λ e. ne cc) ]
same_sums each other x y = inr (λ e. cc)

same_tuples : {A B : Type 0} → ((a b : A) → Same a b) → ((a b : B) → Same a b) → (x y : A × B) → Same x y
same_tuples each other x y = grind (arith, each x.0 y.0, other x.1 y.1)

same_numbers : (x y : ℕ × Unit {0}) → Same x y
same_numbers = same_tuples cases_eq same_units

same_lists : {A : Type 0} → ((a b : A) → Same a b) → (xs ys : List A) → Same xs ys
same_lists each [] [] = inl refl
same_lists each (x ∷ xs) (y ∷ ys) = grind (arith, each x y, same_lists each xs ys)
same_lists each xs ys = inr (λ e. cc)

-- values of an enum, by their variants and fields
same_enums : (N : Record) → ((x y : Choice N.parts) → Same x y) → (a b : N.D) → Same a b
same_enums N each a b = elim (each (N.as_values a) (N.as_values b)) [ inl e ↦ inl (values_one N a b e) | inr ne ↦ inr (λ e. ne (ap N.as_values e)) ]

same_orders : (a b : Order) → Same a b
same_orders = same_enums order.enum (same_sums same_units (same_sums (same_tuples (same_lists cases_eq) same_units) (same_sums same_numbers (same_sums same_units (same_sums same_units (same_sums same_units (same_sums same_units (same_sums same_numbers same_ends))))))))

same_places : (a b : Place) → Same a b
same_places = same_enums index.enum (same_sums same_units (same_sums same_units (same_sums same_units (same_sums (same_tuples cases_eq (same_tuples same_bools same_units)) same_ends))))

same_refusals : (a b : Refusal) → Same a b
same_refusals = same_enums refusal.enum (same_sums same_units (same_sums same_units (same_sums same_units (same_sums same_numbers (same_sums same_units (same_sums same_units same_ends))))))

same_replies : (a b : Reply) → Same a b
same_replies = same_enums reply.enum (same_sums same_units (same_sums same_numbers (same_sums (same_tuples same_places same_units) (same_sums same_units (same_sums (same_tuples cases_eq (same_tuples cases_eq (same_tuples cases_eq same_numbers))) (same_sums same_numbers (same_sums (same_tuples same_refusals same_units) same_ends)))))))

same_answers : (xs ys : AnsweredOrders) → Same xs ys
same_answers = same_lists (same_tuples same_orders same_replies)

-- a property that each client has or hasn't: a first client has it, or none has
first_below : (P : ℕ → Type 0) → ((c : ℕ) → P c ⊎ (P c → ⊥)) → (n : ℕ) → n ≤ clients → ((c : ℕ) × IsFirst P c) ⊎ ((c : ℕ) → c < n → P c → ⊥)
first_below P each zero h = inr (λ c below p. omega arith)
first_below P each (suc n) h =
    elim (first_below P each n (omega arith)) [
      | inl found ↦ inl found
      | inr none ↦ elim (each n) [
        | inl here ↦ inl (n, record { within = omega arith; has = here; first = none })
        | inr ne ↦ inr (λ c below p. elim (cases_lt c n) [ inl before ↦ none c before p | inr past ↦ let same : c ≡ n = omega arith in ne (subst P same p) ])
      ]
    ]

first_or_none : (P : ℕ → Type 0) → ((c : ℕ) → P c ⊎ (P c → ⊥)) → ((c : ℕ) × IsFirst P c) ⊎ NoClient P
first_or_none P each = first_below P each clients (omega arith)

-- two clients that are the first are one
one_first : (P : ℕ → Type 0) (c d : ℕ) → IsFirst P c → IsFirst P d → c ≡ d
one_first P c d p q = grind (arith, p.first d, q.first c)

contains_or_not : (xs : List ℕ) (c : ℕ) → Contains xs c ⊎ (Contains xs c → ⊥)
contains_or_not xs c =
    elim (cases_Bool (list_any (λ y. y == c) xs)) [
      | inl some ↦
          let at = Any-from_list_any (λ y. y == c) xs some in inl (at.0, at.2, subst (λ y. slice_index_or xs at.0 y ≡ y) (eqb-true at.1 c at.4) at.3)
      | inr none ↦ inr (λ p. both_ways _ none (list_any_at (λ y. y == c) xs p.0 c p.1 (eq-eqb _ c p.2)))
    ]

missing_or_not : (house : List ℕ) (pasts : List Past) (c : ℕ) → IsMissing house pasts c ⊎ (IsMissing house pasts c → ⊥)
missing_or_not house pasts c = grind (arith, contains_or_not house c, nil_from_length (pasts_of c pasts), cases_eq (length (pasts_of c pasts)) 0)

twice_or_not : (pasts : List Past) (c : ℕ) → IsTwice pasts c ⊎ (IsTwice pasts c → ⊥)
twice_or_not pasts c = grind (arith, cases_lt 1 (length (pasts_of c pasts)))

differs_or_not : (journal : List Entry) (pasts : List Past) (c : ℕ) → Differs journal pasts c ⊎ (Differs journal pasts c → ⊥)
differs_or_not journal pasts c = grind (arith, same_answers (entries_of_client c journal) (recalled c pasts))

-- where no fault is there, all agree
pub Agree-from_none : (early : Bool) (house : List ℕ) (journal : List Entry) (pasts : List Past) → ended_early early pasts ≡ false → NoClient (IsMissing house pasts) → NoClient (IsTwice pasts) → NoClient (Differs journal pasts) → Agree early house journal pasts
Agree-from_none early house journal pasts full missing twice differing =
    record {
      in_full = full;
      one_each = λ c h named. grind (arith, missing c h, twice c h, nil_from_length (pasts_of c pasts));
      no_two = λ c h. grind (arith, twice c h);
      same = λ c h past left. lists c h ∙ ap first_list left;
      no_other = λ c h left. lists c h ∙ ap first_list left;
    }
  where
    lists : (c : ℕ) → c < clients → entries_of_client c journal ≡ recalled c pasts
    lists c h = grind (arith, differing c h, same_answers (entries_of_client c journal) (recalled c pasts))

-- where all agree, a client's entries are what it recalls
pub lists_from_agree : (early : Bool) (house : List ℕ) (journal : List Entry) (pasts : List Past) → Agree early house journal pasts → (c : ℕ) → c < clients → entries_of_client c journal ≡ recalled c pasts
lists_from_agree early house journal pasts p c h = by_pasts (pasts_of c pasts) refl
  where
    by_pasts : (ps : List Past) → pasts_of c pasts ≡ ps → entries_of_client c journal ≡ recalled c pasts
    by_pasts [] left = p.no_other c h left ∙ sym (ap first_list left)
    by_pasts (past ∷ []) left = p.same c h past left ∙ sym (ap first_list left)
    by_pasts (past ∷ second ∷ ps) left = absurd (omega (arith, p.no_two c h, ap length left))

-- where all agree, no fault is there
none_from_agree : (early : Bool) (house : List ℕ) (journal : List Entry) (pasts : List Past) (fault : AuditFault) → Agree early house journal pasts → IsFirstFault early house journal pasts fault → ⊥
none_from_agree early house journal pasts Early p q = false≢true (sym p.in_full ∙ q)
none_from_agree early house journal pasts (Missing c) p q = omega (arith, p.one_each c q.1.within q.1.has.0, ap (λ (ps : List Past). length ps) q.1.has.1)
none_from_agree early house journal pasts (Twice c) p q = omega (arith, p.no_two c q.2.within, q.2.has)
none_from_agree early house journal pasts (differs c) p q = q.3.has (lists_from_agree early house journal pasts p c q.3.within)

same_faults : (early : Bool) (house : List ℕ) (journal : List Entry) (pasts : List Past) (f g : AuditFault) → IsFirstFault early house journal pasts f → IsFirstFault early house journal pasts g → f ≡ g
same_faults early house journal pasts Early Early p q = refl
same_faults early house journal pasts (Missing c) (Missing d) p q = ap Missing (one_first (IsMissing house pasts) c d p.1 q.1)
same_faults early house journal pasts (Twice c) (Twice d) p q = ap Twice (one_first (IsTwice pasts) c d p.2 q.2)
same_faults early house journal pasts (differs c) (differs d) p q = ap differs (one_first (Differs journal pasts) c d p.3 q.3)
same_faults early house journal pasts f g p q = absurd (search rules)

Audits-exists : (early : Bool) (house : List ℕ) (journal : List Entry) (pasts : List Past) → (outcome : Result (Unit {0}) AuditFault) × Audits early house journal pasts outcome
Audits-exists early house journal pasts =
    elim (cases_Bool (ended_early early pasts)) [
      | inl ended ↦ (Err Early, ended)
      | inr full ↦ elim (first_or_none (IsMissing house pasts) (missing_or_not house pasts)) [
        | inl found ↦ (Err (Missing found.0), (full, found.1))
        | inr none ↦ elim (first_or_none (IsTwice pasts) (twice_or_not pasts)) [
          | inl found ↦ (Err (Twice found.0), (full, none, found.1))
          | inr few ↦ elim (first_or_none (Differs journal pasts) (differs_or_not journal pasts)) [
            | inl found ↦ (Err (differs found.0), (full, none, few, found.1))
            | inr same ↦ (Ok tt, Agree-from_none early house journal pasts full none few same)
          ]
        ]
      ]
    ]

Audits-unique : (early : Bool) (house : List ℕ) (journal : List Entry) (pasts : List Past) (a b : Result (Unit {0}) AuditFault) → Audits early house journal pasts a → Audits early house journal pasts b → b ≡ a
Audits-unique early house journal pasts (Ok x) (Ok y) p q = refl
Audits-unique early house journal pasts (Ok x) (Err g) p q = absurd (none_from_agree early house journal pasts g p q)
Audits-unique early house journal pasts (Err f) (Ok y) p q = absurd (none_from_agree early house journal pasts f q p)
Audits-unique early house journal pasts (Err f) (Err g) p q = ap Err (same_faults early house journal pasts g f q p)

pub Audits-ExactlyOne : (early : Bool) (house : List ℕ) (journal : List Entry) (pasts : List Past) → ExactlyOne (Audits early house journal pasts)
Audits-ExactlyOne early house journal pasts =
    let found = Audits-exists early house journal pasts in
    record { answer = found.0; is_answer = found.1; only_answer = λ other p. Audits-unique early house journal pasts found.0 other found.1 p }
