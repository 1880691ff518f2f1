-- Laws of the entries of a history.
use Rattle.std.proofs.lemmas.Grind.{common_steps}
use Rattle.std.proofs.lemmas.Bool.Decides.{nat_tests}
use Rattle.std.proofs.Common.{◌≡◌, ℕ, ◌+◌, ◌<◌, List, [], ◌∷◌, ◌++◌, length, zero, suc, refl, arith, sym, ap, ◌∙◌, subst, Some, Bool, true, inl, inr, filter, count_by}
use Rattle.std.specs.Prelude.{◌==◌, slice_get}
use Rattle.std.proofs.lemmas.Bool.{cases_Bool, eqb-true, eq-eqb}
use Rattle.std.proofs.lemmas.List.Elements.{filter-append}
use Rattle.std.proofs.lemmas.List.Sums.{length-filter, sum_by-append}
use Rattle.arb_config.specs.Machine.{IsMachine, Machine}
use Rattle.arb_model.specs.declared.orders.Entry.{Entry}
use Rattle.arb_model.specs.declared.orders.Event.{Event}
use Rattle.arb_model.specs.declared.orders.Event.TheVariants.{Entered, Posted}
use Rattle.arb_model.specs.History.{History, IsLegal, count_of, entries_by, entries_of, is_entry, is_entry_of, orders_in}
use Rattle.arb_model.specs.HistoryLaws.{CountsAllEntries, CountsOwnEntries, EntriesAppend, EntriesBegin, EntriesJoin, EntriesStay, EntriesWereEntered, NumbersOwnEntries, OneOfEachNumber, OrdersAdd, OrdersGrow, OwnEntriesBegin, WasEntered}
use Rattle.arb_model.specs.Lists.{one_if}
use Rattle.arb_model.proofs.CountLaws.{counts_cons}
use Rattle.arb_model.proofs.EntryLaws.{numbers_entries}

-- the orders of two histories, one after the other
pub orders_add : OrdersAdd
orders_add h more = sum_by-append (λ (e : Event). one_if (is_entry e)) h more

pub orders_grow : OrdersGrow
orders_grow before after p = omega (arith, orders_add before p.0, ap orders_in p.1)

pub counts_all_entries : CountsAllEntries
counts_all_entries [] = refl
counts_all_entries (Entered e ∷ es) = omega (arith, counts_cons is_entry (Entered e) es, counts_all_entries es)
counts_all_entries (Posted w value ∷ es) = omega (arith, counts_cons is_entry (Posted w value) es, counts_all_entries es)

pub counts_own_entries : CountsOwnEntries
counts_own_entries h client = length-filter (own client) (entries_of h) ∙ counted h
  where
    own : ℕ → Entry → Bool
    own client e = e.client == client

    counted : (h : History) → count_by (own client) (entries_of h) ≡ count_of h client
    counted [] = refl
    counted (Entered e ∷ es) = omega (arith, counts_cons (is_entry_of client) (Entered e) es, counted es, counts_cons (own client) e (entries_of es))
    counted (Posted w value ∷ es) = omega (arith, counts_cons (is_entry_of client) (Posted w value) es, counted es)

-- the entries of two histories, one after the other
pub entries_join : EntriesJoin
entries_join [] more = refl
entries_join (Entered e ∷ es) more = ap (λ (l : List Entry). e ∷ l) (entries_join es more)
entries_join (Posted w value ∷ es) more = entries_join es more

pub entries_begin : EntriesBegin
entries_begin before after p = (entries_of p.0, sym (entries_join before p.0) ∙ ap entries_of p.1)

pub own_entries_begin : OwnEntriesBegin
own_entries_begin before after client p =
    let own : Entry → Bool = λ e. e.client == client in
    (entries_by p.0 client, sym (filter-append own (entries_of before) (entries_of p.0)) ∙ ap (filter own) (sym (entries_join before p.0) ∙ ap entries_of p.1))

get_first : (xs ys : List Entry) (place : ℕ) (e : Entry) → slice_get xs place ≡ Some e → slice_get (xs ++ ys) place ≡ Some e
get_first [] ys place e h = absurd cc
get_first (x ∷ xs) ys zero e h = h
get_first (x ∷ xs) ys (suc place) e h = get_first xs ys place e h

get_next : (xs ys : List Entry) (e : Entry) → slice_get (xs ++ e ∷ ys) (length xs) ≡ Some e
get_next [] ys e = refl
get_next (x ∷ xs) ys e = get_next xs ys e

pub entries_stay : EntriesStay
entries_stay before after place e p h = grind (arith, nat_tests, common_steps, entries_join, get_first)

pub entries_append : EntriesAppend
entries_append before rest e =
    ap (λ (l : List Entry). slice_get l (orders_in before)) (entries_join before (Entered e ∷ rest))
    ∙ ap (λ (n : ℕ). slice_get (entries_of before ++ e ∷ entries_of rest) n) (sym (counts_all_entries before))
    ∙ get_next (entries_of before) (entries_of rest) e

-- an entry of a history was entered there
pub were_entered : EntriesWereEntered
were_entered [] place e h = absurd (cc h)
were_entered (Entered x ∷ es) zero e h =
    let same : x ≡ e = cc h in
    record { before = []; rest = es; is = ap (λ (y : Entry). Entered y ∷ es) (sym same); orders = refl }
were_entered (Entered x ∷ es) (suc place) e h =
    let r : WasEntered es place e = were_entered es place e h in
    record { before = Entered x ∷ r.before; rest = r.rest; is = ap (λ (l : History). Entered x ∷ l) r.is; orders = omega (arith, counts_cons is_entry (Entered x) r.before, r.orders) }
were_entered (Posted w value ∷ es) place e h =
    let r : WasEntered es place e = were_entered es place e h in
    record { before = Posted w value ∷ r.before; rest = r.rest; is = ap (λ (l : History). Posted w value ∷ l) r.is; orders = omega (arith, counts_cons is_entry (Posted w value) r.before, r.orders) }

-- an entry was entered as a client's, where so many of the client's stood
record IsOwn (h : History) (client number : ℕ) (e : Entry) : Type 0 where
  before : History
  rest : History
  is : before ++ Entered e ∷ rest ≡ h
  of : e.client ≡ client
  count : count_of before client ≡ number

more_own : (x : Event) (es : History) (client number : ℕ) (e : Entry) → IsOwn es client number e → IsOwn (x ∷ es) client (count_of (x ∷ []) client + number) e
more_own x es client number e r =
    record { before = x ∷ r.before; rest = r.rest; is = ap (λ (l : History). x ∷ l) r.is; of = r.of; count = omega (arith, counts_cons (is_entry_of client) x r.before, r.count) }

own_first : (x : Entry) (es : History) (client number : ℕ) (e : Entry) → (x.client == client) ≡ true → ((n : ℕ) → slice_get (entries_by es client) n ≡ Some e → IsOwn es client n e) → slice_get (x ∷ entries_by es client) number ≡ Some e → IsOwn (Entered x ∷ es) client number e
own_first x es client zero e own rest h =
    let same : x ≡ e = cc h in
    record { before = []; rest = es; is = ap (λ (y : Entry). Entered y ∷ es) (sym same); of = ap (λ (y : Entry). y.client) (sym same) ∙ eqb-true x.client client own; count = refl }
own_first x es client (suc number) e own rest h =
    let one : count_of (Entered x ∷ []) client + number ≡ suc number = omega (arith, ap one_if own) in
    subst (λ (n : ℕ). IsOwn (Entered x ∷ es) client n e) one (more_own (Entered x) es client number e (rest number h))

own_at : (h : History) (client number : ℕ) (e : Entry) → slice_get (entries_by h client) number ≡ Some e → IsOwn h client number e
own_at [] client number e h = absurd (cc h)
own_at (Posted w value ∷ es) client number e h =
    let none : count_of (Posted w value ∷ []) client + number ≡ number = omega arith in
    subst (λ (n : ℕ). IsOwn (Posted w value ∷ es) client n e) none (more_own (Posted w value) es client number e (own_at es client number e h))
own_at (Entered x ∷ es) client number e h =
    let own : Entry → Bool = λ y. y.client == client in
    elim (cases_Bool (x.client == client)) [
      | inl is_own ↦
          let first : filter own (x ∷ entries_of es) ≡ x ∷ entries_by es client = rw is_own refl in
          own_first x es client number e is_own (λ n g. own_at es client n e g) (sym (ap (λ (l : List Entry). slice_get l number) first) ∙ h)
      | inr other ↦
          let gone : filter own (x ∷ entries_of es) ≡ entries_by es client = rw other refl in
          let none : count_of (Entered x ∷ []) client + number ≡ number = omega (arith, ap one_if other) in
          subst (λ (n : ℕ). IsOwn (Entered x ∷ es) client n e) none (more_own (Entered x) es client number e (own_at es client number e (sym (ap (λ (l : List Entry). slice_get l number) gone) ∙ h)))
    ]

-- a client's entries are numbered from 0
pub numbers_own_entries : NumbersOwnEntries
numbers_own_entries m h client number e machine legal there =
    let r : IsOwn h client number e = own_at h client number e there in
    let is : e.number ≡ count_of r.before e.client = numbers_entries m r.before r.rest e machine (subst (IsLegal m) (sym r.is) legal) in
    (r.of, is ∙ ap (count_of r.before) r.of ∙ r.count)

-- of two points of a history, more of a client's orders stand before the later one, where one of them lies between
more_before : (b r c t : History) (e : Entry) → b ++ Entered e ∷ r ≡ c ++ t → orders_in b < orders_in c → count_of b e.client < count_of c e.client
more_before [] r [] t e same less = absurd (omega (arith, less))
more_before [] r (y ∷ c) t e same less =
    let first : Entered e ≡ y = cc same in
    let own : (e.client == e.client) ≡ true = eq-eqb e.client e.client refl in
    omega (arith, counts_cons (is_entry_of e.client) y c, ap (λ (x : Event). count_of (x ∷ []) e.client) first, ap one_if own)
more_before (x ∷ b) r [] t e same less = absurd (omega (arith, less))
more_before (x ∷ b) r (y ∷ c) t e same less =
    let first : x ≡ y = cc same in
    let rest : b ++ Entered e ∷ r ≡ c ++ t = cc same in
    let fewer : orders_in b < orders_in c = omega (arith, less, counts_cons is_entry x b, counts_cons is_entry y c, ap (λ (z : Event). orders_in (z ∷ [])) first) in
    omega (arith, more_before b r c t e rest fewer, counts_cons (is_entry_of e.client) x b, counts_cons (is_entry_of e.client) y c, ap (λ (z : Event). count_of (z ∷ []) e.client) first)

-- a later entry of a client has a higher number
number_grows : (m : Machine) (h : History) (p q : ℕ) (e f : Entry) → IsMachine m → IsLegal m h → slice_get (entries_of h) p ≡ Some e → slice_get (entries_of h) q ≡ Some f → e.client ≡ f.client → p < q → e.number < f.number
number_grows m h p q e f machine legal at_p at_q one less =
    let a : WasEntered h p e = were_entered h p e at_p in
    let b : WasEntered h q f = were_entered h q f at_q in
    let first : e.number ≡ count_of a.before e.client = numbers_entries m a.before a.rest e machine (subst (IsLegal m) (sym a.is) legal) in
    let second : f.number ≡ count_of b.before f.client = numbers_entries m b.before b.rest f machine (subst (IsLegal m) (sym b.is) legal) in
    let more : count_of a.before e.client < count_of b.before e.client = more_before a.before a.rest b.before (Entered f ∷ b.rest) e (a.is ∙ sym b.is) (omega (arith, a.orders, b.orders, less)) in
    omega (arith, first, second, more, ap (count_of b.before) one)

-- so a client has one entry of each number
pub one_of_each_number : OneOfEachNumber
one_of_each_number m h p q e f machine legal at_p at_q one same = grind (arith, nat_tests, common_steps, number_grows)
