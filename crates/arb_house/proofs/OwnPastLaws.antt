-- A complete past of a house's own client has the list of the client's entries.
use Rattle.std.proofs.Common.{◌≡◌, ℕ, zero, suc, ◌≤◌, ◌==◌, inl, inr, List, [], ◌∷◌, ◌++◌, Bool, true, false, length, take, Some, Option, refl, sym, ap, subst, ◌∙◌, arith, eq-eqb, true≢false}
use Rattle.std.specs.Prelude.{count_by, filter, not, option_map, slice_get, All, IfErr, IfSome, IsOk, Result, Ok, Err}
use Rattle.std.specs.List.{list_any}
use Rattle.std.proofs.lemmas.Bool.{cases_Bool, eqb-true, or_parts, not-false, false_from_ne_true}
use Rattle.std.proofs.lemmas.Bool.Decides.{nat_tests}
use Rattle.std.proofs.lemmas.Grind.{common_steps}
use Rattle.std.proofs.lemmas.List.{length-map}
use Rattle.std.proofs.lemmas.List.Elements.{All-cons, All-filter, All-head, All-nil, filter-append, filter_passes}
use Rattle.std.proofs.lemmas.List.Sums.{length-filter, sum_by-cons}
use Rattle.std.proofs.lemmas.Option.{get_or_from_slice_get, slice_get-map, slice_get_within}
use Rattle.arb_config.specs.Machine.{IsMachine, Machine}
use Rattle.arb_model.specs.declared.orders.Entry.{Entry}
use Rattle.arb_model.specs.declared.orders.Event.TheVariants.{Entered}
use Rattle.arb_model.specs.declared.orders.Order.{Order}
use Rattle.arb_model.specs.declared.orders.Reply.{Reply}
use Rattle.arb_model.specs.History.{History, IsLegal, count_of, entries_by, entries_of}
use Rattle.arb_model.specs.HistoryLaws.{WasEntered}
use Rattle.arb_model.proofs.EntryLaws.{numbers_entries}
use Rattle.arb_model.proofs.JournalLaws.{counts_own_entries, entries_join, were_entered}
use Rattle.arb_desk.specs.declared.message.Body.{Body}
use Rattle.arb_desk.specs.declared.message.Body.TheVariants.{Put, Close}
use Rattle.arb_desk.specs.declared.message.Message.{Message}
use Rattle.arb_desk.specs.declared.past.Past.{Past}
use Rattle.arb_desk.specs.Messages.{messages_by}
use Rattle.arb_desk.specs.Passes.{has}
use Rattle.arb_client.specs.Closing.{IsComplete}
use Rattle.arb_client.specs.Sides.{StandIn, close_mark, own_entry, puts_of}
use Rattle.arb_client.proofs.SideLaws.{full_on, stand_on}
use Rattle.arb_house.specs.declared.auditing.AuditFault.{AuditFault}
use Rattle.arb_house.specs.declared.auditing.AuditFault.TheVariants.{Early, Missing, Twice, Differs as differs}
use Rattle.arb_house.specs.Auditing.{IsFirstFault, IsOwnFault, LeftOneEach}
use Rattle.arb_house.specs.Clients.{index_in}
use Rattle.arb_house.specs.FirstClient.{NoClient}
use Rattle.arb_house.specs.OwnPasts.{IsTakenIn}
use Rattle.arb_house.specs.Pasts.{AnsweredOrders, Differs, IsMissing, entries_of_client, first_list, pasts_of}
use Rattle.arb_house.specs.Serving.{AllClosed}
use Rattle.arb_house.specs.Taking.{EnteredFrom, FollowsTaken, orders_entered, orders_taken}
use Rattle.arb_house.proofs.ClientLaws.{has_index, place_is, some_of}

-- whether an entry is a client's, and whether an order is
abbrev own : ℕ → Entry → Bool
own c e = e.client == c

abbrev own_order : ℕ → ℕ × Order → Bool
own_order c o = o.0 == c

-- the element between two lists
get_between : (xs ys : List Entry) (e : Entry) → slice_get (xs ++ e ∷ ys) (length xs) ≡ Some e
get_between [] ys e = refl
get_between (x ∷ xs) ys e = get_between xs ys e

-- an entry of a client has its number among the client's entries
own_at_number : (m : Machine) (h : History) (place : ℕ) (e : Entry) → IsMachine m → IsLegal m h → slice_get (entries_of h) place ≡ Some e → slice_get (entries_by h e.client) e.number ≡ Some e
own_at_number m h place e machine legal at =
    let was : WasEntered h place e = were_entered h place e at in
    let number : e.number ≡ count_of was.before e.client = numbers_entries m was.before was.rest e machine (subst (IsLegal m) (sym was.is) legal) in
    let one : filter (own e.client) (e ∷ entries_of was.rest) ≡ e ∷ entries_by was.rest e.client = rw (eq-eqb e.client e.client refl) refl in
    let all : entries_by h e.client ≡ entries_by was.before e.client ++ e ∷ entries_by was.rest e.client =
    ap (λ (l : History). entries_by l e.client) (sym was.is) ∙ ap (filter (own e.client)) (entries_join was.before (Entered e ∷ was.rest))
    ∙ filter-append (own e.client) (entries_of was.before) (e ∷ entries_of was.rest) ∙ ap (λ (l : List Entry). entries_by was.before e.client ++ l) one in
    let index : e.number ≡ length (entries_by was.before e.client) = number ∙ sym (counts_own_entries was.before e.client) in
    ap (λ (l : List Entry). slice_get l e.number) all
    ∙ ap (λ (n : ℕ). slice_get (entries_by was.before e.client ++ e ∷ entries_by was.rest e.client) n) index
    ∙ get_between (entries_by was.before e.client) (entries_by was.rest e.client) e

-- so answered orders that stand in a history are the first of the client's entries
stand_first : (m : Machine) (h : History) (c : ℕ) (mine : AnsweredOrders) → IsMachine m → IsLegal m h → StandIn c mine h → (k : ℕ) (x : Order × Reply) → slice_get mine k ≡ Some x → slice_get (entries_of_client c (entries_of h)) k ≡ Some x
stand_first m h c mine machine legal stand k x there =
    let at = stand k x there in
    let e : Entry = own_entry c k x.0 x.1 in
    let got : slice_get (entries_by h c) k ≡ Some e = own_at_number m h at.0 e machine legal at.1 in
    slice_get-map (λ (y : Entry). (y.order, y.reply)) (entries_by h c) k ∙ ap (λ (o : Option Entry). option_map (λ (y : Entry). (y.order, y.reply)) o) got

-- a list that has another's elements, and no more than these, is the other
same_list : {A : Type 0} (xs ys : List A) → length xs ≤ length ys → ((k : ℕ) (y : A) → slice_get ys k ≡ Some y → slice_get xs k ≡ Some y) → xs ≡ ys
same_list [] [] most has = refl
same_list (x ∷ xs) [] most has = absurd (omega (arith, most))
same_list [] (y ∷ ys) most has = absurd (cc (has zero y refl))
same_list (x ∷ xs) (y ∷ ys) most has =
    let first : x ≡ y = cc (has zero y refl) in
    let rest : xs ≡ ys = same_list xs ys (omega (arith, most)) (λ k z. has (suc k) z) in
    cc

-- the first elements have no more that pass a test than all
count_taken : {A : Type 0} (test : A → Bool) (n : ℕ) (xs : List A) → count_by test (take n xs) ≤ count_by test xs
count_taken test zero xs = omega arith
count_taken test (suc n) [] = omega arith
count_taken test (suc n) (x ∷ xs) = grind (arith, common_steps, sum_by-cons, count_taken test n xs)

-- a client's entries are as many as its orders among those entered
count_entered : (c : ℕ) (journal : List Entry) → count_by (own_order c) (orders_entered journal) ≡ count_by (own c) journal
count_entered c [] = refl
count_entered c (e ∷ journal) = grind (arith, common_steps, sum_by-cons, count_entered c journal)

-- and its orders among those taken are as many as its messages hold
count_by_client : (c : ℕ) (taken : List Message) → count_by (own_order c) (orders_taken taken) ≡ length (orders_taken (messages_by c taken))
count_by_client c [] = refl
count_by_client c (m ∷ taken) = one m.client m.body (count_by_client c taken)
  where
    one : (client : ℕ) (body : Body) → count_by (own_order c) (orders_taken taken) ≡ length (orders_taken (messages_by c taken))
        → count_by (own_order c) (orders_taken (record { client = client; body = body } ∷ taken)) ≡ length (orders_taken (messages_by c (record { client = client; body = body } ∷ taken)))
    one client (Put order) rest = grind (arith, nat_tests, common_steps, sum_by-cons, rest)
    one client Close rest = grind (arith, nat_tests, common_steps, sum_by-cons, rest)

-- the messages of answered orders, and a close mark, hold so many orders
count_put : (c : ℕ) (mine : AnsweredOrders) → length (orders_taken (puts_of c mine [] ++ close_mark c ∷ [])) ≡ length mine
count_put c [] = refl
count_put c (x ∷ mine) = grind (arith, common_steps, count_put c mine)

-- so where a client put its answered orders and its close mark alone, it has no more entries
most_entered : (limit c : ℕ) (journal : List Entry) (taken : List Message) (mine : AnsweredOrders) → FollowsTaken limit journal taken → messages_by c taken ≡ puts_of c mine [] ++ close_mark c ∷ [] → length (entries_of_client c journal) ≤ length mine
most_entered limit c journal taken mine follows put =
    let entries = length-map {B = Order × Reply} (filter (own c) journal) (λ e. (e.order, e.reply)) in
    let counted = length-filter (own c) journal in
    let first : count_by (own_order c) (orders_entered journal) ≡ count_by (own_order c) (take limit (orders_taken taken)) = ap (count_by (own_order c)) follows in
    let held : length (orders_taken (messages_by c taken)) ≡ length (orders_taken (puts_of c mine [] ++ close_mark c ∷ [])) = ap (λ (l : List Message). length (orders_taken l)) put in
    omega (arith, entries, counted, count_entered c journal, first, count_taken (own_order c) limit (orders_taken taken), count_by_client c taken, held, count_put c mine)

-- a client that isn't listed has no entries, where all are of listed ones
none_entered : (house : List ℕ) (journal : List Entry) (c : ℕ) → EnteredFrom house journal → has c house ≡ false → entries_of_client c journal ≡ []
none_entered house [] c from out = refl
none_entered house (e ∷ journal) c from out = grind (arith, nat_tests, common_steps, none_entered house journal c)

-- who is listed stands in the list
listed_at : (house : List ℕ) (c : ℕ) → has c house ≡ true → (k : ℕ) × (slice_get house k ≡ Some c)
listed_at house c there =
    let k = some_of (index_in house c) (has_index house c there) in
    (k.0, subst (λ (o : Option ℕ). IfSome o (λ i. slice_get house i ≡ Some c)) k.1 (place_is house c))

-- what a server that ended without a fault leaves, over a history
pub record Leaves (m : Machine) (h : History) (house : List ℕ) (journal : List Entry) (taken : List Message) : Type 0 where
  pub machine : IsMachine m
  pub legal : IsLegal m h
  pub entries : journal ≡ entries_of h
  pub orders : FollowsTaken m.orders journal taken
  pub own : EnteredFrom house journal

-- a complete past that was taken in has the list of its client's entries
own_list : (m : Machine) (h : History) (house : List ℕ) (journal : List Entry) (taken : List Message) (past : Past) → Leaves m h house journal taken → AllClosed house taken → IsTakenIn h taken past → IsComplete m past → entries_of_client past.client journal ≡ past.mine.items
own_list m h house journal taken past left closed told complete =
    let c = past.client in
    let mine = past.mine.items in
    let stand : StandIn c mine h = stand_on c mine past.point.seen h told.seen complete.stand in
    let first : (k : ℕ) (x : Order × Reply) → slice_get mine k ≡ Some x → slice_get (entries_of_client c journal) k ≡ Some x = λ k x at. subst (λ (l : List Entry). slice_get (entries_of_client c l) k ≡ Some x) (sym left.entries) (stand_first m h c mine left.machine left.legal stand k x at) in
    let most : length (entries_of_client c journal) ≤ length mine =
    elim complete.all [
      | inl put ↦ elim (cases_Bool (has c house)) [
        | inl there ↦
            let at = listed_at house c there in
            most_entered m.orders c journal taken mine left.orders (sym (told.all (closed at.0 c at.1)) ∙ put)
        | inr out ↦ omega (arith, ap (λ (l : AnsweredOrders). length l) (none_entered house journal c left.own out))
      ]
      | inr full ↦
          let count : count_of h c ≡ length mine = (full_on m past.point.seen h c (length mine) left.machine left.legal told.seen full).count in
          let entries = length-map {B = Order × Reply} (entries_by h c) (λ e. (e.order, e.reply)) in
          let same = ap (λ (l : List Entry). length (entries_of_client c l)) left.entries in
          omega (arith, same, entries, counts_own_entries h c, count)
    ] in
    same_list (entries_of_client c journal) mine most first

-- all pasts of a list are whole, where none is cut
all_whole : (pasts : List Past) → list_any (λ past. not past.whole) pasts ≡ false → All (λ past. past.whole ≡ true) pasts
all_whole [] none = All-nil (λ (past : Past). past.whole ≡ true)
all_whole (p ∷ pasts) none =
    let parts = or_parts (not p.whole) (list_any (λ (past : Past). not past.whole) pasts) none in
    All-cons (λ (past : Past). past.whole ≡ true) p pasts (not-false p.whole parts.0) (all_whole pasts parts.1)

-- whether a client left a past or none, its entries are its first past's list
recalls : (journal : List Entry) (c : ℕ) (ps : List Past) → All (λ past. (past.client == c) ≡ true) ps → All (λ past. past.whole ≡ true) ps → All (λ past. past.whole ≡ true → entries_of_client past.client journal ≡ past.mine.items) ps
    → (ps ≡ [] → entries_of_client c journal ≡ []) → entries_of_client c journal ≡ first_list ps
recalls journal c [] same whole all none = none refl
recalls journal c (p ∷ ps) same whole all none =
    let is : p.client ≡ c = eqb-true p.client c (All-head (λ (past : Past). (past.client == c) ≡ true) p ps same) in
    let list = All-head (λ (past : Past). past.whole ≡ true → entries_of_client past.client journal ≡ past.mine.items) p ps all (All-head (λ (past : Past). past.whole ≡ true) p ps whole) in
    subst (λ (d : ℕ). entries_of_client d journal ≡ p.mine.items) is list

-- so none of a house's own pasts differs
pub none_differs : (m : Machine) (h : History) (house : List ℕ) (journal : List Entry) (taken : List Message) (pasts : List Past) → Leaves m h house journal taken → AllClosed house taken → All (IsTakenIn h taken) pasts
    → All (λ past. past.whole ≡ true → IsComplete m past) pasts → list_any (λ past. not past.whole) pasts ≡ false → NoClient (IsMissing house pasts) → NoClient (Differs journal pasts)
none_differs m h house journal taken pasts left closed told complete none present c within differ =
    let Own : Past → Type 0 = λ past. past.whole ≡ true → entries_of_client past.client journal ≡ past.mine.items in
    let own_all : All Own pasts = λ k d below whole. own_list m h house journal taken _ left closed (told k d below) (complete k d below whole) in
    let mine : Past → Bool = λ past. past.client == c in
    differ (recalls journal c (pasts_of c pasts) (filter_passes mine pasts) (All-filter mine (λ past. past.whole ≡ true) pasts (all_whole pasts none)) (All-filter mine Own pasts own_all)
    (λ without. none_entered house journal c left.own (false_from_ne_true (has c house) (λ there. let at = listed_at house c there in present c within ((at.0, slice_get_within house at.0 c at.1, get_or_from_slice_get house at.0 c c at.1), without)))))

-- the first fault of an audit of them is one of a house's own
pub own_fault : (early : Bool) (m : Machine) (h : History) (house : List ℕ) (journal : List Entry) (taken : List Message) (pasts : List Past) (fault : AuditFault) → Leaves m h house journal taken → (early ≡ false → AllClosed house taken) → All (IsTakenIn h taken) pasts
    → All (λ past. past.whole ≡ true → IsComplete m past) pasts → IsFirstFault early house journal pasts fault → IsOwnFault early house pasts fault
own_fault early m h house journal taken pasts Early left closed told complete is = is
own_fault early m h house journal taken pasts (Missing c) left closed told complete is = is
own_fault early m h house journal taken pasts (Twice c) left closed told complete is = is
own_fault early m h house journal taken pasts (differs c) left closed told complete is =
    let full = or_parts early (list_any (λ (past : Past). not past.whole) pasts) is.0 in
    none_differs m h house journal taken pasts left (closed full.0) told complete full.1 is.1 c is.3.within is.3.has

-- where each client left one past there is no such fault
pub no_own_fault : (early : Bool) (house : List ℕ) (pasts : List Past) (fault : AuditFault) → LeftOneEach early house pasts → IsOwnFault early house pasts fault → ⊥
no_own_fault early house pasts Early one is = absurd (true≢false (sym is ∙ one.in_full))
no_own_fault early house pasts (Missing c) one is = omega (arith, one.one_each c is.1.within is.1.has.0, ap (λ (l : List Past). length l) is.1.has.1)
no_own_fault early house pasts (Twice c) one is = omega (arith, one.no_two c is.2.within, is.2.has)
no_own_fault early house pasts (differs c) one is = is

-- so an audit that comes to a first fault comes to one of a house's own, and to none where each client left one past
pub own_faults : (early : Bool) (m : Machine) (h : History) (house : List ℕ) (journal : List Entry) (taken : List Message) (pasts : List Past) (result : Result (Unit {0}) AuditFault) → Leaves m h house journal taken → (early ≡ false → AllClosed house taken) → All (IsTakenIn h taken) pasts
    → All (λ past. past.whole ≡ true → IsComplete m past) pasts → IfErr result (IsFirstFault early house journal pasts) → IfErr result (IsOwnFault early house pasts)
own_faults early m h house journal taken pasts (Ok x) left closed told complete is = tt
own_faults early m h house journal taken pasts (Err fault) left closed told complete is = own_fault early m h house journal taken pasts fault left closed told complete is

pub own_passes : (early : Bool) (house : List ℕ) (pasts : List Past) (result : Result (Unit {0}) AuditFault) → LeftOneEach early house pasts → IfErr result (IsOwnFault early house pasts) → IsOk result
own_passes early house pasts (Ok x) one is = refl
own_passes early house pasts (Err fault) one is = absurd (no_own_fault early house pasts fault one is)
