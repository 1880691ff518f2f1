-- The journal follows what was taken, over each message.
use Rattle.std.proofs.Common.{◌≡◌, ℕ, zero, suc, ◌<◌, ◌≤◌, List, [], ◌∷◌, ◌++◌, length, take, Bool, true, ◌&&◌, refl, sym, ap, ◌∙◌, arith}
use Rattle.std.specs.Prelude.{filter_map}
use Rattle.std.specs.List.{list_all}
use Rattle.std.proofs.lemmas.Grind.{common_steps}
use Rattle.std.proofs.lemmas.List.{append-nil, map-append, length-map, length-take, take-append-le, take_all}
use Rattle.std.proofs.lemmas.List.Elements.{filter_map-append}
use Rattle.std.proofs.lemmas.List.Folds.{list_all-append, list_all-map}
use Rattle.arb_config.specs.Machine.{IsMachine, Machine}
use Rattle.arb_model.specs.declared.orders.Entry.{Entry}
use Rattle.arb_model.specs.declared.orders.Order.{Order}
use Rattle.arb_model.specs.History.{History, IsLegal, entries_of}
use Rattle.arb_model.proofs.JournalLaws.{counts_all_entries}
use Rattle.arb_desk.specs.declared.answer.Admission.{Admission}
use Rattle.arb_desk.specs.declared.answer.Admission.TheVariants.{Entered, Full}
use Rattle.arb_desk.specs.declared.message.Body.{Body}
use Rattle.arb_desk.specs.declared.message.Body.TheVariants.{Put, Close}
use Rattle.arb_desk.specs.declared.message.Message.{Message}
use Rattle.arb_desk.specs.Passes.{has}
use Rattle.arb_house.specs.Recording.{Admits}
use Rattle.arb_house.specs.Taking.{EnteredFrom, FollowsTaken, TakenFrom, order_by, orders_entered, orders_taken}
use Rattle.arb_house.proofs.AdmissionLaws.{admitted_posts, entries_grow}

-- an element more of a list that is taken whole
take_more : {A : Type 0} (n : ℕ) (xs ys : List A) (x : A) → xs ≡ take n ys → length xs < n → xs ++ x ∷ [] ≡ take n (ys ++ x ∷ [])
take_more n xs ys x e h = grind (arith, common_steps, length-take, take_all)

-- and of one that is cut
take_full : {A : Type 0} (n : ℕ) (xs ys zs : List A) → xs ≡ take n ys → n ≤ length xs → xs ≡ take n (ys ++ zs)
take_full n xs ys zs e h = grind (arith, common_steps, length-take, take-append-le)

length-entered : (es : List Entry) → length (orders_entered es) ≡ length es
length-entered es = length-map es (λ e. (e.client, e.order))

-- a close mark leaves the orders
pub follows_close : (limit : ℕ) (journal : List Entry) (taken : List Message) (m : Message) → FollowsTaken limit journal taken → m.body ≡ Close → FollowsTaken limit journal (taken ++ m ∷ [])
follows_close limit journal taken m follows body = grind (arith, common_steps, filter_map-append, append-nil)

-- at the limit nothing is entered
follows_full : (limit : ℕ) (journal : List Entry) (taken : List Message) (m : Message) → FollowsTaken limit journal taken → limit ≤ length journal → FollowsTaken limit journal (taken ++ m ∷ [])
follows_full limit journal taken m follows full =
    grind (arith, common_steps, filter_map-append, length-entered journal, take_full limit (orders_entered journal) (orders_taken taken) (orders_taken (m ∷ [])))

-- below it the message's order is
follows_order : (limit : ℕ) (journal : List Entry) (taken : List Message) (m : Message) (e : Entry) (o : Order) → FollowsTaken limit journal taken → length journal < limit → m.body ≡ Put o → e.client ≡ m.client → e.order ≡ o
    → FollowsTaken limit (journal ++ e ∷ []) (taken ++ m ∷ [])
follows_order limit journal taken m e o follows below body client order =
    grind (arith, common_steps, filter_map-append, map-append, length-entered journal, take_more limit (orders_entered journal) (orders_taken taken) (m.client, o))

-- so the journal follows what was taken over whatever comes of an order
pub follows_admission : (m : Machine) (before : History) (client : ℕ) (order : Order) (a : Admission) (after : History) (taken : List Message) (x : Message) → IsMachine m → IsLegal m after → Admits m before client order a after
    → x.client ≡ client → x.body ≡ Put order → FollowsTaken m.orders (entries_of before) taken → FollowsTaken m.orders (entries_of after) (taken ++ x ∷ [])
follows_admission m before client order (Entered entry place) after taken x machine legal a who what follows =
    let grown = entries_grow before after entry (admitted_posts m before client order entry place after machine legal a) in
    let below : length (entries_of before) < m.orders = omega (arith, counts_all_entries before, a.room) in
    rw grown (follows_order m.orders (entries_of before) taken x entry order follows below what (ap (λ (e : Entry). e.client) a.entered ∙ sym who) (ap (λ (e : Entry). e.order) a.entered))
follows_admission m before client order (Full whose number) after taken x machine legal a who what follows =
    let full : m.orders ≤ length (entries_of before) = omega (arith, counts_all_entries before, a.0.limit) in
    rw (a.2) (follows_full m.orders (entries_of before) taken x follows full)

-- messages of listed clients, and one more
pub taken_more : (clients : List ℕ) (taken : List Message) (m : Message) → TakenFrom clients taken → has m.client clients ≡ true → TakenFrom clients (taken ++ m ∷ [])
taken_more clients taken m all listed = grind (arith, common_steps, list_all-append (λ (x : Message). has x.client clients) taken (m ∷ []))

-- what holds of all elements holds of the first ones
all_taken : {A : Type 0} (test : A → Bool) (n : ℕ) (xs : List A) → list_all test xs ≡ true → list_all test (take n xs) ≡ true
all_taken test zero xs all = refl
all_taken test (suc n) [] all = refl
all_taken test (suc n) (x ∷ xs) all = grind (arith, common_steps, all_taken test n xs)

-- the orders of messages of listed clients are of listed clients
orders_from : (clients : List ℕ) (taken : List Message) → TakenFrom clients taken → list_all (λ o. has o.0 clients) (orders_taken taken) ≡ true
orders_from clients [] all = refl
orders_from clients (m ∷ taken) all = one m.client m.body all (orders_from clients taken)
  where
    one : (client : ℕ) (body : Body) → (has client clients && list_all (λ (x : Message). has x.client clients) taken) ≡ true → (TakenFrom clients taken → list_all (λ o. has o.0 clients) (orders_taken taken) ≡ true)
        → list_all (λ o. has o.0 clients) (filter_map (λ (x : Message). order_by x.client x.body) (record { client = client; body = body } ∷ taken)) ≡ true
    one client (Put order) all rest = grind (arith, common_steps, rest)
    one client Close all rest = grind (arith, common_steps, rest)

-- and so the journal's are
pub entered_from : (limit : ℕ) (clients : List ℕ) (journal : List Entry) (taken : List Message) → FollowsTaken limit journal taken → TakenFrom clients taken → EnteredFrom clients journal
entered_from limit clients journal taken follows all =
    sym (list_all-map (λ (o : ℕ × Order). has o.0 clients) (λ (e : Entry). (e.client, e.order)) journal)
    ∙ (ap (list_all (λ (o : ℕ × Order). has o.0 clients)) follows ∙ all_taken (λ (o : ℕ × Order). has o.0 clients) limit (orders_taken taken) (orders_from clients taken all))
