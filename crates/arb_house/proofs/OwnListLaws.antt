-- The lists of pasts that are given back, one behind another.
use Rattle.std.proofs.Common.{◌≡◌, ℕ, ◌+◌, ◌-◌, ◌<◌, ◌≤◌, ◌++◌, ◌∷◌, [], List, inl, inr, length, length-append, append_assoc, append-nil, take, sym, ap, ◌∙◌, arith}
use Rattle.std.specs.Prelude.{Vec, map, min, vec_capacity, vec_len}
use Rattle.std.proofs.lemmas.Bool.{cases_lt}
use Rattle.std.proofs.lemmas.List.{length-map, length-take, map-append, take_all, take-append-le}
use Rattle.arb_model.specs.declared.orders.Order.{Order}
use Rattle.arb_model.specs.declared.orders.Reply.{Reply}
use Rattle.arb_desk.specs.declared.past.Past.{Past}
use Rattle.arb_house.specs.OwnPasts.{first_lists, items_of_each}
use Rattle.arb_house.specs.Pasts.{AnsweredOrders}

-- the list of a past
abbrev list_of : Past → AnsweredOrders
list_of past = past.mine.items

-- at first none is given back
pub none_given : (room : ℕ) (before : List AnsweredOrders) → before ≡ before ++ first_lists room []
none_given room before = sym (ap (λ (l : List AnsweredOrders). before ++ l) (take_all room (map list_of []) (omega arith)) ∙ append-nil before)

-- so many lists are there once those of some pasts were given back
count_given : {A : Type 0} (room : ℕ) (before now : List (Vec (Order × Reply) A)) (done : List Past) → items_of_each now ≡ items_of_each before ++ first_lists room done → length now ≡ length before + min room (length done)
count_given {A} room before now done is =
    let lists : List AnsweredOrders = map list_of done in
    let there : length (items_of_each now) ≡ length now = length-map {B = AnsweredOrders} now (λ (list : Vec (Order × Reply) A). list.items) in
    let were : length (items_of_each before) ≡ length before = length-map {B = AnsweredOrders} before (λ (list : Vec (Order × Reply) A). list.items) in
    let all : length lists ≡ length done = length-map {B = AnsweredOrders} done list_of in
    omega (arith, ap (λ (l : List AnsweredOrders). length l) is, length-append (items_of_each before) (first_lists room done), there, were, all, length-take room lists)

-- with room for one more, the next past's list comes behind them
gives_one : {A : Type 0} (room : ℕ) (before now : List (Vec (Order × Reply) A)) (done : List Past) (past : Past) (list : Vec (Order × Reply) A)
    → items_of_each now ≡ items_of_each before ++ first_lists room done → list.items ≡ past.mine.items → length now < length before + room
    → items_of_each (now ++ list ∷ []) ≡ items_of_each before ++ first_lists room (done ++ past ∷ [])
gives_one {A} room before now done past list is same less =
    let lists : List AnsweredOrders = map list_of done in
    let all : length lists ≡ length done = length-map {B = AnsweredOrders} done list_of in
    let more : length (lists ++ past.mine.items ∷ []) ≤ room = omega (arith, less, count_given room before now done is, all, length-append lists (past.mine.items ∷ [])) in
    let so_far : first_lists room done ≡ lists = take_all room lists (omega (arith, more, length-append lists (past.mine.items ∷ []))) in
    let next : first_lists room (done ++ past ∷ []) ≡ lists ++ past.mine.items ∷ [] = ap (take room) (map-append list_of done (past ∷ [])) ∙ take_all room (lists ++ past.mine.items ∷ []) more in
    map-append (λ (l : Vec (Order × Reply) A). l.items) now (list ∷ [])
    ∙ ap (λ (l : AnsweredOrders). items_of_each now ++ l ∷ []) same
    ∙ ap (λ (l : List AnsweredOrders). l ++ past.mine.items ∷ []) (is ∙ ap (λ (l : List AnsweredOrders). items_of_each before ++ l) so_far)
    ∙ append_assoc (items_of_each before) lists (past.mine.items ∷ [])
    ∙ ap (λ (l : List AnsweredOrders). items_of_each before ++ l) (sym next)

-- without, it is dropped
gives_none : {A : Type 0} (room : ℕ) (before now : List (Vec (Order × Reply) A)) (done : List Past) (past : Past)
    → items_of_each now ≡ items_of_each before ++ first_lists room done → length before + room ≤ length now
    → items_of_each now ≡ items_of_each before ++ first_lists room (done ++ past ∷ [])
gives_none {A} room before now done past is full =
    let lists : List AnsweredOrders = map list_of done in
    let all : length lists ≡ length done = length-map {B = AnsweredOrders} done list_of in
    let within : room ≤ length lists = omega (arith, full, count_given room before now done is, all) in
    let same : first_lists room (done ++ past ∷ []) ≡ first_lists room done = ap (take room) (map-append list_of done (past ∷ [])) ∙ take-append-le room lists (past.mine.items ∷ []) within in
    is ∙ ap (λ (l : List AnsweredOrders). items_of_each before ++ l) (sym same)

-- so the next past's list comes behind the others as long as there is room
pub gives : {A B : Type 0} (before now next : Vec (Vec (Order × Reply) A) B) (done : List Past) (past : Past) (list : Vec (Order × Reply) A)
    → items_of_each now.items ≡ items_of_each before.items ++ first_lists (vec_capacity before - vec_len before) done → list.items ≡ past.mine.items → vec_capacity now ≡ vec_capacity before
    → (vec_len now < vec_capacity now → next.items ≡ now.items ++ list ∷ []) → (vec_capacity now ≤ vec_len now → next.items ≡ now.items)
    → items_of_each next.items ≡ items_of_each before.items ++ first_lists (vec_capacity before - vec_len before) (done ++ past ∷ [])
gives {A} {B} before now next done past list is same capacity kept dropped =
    let room : ℕ = vec_capacity before - vec_len before in
    elim (cases_lt (vec_len now) (vec_capacity now)) [
      | inl less ↦ ap (λ (l : List (Vec (Order × Reply) A)). items_of_each l) (kept less)
          ∙ gives_one room before.items now.items done past list is same (omega (arith, less, capacity, before.ok.0, before.ok.1, now.ok.0))
      | inr full ↦ ap (λ (l : List (Vec (Order × Reply) A)). items_of_each l) (dropped full)
          ∙ gives_none room before.items now.items done past is (omega (arith, full, capacity, before.ok.0, before.ok.1, now.ok.0))
    ]
