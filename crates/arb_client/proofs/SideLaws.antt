-- What a client keeps over its steps.
use Rattle.std.proofs.Common.{◌≡◌, ◌⊎◌, ℕ, zero, suc, ◌+◌, ◌<◌, ◌≤◌, List, [], ◌∷◌, ◌++◌, length, get_or, false, Some, refl, sym, ap, ◌∙◌, subst, arith, append_assoc, eq-eqb, inl, inr}
use Rattle.std.specs.Prelude.{slice_get}
use Rattle.std.specs.List.{remove}
use Rattle.std.proofs.lemmas.Bool.Decides.{nat_tests}
use Rattle.std.proofs.lemmas.Grind.{common_steps}
use Rattle.std.proofs.lemmas.List.{map-append}
use Rattle.std.proofs.lemmas.List.Sums.{sum_by-append}
use mathlib.Core.List.{IsPrefix}
use Rattle.arb_model.specs.declared.orders.Order.{Order}
use Rattle.arb_model.specs.declared.orders.Reply.{Reply}
use Rattle.arb_config.specs.Machine.{IsMachine, Machine}
use Rattle.arb_model.specs.declared.orders.Entry.{Entry}
use Rattle.arb_model.specs.declared.orders.Event.{Event}
use Rattle.arb_model.specs.declared.orders.Event.TheVariants.{Entered, Posted}
use Rattle.arb_model.specs.History.{History, IsLegal, count_of, entries_of, is_entry, is_entry_of, orders_in}
use Rattle.arb_model.specs.HistoryLaws.{WasEntered}
use Rattle.arb_model.specs.Lists.{one_if}
use Rattle.arb_model.proofs.CountLaws.{counts_cons}
use Rattle.arb_model.proofs.EntryLaws.{numbers_entries}
use Rattle.arb_model.proofs.JournalLaws.{entries_stay, orders_add, were_entered}
use Rattle.arb_model.proofs.SettlingLaws.{orders_within}
use Rattle.arb_desk.specs.Answers.{IsFullPast}
use Rattle.arb_desk.specs.declared.message.Message.{Message}
use Rattle.arb_desk.specs.Messages.{is_closed}
use Rattle.arb_client.specs.declared.client.OpenOrder.{OpenOrder}
use Rattle.arb_client.specs.Sides.{GainsRoom, LooksOn, Side, SeesOn, StandIn, message, own_entry, puts_of}

pub prefix_trans : (a b c : History) → IsPrefix a b → IsPrefix b c → IsPrefix a c
prefix_trans a b c p q = (p.0 ++ q.0, rw (← q.1, ← p.1, append_assoc a p.0 q.0))

-- answered orders that stand in a history stand in each that goes on from it
pub stand_on : (id : ℕ) (mine : List (Order × Reply)) (seen later : History) → IsPrefix seen later → StandIn id mine seen → StandIn id mine later
stand_on id mine seen later p s i x at = (let was = s i x at in was.0, entries_stay seen later (s i x at).0 (own_entry id i x.0 x.1) p (s i x at).1)

-- a client's orders of one history and of what follows add up
counts_add : (h more : History) (client : ℕ) → count_of (h ++ more) client ≡ count_of h client + count_of more client
counts_add h more client = sum_by-append (λ (e : Event). one_if (is_entry_of client e)) h more

-- they are no more than all orders
counts_most : (h : History) (client : ℕ) → orders_in h ≡ 0 → count_of h client ≡ 0
counts_most [] client none = refl
counts_most (Entered e ∷ h) client none = absurd (omega (arith, counts_cons is_entry (Entered e) h, none))
counts_most (Posted w value ∷ h) client none = counts_most h client none

-- a history that is full past a client's entries stays so
pub full_within : (m : Machine) (seen later : History) (client number : ℕ) → orders_in later ≤ m.orders → IsPrefix seen later → IsFullPast m seen client number → IsFullPast m later client number
full_within m seen later client number most p full =
    let orders : orders_in later ≡ orders_in seen + orders_in p.0 = ap orders_in (sym p.1) ∙ orders_add seen p.0 in
    let counts : count_of later client ≡ count_of seen client + count_of p.0 client = ap (λ (l : History). count_of l client) (sym p.1) ∙ counts_add seen p.0 client in
    let none : orders_in p.0 ≡ 0 = omega (arith, orders, most, full.limit) in
    record { limit = omega (arith, orders, none, full.limit); count = omega (arith, counts, counts_most p.0 client none, full.count) }

pub full_on : (m : Machine) (seen later : History) (client number : ℕ) → IsMachine m → IsLegal m later → IsPrefix seen later → IsFullPast m seen client number → IsFullPast m later client number
full_on m seen later client number machine legal p full =
    full_within m seen later client number (orders_within m later machine legal) p full

-- an entry of a client has a lower number than the client has entries
pub number_below : (m : Machine) (h : History) (place : ℕ) (e : Entry) → IsMachine m → IsLegal m h → slice_get (entries_of h) place ≡ Some e → e.number < count_of h e.client
number_below m h place e machine legal at =
    let was : WasEntered h place e = were_entered h place e at in
    let number : e.number ≡ count_of was.before e.client = numbers_entries m was.before was.rest e machine (subst (IsLegal m) (sym was.is) legal) in
    let all : count_of h e.client ≡ count_of was.before e.client + count_of (Entered e ∷ was.rest) e.client = ap (λ (l : History). count_of l e.client) (sym was.is) ∙ counts_add was.before (Entered e ∷ was.rest) e.client in
    let one : one_if (is_entry_of e.client (Entered e)) ≡ 1 = ap one_if (eq-eqb e.client e.client refl) in
    omega (arith, number, all, counts_cons (is_entry_of e.client) (Entered e) was.rest, one)

-- once a history is full past a client's entries, no later one has an entry of that number
pub not_entered : (m : Machine) (seen later : History) (client number : ℕ) (order : Order) (reply : Reply) (place : ℕ) → IsMachine m → IsLegal m later → IsPrefix seen later
    → slice_get (entries_of later) place ≡ Some (own_entry client number order reply) → IsFullPast m seen client number → ⊥
not_entered m seen later client number order reply place machine legal p at full =
    let more : number < count_of later client = number_below m later place (own_entry client number order reply) machine legal at in
    let same : count_of later client ≡ number = (full_on m seen later client number machine legal p full).count in
    omega (arith, more, same)

-- the i-th of a list with one more is among the first or is the last
slice_get_snoc : {A : Type 0} (xs : List A) (y : A) (i : ℕ) (x : A) → slice_get (xs ++ y ∷ []) i ≡ Some x → (slice_get xs i ≡ Some x) ⊎ ((i ≡ length xs) × (y ≡ x))
slice_get_snoc [] y zero x e = inr (refl, cc e)
slice_get_snoc [] y (suc i) x e = absurd (cc e)
slice_get_snoc (z ∷ xs) y zero x e = inl e
slice_get_snoc (z ∷ xs) y (suc i) x e = grind (arith, slice_get_snoc xs y i x)

-- one answered order more
pub stand_snoc : (id : ℕ) (mine : List (Order × Reply)) (seen : History) (o : Order) (r : Reply) (place : ℕ) → StandIn id mine seen → slice_get (entries_of seen) place ≡ Some (own_entry id (length mine) o r) → StandIn id (mine ++ (o, r) ∷ []) seen
stand_snoc id mine seen o r place s at i x e = grind (arith, common_steps, s i x, slice_get_snoc mine (o, r) i x)

-- the oldest open order is answered
pub puts_answered : (id : ℕ) (mine : List (Order × Reply)) (o : OpenOrder) (r : Reply) (out : List OpenOrder) → puts_of id (mine ++ (o.order, r) ∷ []) out ≡ puts_of id mine (o ∷ out)
puts_answered id mine o r out = simp (map-append, append_assoc)

-- one open order more
pub puts_posted : (id : ℕ) (mine : List (Order × Reply)) (out : List OpenOrder) (o : OpenOrder) → puts_of id mine (out ++ o ∷ []) ≡ puts_of id mine out ++ message id o.order ∷ []
puts_posted id mine out o = simp (map-append, append_assoc)

-- a list is its first item and the rest
pub first_removed : (xs : List OpenOrder) (x : OpenOrder) → 0 < length xs → x ≡ get_or xs 0 x → xs ≡ x ∷ remove xs 0
first_removed xs x some is = grind (arith, common_steps)

-- an order doesn't close its client
pub unclosed-snoc : (ms : List Message) (id : ℕ) (order : Order) → is_closed ms ≡ false → is_closed (ms ++ message id order ∷ []) ≡ false
unclosed-snoc [] id order h = refl
unclosed-snoc (m ∷ ms) id order h = grind (arith, nat_tests, common_steps, unclosed-snoc ms id order)

-- who looks for the server's end, and then sees on, has looked for it and seen on
pub looks_on_trans : (a b c d : Side) → LooksOn a b → c ≡ record b { ended = c.ended } → SeesOn c d → LooksOn a d
looks_on_trans a b c d p looked q = grind (arith, common_steps, prefix_trans a.seen b.seen d.seen)

-- and who has got more room, and then gets more, has got more
pub gains_room_trans : (a b c : Side) → GainsRoom a b → GainsRoom b c → GainsRoom a c
gains_room_trans a b c p q = grind (arith, common_steps, prefix_trans a.seen b.seen c.seen)
