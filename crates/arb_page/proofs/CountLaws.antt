-- Word 0 counts the orders, below the limit.
use Rattle.std.proofs.Common.{◌≡◌, ◌≢◌, ℕ, ◌+◌, ◌<◌, ◌++◌, ◌∷◌, [], sym, arith}
use Rattle.arb_config.specs.Limits.{max_orders}
use Rattle.arb_config.specs.Machine.{IsMachine, Machine}
use Rattle.arb_model.specs.declared.orders.Entry.{Entry}
use Rattle.arb_model.specs.declared.orders.Event.{Event}
use Rattle.arb_model.specs.declared.orders.Event.TheVariants.{Entered, Posted}
use Rattle.arb_model.specs.Layout.{word_count}
use Rattle.arb_model.specs.History.{History, IsLegal, MayFollow}
use Rattle.arb_model.specs.Reading.{reading}
use Rattle.arb_page.specs.Seen.{Observer}
use Rattle.arb_model.proofs.EntryLaws.{room_to_enter}
use Rattle.arb_model.proofs.ReadingLaws.{post_of_word, reading_entered, reading_orders, reading_other, reading_posted}

-- before an order that may follow, fewer than the most that any machine allows were entered
pub has_room : (m : Machine) (inside o : Observer) (e : Event) (x : Entry) (n : ℕ) → inside ≡ o → e ≡ Entered x → IsMachine m → IsLegal m inside.seen → n ≡ reading inside.seen 0 → MayFollow m o.seen e → n < max_orders
has_room m inside o e x n is entry machine legal count may =
    omega (arith, room_to_enter m inside.seen x machine legal (rw (← is, entry) at may), reading_orders inside.seen, machine.few_orders, count)

-- an order is counted
pub counts_entry : (h : History) (e : Event) (x : Entry) (n : ℕ) → e ≡ Entered x → n ≡ reading h 0 → n + 1 ≡ reading (h ++ e ∷ []) 0
counts_entry h e x n is count = cc (reading_entered h x)

-- what a post that may follow makes of its word, and of the count
pub record IsPost (h : History) (w value : ℕ) : Type 0 where
  pub word : w < word_count
  pub reads : value ≡ reading (h ++ Posted w value ∷ []) w
  pub count : reading (h ++ Posted w value ∷ []) 0 ≡ reading h 0

pub is_post : (m : Machine) (inside o : Observer) (w value : ℕ) → inside ≡ o → IsMachine m → IsLegal m inside.seen → MayFollow m o.seen (Posted w value) → IsPost inside.seen w value
is_post m inside o w value is machine legal may =
    let within = post_of_word m inside.seen w value machine legal (rw (← is) at may) in
    let apart : w ≢ 0 = omega (arith, within.0) in
    record { word = within.1; reads = sym (reading_posted inside.seen w value apart); count = reading_other inside.seen (Posted w value) 0 apart }
