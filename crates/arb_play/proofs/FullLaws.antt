-- The full orders, one index after another.
use Rattle.std.proofs.Common.{◌≡◌, ℕ, ◌+◌, ◌<◌, ◌≤◌, List, [], ◌++◌, Some, length, drop, slice_index, arith, append-nil}
use Rattle.std.specs.Prelude.{option_map, slice_get}
use Rattle.std.proofs.lemmas.Bool.Decides.{nat_tests}
use Rattle.std.proofs.lemmas.Grind.{flat_map-append}
use Rattle.std.proofs.lemmas.List.{drop_more}
use Rattle.arb_model.specs.declared.orders.Order.TheVariants.{Join}
use Rattle.arb_model.specs.declared.orders.Order.{Order}
use Rattle.arb_script.specs.declared.given.ClientOrder.{ClientOrder}
use Rattle.arb_script.specs.Printed.{full_text}
use Rattle.arb_play.specs.Scripts.{full_in}
use Rattle.arb_play.proofs.FullFromLaws.{drop_given, given_by}
use Rattle.arb_play.specs.JournalReport.{full_at, full_lines}
use Rattle.arb_script.proofs.ReportLaws.{given_is}

-- the full orders from an index on are that at the index and those after it
pub full_next : (full_from : List ℕ) (script : List ClientOrder) (index : ℕ) → index < length script
    → full_lines (full_in (slice_index full_from) index (drop index script)) ≡ full_lines (full_at full_from script index) ++ full_lines (full_in (slice_index full_from) (index + 1) (drop (index + 1) script))
full_next full_from script index within =
    let rest = full_in (slice_index full_from) (index + 1) (drop (index + 1) script) in
    let here = drop_more script index (record { client = 0; order = Join }) within in
    let parts = flat_map-append (λ (x : ClientOrder). full_text x.client x.order) (full_at full_from script index) rest in
    grind (arith, nat_tests)

-- an order before those of its client that are full
pub none_at : (full_from : List ℕ) (script : List ClientOrder) (index c : ℕ) → option_map (λ given. given.client) (slice_get script index) ≡ Some c → index < slice_index full_from c → full_lines (full_at full_from script index) ≡ []
none_at full_from script index c is before =
    let x = given_by script index c is in
    grind (arith, nat_tests, drop_given script index x.0 x.1)

-- an order at or past it
pub one_at : (full_from : List ℕ) (script : List ClientOrder) (index c : ℕ) (order : Order) → option_map (λ given. given.client) (slice_get script index) ≡ Some c → option_map (λ given. given.order) (slice_get script index) ≡ Some order
    → slice_index full_from c ≤ index → full_lines (full_at full_from script index) ≡ full_text c order
one_at full_from script index c order who what past =
    let x : ClientOrder = record { client = c; order = order } in
    grind (arith, nat_tests, append-nil, drop_given script index x (given_is (slice_get script index) c order who what))
