-- The full_from of clients, one after another.
use Rattle.std.proofs.Common.{◌≡◌, ℕ, ◌+◌, ◌<◌, ◌≤◌, List, ◌∷◌, Some, length, drop, get_or, set, replicate, arith}
use Rattle.std.specs.Prelude.{option_map, slice_get}
use Rattle.std.proofs.lemmas.Bool.Decides.{nat_tests}
use Rattle.std.proofs.lemmas.Grind.{common_steps}
use Rattle.std.proofs.lemmas.List.{drop_more, get_or-replicate, get_or_default}
use Rattle.std.proofs.lemmas.Option.{gets}
use Rattle.std.proofs.Math.Seq.{drop-length}
use Rattle.arb_model.specs.Limits.{clients}
use Rattle.arb_script.specs.declared.given.ClientOrder.{ClientOrder}
use Rattle.arb_play.specs.Joining.{full_from_of}
use Rattle.arb_play.specs.Scripts.{full_in}

-- before all full_from the table has zeros
pub table_begins : (full_from : List (ℕ × ℕ)) (c : ℕ) → c < clients → get_or (replicate clients 0) c 0 ≡ full_from_of c (drop (length full_from) full_from)
table_begins full_from c below = grind (arith, common_steps, get_or-replicate {A = ℕ} clients c 0 0 below, drop-length full_from)

-- the pair at k is written over those after it
pub table_more : (full_from : List (ℕ × ℕ)) (table : List ℕ) (k left c i : ℕ) (d e : ℕ × ℕ) → left ≡ k + 1 → left ≤ length full_from → i ≡ (get_or full_from k d).0 → i < length table → get_or table c 0 ≡ full_from_of c (drop left full_from)
    → get_or (set table i (get_or full_from k e).1) c 0 ≡ full_from_of c (drop k full_from)
table_more full_from table k left c i d e is most who fits was =
    let within : k < length full_from = omega (arith, is, most) in
    let more = drop_more full_from k e within in
    let same = get_or_default full_from k d e within in
    grind (arith, nat_tests, common_steps)

-- an order and what comes after it
pub drop_given : (script : List ClientOrder) (n : ℕ) (x : ClientOrder) → slice_get script n ≡ Some x → drop n script ≡ x ∷ drop (n + 1) script
drop_given script n x at = grind (arith, common_steps, gets, drop_more)

-- the order at an index, where only its client is known
pub given_by : (script : List ClientOrder) (n c : ℕ) → option_map (λ given. given.client) (slice_get script n) ≡ Some c → (x : ClientOrder) × (slice_get script n ≡ Some x) × (x.client ≡ c)
given_by script n c is = grind arith

-- an order before its client's from is not full
pub not_full : (from : ℕ → ℕ) (script : List ClientOrder) (n c : ℕ) → option_map (λ given. given.client) (slice_get script n) ≡ Some c → n < from c → full_in from n (drop n script) ≡ full_in from (n + 1) (drop (n + 1) script)
not_full from script n c is before =
    let x = given_by script n c is in
    let here = drop_given script n x.0 x.1 in
    grind (arith, nat_tests)

-- an order at or past its client's from is full
pub is_full : (from : ℕ → ℕ) (script : List ClientOrder) (n : ℕ) (x : ClientOrder) → slice_get script n ≡ Some x → from x.client ≤ n → full_in from n (drop n script) ≡ x ∷ full_in from (n + 1) (drop (n + 1) script)
is_full from script n x at past = grind (arith, nat_tests, drop_given script n x at)
