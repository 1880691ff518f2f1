-- The report, order by order.
use Rattle.std.proofs.Common.{◌≡◌, ℕ, ◌+◌, List, [], ◌∷◌, ◌++◌, Option, Some, length, length-take, take, drop, ap, ◌∙◌, arith, append_assoc, append-nil, take-append-drop}
use Rattle.std.specs.Prelude.{option_map, slice_get}
use Rattle.std.specs.List.{concat}
use Rattle.std.proofs.lemmas.List.Folds.{concat-append}
use Rattle.std.proofs.lemmas.List.Sums.{fold-append}
use Rattle.std.proofs.lemmas.Option.{gets, slice_get_within}
use Rattle.std.proofs.lemmas.Grind.{common_steps}
use Rattle.arb_config.specs.Machine.{Machine}
use Rattle.arb_model.specs.Lists.{each_at}
use Rattle.arb_model.specs.Standing.{Standing, opening}
use Rattle.arb_model.specs.declared.orders.Order.{Order}
use Rattle.arb_script.specs.declared.given.ClientOrder.{ClientOrder}
use Rattle.arb_script.specs.Report.{order_line, order_lines, standing_after, standing_next}

-- one order more of a script
pub next : (script : List ClientOrder) (n : ℕ) (x : ClientOrder) → slice_get script n ≡ Some x → take (n + 1) script ≡ take n script ++ x ∷ []
next script n x at = grind (arith, common_steps, gets)

-- the line of the order at a place of a script, after those before it
abbrev pub line_in : Machine → List ClientOrder → ℕ → ClientOrder → List ℕ
line_in m script place given = order_line m (standing_after m (take place script)) given

-- the lines of the orders before a place
abbrev pub lines_before : Machine → List ClientOrder → ℕ → List ℕ
lines_before m script place = concat (each_at (line_in m script) 0 (take place script))

-- a function of places and elements, at each of two lists
each_at-append : {A B : Type 0} (f : ℕ → A → B) (k : ℕ) (xs ys : List A) → each_at f k (xs ++ ys) ≡ each_at f k xs ++ each_at f (k + length xs) ys
each_at-append f k [] ys = grind arith
each_at-append f k (x ∷ xs) ys = grind (arith, each_at-append f (k + 1) xs ys)

-- a client's order is what stands at its place
pub given_is : (found : Option ClientOrder) (client : ℕ) (order : Order) → option_map (λ given. given.client) found ≡ Some client → option_map (λ given. given.order) found ≡ Some order → found ≡ Some (record { client = client; order = order })
given_is found client order p q = grind arith

-- the standing after one order more
pub standing_more : (m : Machine) (script : List ClientOrder) (place : ℕ) (given : ClientOrder) → slice_get script place ≡ Some given → standing_after m (take (place + 1) script) ≡ standing_next m (standing_after m (take place script)) given
standing_more m script place given is =
    ap (standing_after m) (next script place given is) ∙ fold-append (standing_next m) (opening m) (take place script) (given ∷ [])

-- one line more
pub lines_more : (m : Machine) (script : List ClientOrder) (place : ℕ) (given : ClientOrder) → slice_get script place ≡ Some given → lines_before m script (place + 1) ≡ lines_before m script place ++ line_in m script place given
lines_more m script place given is =
    let line = line_in m script in
    let front = take place script in
    let n : 0 + length front ≡ place = omega (arith, slice_get_within script place given is, length-take place script) in
    ap (λ l. concat (each_at line 0 l)) (next script place given is)
    ∙ (ap concat (each_at-append line 0 front (given ∷ []))
    ∙ (concat-append (each_at line 0 front) (line (0 + length front) given ∷ [])
    ∙ grind (arith, append-nil)))

-- an order's line follows those before it
pub line_next : (m k : Machine) (script : List ClientOrder) (index client : ℕ) (order : Order) (standing : Standing) (out line : List ℕ)
    → option_map (λ given. given.client) (slice_get script index) ≡ Some client → option_map (λ given. given.order) (slice_get script index) ≡ Some order → k ≡ m → standing ≡ standing_after m (take index script)
    → line ≡ order_line k standing (record { client = client; order = order }) → out ++ lines_before m script (index + 1) ≡ (out ++ lines_before m script index) ++ line
line_next m k script index client order standing out line who what machine before is =
    grind (arith, append_assoc, lines_more m script index (record { client = client; order = order }) (given_is (slice_get script index) client order who what))

-- all lines begin with those before a place
pub lines_parts : (m : Machine) (script : List ClientOrder) (place : ℕ) → (rest : List ℕ) × (order_lines m script ≡ lines_before m script place ++ rest)
lines_parts m script place =
    let line = line_in m script in
    let front = take place script in
    let later = each_at line (0 + length front) (drop place script) in
    (concat later, cc (take-append-drop place script, each_at-append line 0 front (drop place script), concat-append (each_at line 0 front) later))
