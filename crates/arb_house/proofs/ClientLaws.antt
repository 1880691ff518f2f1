-- The table of clients, and the count of those that haven't closed.
use Rattle.std.proofs.Common.{◌≡◌, ◌↔◌, ℕ, zero, suc, ◌+◌, ◌<◌, List, [], ◌∷◌, ◌++◌, length, set, take, get_or, Bool, true, false, cond, Option, Some, None, refl, sym, ap, ◌∙◌, arith, true≢false}
use Rattle.std.specs.Prelude.{◌==◌, IfSome, option_map, count_by, is_some, replicate, slice_get}
use Rattle.std.specs.List.{Contains, list_any}
use Rattle.std.proofs.lemmas.Bool.Decides.{nat_tests}
use Rattle.std.proofs.lemmas.Grind.{common_steps}
use Rattle.std.proofs.lemmas.List.{get_or-replicate, length-replicate, length-take, take_more, get_or_default}
use Rattle.std.proofs.lemmas.List.Folds.{position_or_len_push, Any-from_list_any, list_any-from_Any, sum_by-replicate}
use Rattle.std.proofs.lemmas.List.Sums.{passes_at_first, prefix_len-le-length, sum_by-cons}
use Rattle.std.proofs.lemmas.Option.{slice_get-get_or, get_or_from_slice_get, slice_get_past, slice_get_within}
use mathlib.Core.Bool.{not}
use Rattle.arb_model.specs.Limits.{clients}
use Rattle.arb_desk.specs.Passes.{has}
use Rattle.arb_house.specs.Clients.{HaveClosed, IsTable, index_in}

-- a search tells whether a client is listed
pub listed : (list : List ℕ) (client : ℕ) → (list_any (λ y. y == client) list ≡ true) ↔ Contains list client
listed list client = grind (arith, nat_tests, common_steps, Any-from_list_any (λ y. y == client) list, list_any-from_Any (λ y. y == client) list, get_or_default)

-- in a list with one more a client stands where it did, or else at the end if it is that one
place_later : (list : List ℕ) (x client : ℕ) → index_in (list ++ x ∷ []) client ≡ cond (is_some (index_in list client)) (index_in list client) (cond (x == client) (Some (length list)) None)
place_later list x client = grind (arith, nat_tests, common_steps, position_or_len_push (λ c. c == client), prefix_len-le-length)

-- where a client has an index, it stands there
pub place_is : (list : List ℕ) (client : ℕ) → IfSome (index_in list client) (λ k. slice_get list k ≡ Some client)
place_is list client = grind (arith, nat_tests, common_steps, passes_at_first (λ c. c == client) list client, slice_get-get_or list)

-- and a client that is listed has one
pub has_index : (list : List ℕ) (client : ℕ) → has client list ≡ true → is_some (index_in list client) ≡ true
has_index [] client listed = absurd (true≢false (sym listed))
has_index (x ∷ list) client listed = grind (arith, nat_tests, common_steps, has_index list client)

pub some_of : (o : Option ℕ) → is_some o ≡ true → (x : ℕ) × (o ≡ Some x)
some_of (Some x) some = (x, refl)
some_of None some = absurd (true≢false (sym some))

-- an index stands within the list
pub index_within : (list : List ℕ) (client k : ℕ) → index_in list client ≡ Some k → k < length list
index_within list client k is = grind (arith, common_steps, place_is list client, slice_get_within)

-- what the table has of a client is the index
pub index_read : (indexes : List (Option ℕ)) (list : List ℕ) (x client : ℕ) → IsTable indexes list → x ≡ client → x < clients → get_or indexes x None ≡ index_in list client
index_read indexes list x client table is below = get_or_from_slice_get indexes x (index_in list x) None (table x below) ∙ ap (index_in list) is

-- before all clients the table is empty
pub table_none : IsTable (replicate clients None) []
table_none client below = slice_get-get_or (replicate clients None) client None (omega (arith, length-replicate clients (let n : Option ℕ = None in n), below)) ∙ ap Some (get_or-replicate {A = Option ℕ} clients client None None below)

-- an element that was set is read back, and the others are as they were
pub slice_get-set : {A : Type 0} (xs : List A) (i j : ℕ) (y : A) → slice_get (set xs i y) j ≡ cond (i == j) (option_map (λ x. y) (slice_get xs j)) (slice_get xs j)
slice_get-set [] i j y = grind (arith, slice_get_past)
slice_get-set (x ∷ xs) zero zero y = refl
slice_get-set (x ∷ xs) zero (suc j) y = grind (arith, nat_tests)
slice_get-set (x ∷ xs) (suc i) zero y = grind (arith, nat_tests)
slice_get-set (x ∷ xs) (suc i) (suc j) y = grind (arith, nat_tests, slice_get-set xs i j y)

-- a client that has no index yet gets the next one
table_new : (indexes : List (Option ℕ)) (list : List ℕ) (x : ℕ) → IsTable indexes list → x < clients → is_some (index_in list x) ≡ false → IsTable (set indexes x (Some (length list))) (list ++ x ∷ [])
table_new indexes list x table below free client within =
    grind (arith, nat_tests, place_later list x client, table client within, slice_get-set indexes x client (Some (length list)))

-- and one that has keeps it
table_old : (indexes : List (Option ℕ)) (list : List ℕ) (x : ℕ) → IsTable indexes list → is_some (index_in list x) ≡ true → IsTable indexes (list ++ x ∷ [])
table_old indexes list x table held client within = grind (arith, nat_tests, place_later list x client, table client within)

-- the next client of a list
next_is : (list : List ℕ) (k d x : ℕ) → k < length list → d ≡ get_or list k d → x ≡ d → take (k + 1) list ≡ take k list ++ x ∷ []
next_is list k d x below is same = grind (arith, take_more list k d)

held_at : (indexes : List (Option ℕ)) (list : List ℕ) (x : ℕ) (b : Bool) → IsTable indexes list → x < clients → is_some (get_or indexes x None) ≡ b → is_some (index_in list x) ≡ b
held_at indexes list x b table below is = rw (get_or_from_slice_get indexes x (index_in list x) None (table x below)) at is

pub next_new : (indexes : List (Option ℕ)) (list : List ℕ) (k d x : ℕ) → IsTable indexes (take k list) → k < length list → d ≡ get_or list k d → x ≡ d → x < clients → is_some (get_or indexes x None) ≡ false
    → IsTable (set indexes x (Some k)) (take (k + 1) list)
next_new indexes list k d x table below is same within free =
    let new = table_new indexes (take k list) x table within (held_at indexes (take k list) x false table within free) in
    let long : length (take k list) ≡ k = omega (arith, length-take k list) in
    rw (next_is list k d x below is same) (rw long at new)

pub next_old : (indexes : List (Option ℕ)) (list : List ℕ) (k d x : ℕ) → IsTable indexes (take k list) → k < length list → d ≡ get_or list k d → x ≡ d → x < clients → is_some (get_or indexes x None) ≡ true
    → IsTable indexes (take (k + 1) list)
next_old indexes list k d x table below is same within held =
    rw (next_is list k d x below is same) (table_old indexes (take k list) x table (held_at indexes (take k list) x true table within held))

-- at first all are counted
pub all_counted : (n : ℕ) → n ≡ count_by not (replicate n false)
all_counted n = omega (arith, sum_by-replicate (λ (b : Bool). cond (not b) 1 0) n false)

-- where none is counted, each client has closed, and the other way round
pub none_counted : (list : List ℕ) (closed : List Bool) → length closed ≡ length list → (count_by not closed ≡ 0) ↔ HaveClosed (record { list = list; closed = closed })
none_counted [] [] e = ((λ none index client at. grind (arith, slice_get_within)), λ have. refl)
none_counted (x ∷ list) [] e = absurd (omega arith)
none_counted [] (b ∷ closed) e = absurd (omega arith)
none_counted (x ∷ list) (true ∷ closed) e =
    let rest = none_counted list closed (omega arith) in (
      (λ none index client at. grind (arith, common_steps, sum_by-cons, rest.0)),
      λ have. grind (arith, common_steps, sum_by-cons, rest.1 (λ index client at. have (suc index) client at)),
    )
none_counted (x ∷ list) (false ∷ closed) e = ((λ none. grind (arith, common_steps, sum_by-cons)), λ have. grind (arith, have 0 x refl))
