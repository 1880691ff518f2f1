-- A TOML value beside the tree that it stands for.
use Rattle.std.proofs.Common.{◌≡◌, ℕ, ◌+◌, ◌<◌, Bool, List, [], ◌∷◌, ◌++◌, length, get_or, take, Option, Some, String, Global, map, refl, arith, string_bytes}
use Rattle.std.specs.List.{cons_option, filter_map, list_all, list_any}
use Rattle.std.specs.Map.{keys_of}
use Rattle.std.proofs.lemmas.Grind.{common_steps}
use Rattle.std.proofs.lemmas.List.{map_more}
use Rattle.std.proofs.lemmas.List.Elements.{filter_map-append}
use Rattle.toml.specs.Data.{Data, Items, Members, as_array, as_table}
use Rattle.toml.specs.View.{items_of, items_view, members_view, view}
use Rattle.toml.specs.declared.value.Value.{Value}
use Rattle.arb_config.specs.Conditions.{is_array_of}
use Rattle.arb_config.specs.Tree.{elements_in, elements_of, keys_in, members_in}

elements_of-items_of : (elements : List Data) → elements_of (items_of elements) ≡ elements
elements_of-items_of [] = refl
elements_of-items_of (d ∷ ds) = rw (elements_of-items_of ds)

-- the elements of an array are what its values stand for
pub elements_of-view : (values : List Value) → elements_of (items_view values) ≡ map view values
elements_of-view values = elements_of-items_of (map view values)

-- what `as_array` and `as_table` find
pub elements_in-array : (d : Data) (items : Items) → Some items ≡ as_array d → elements_in (Some d) ≡ elements_of items
elements_in-array d items h = grind (arith, common_steps)

pub members_in-table : (d : Data) (ms : Members) → Some ms ≡ as_table d → members_in d ≡ ms
members_in-table d ms h = grind (arith, common_steps)

-- one more value
pub filter_map-more : {Y : Type 0} (h : Data → Option Y) (values : List Value) (i : ℕ) (value : Value) → i < length values → value ≡ get_or values i value
    → filter_map h (map view (take (i + 1) values)) ≡ filter_map h (map view (take i values)) ++ cons_option (h (view value)) []
filter_map-more h values i value within is =
    rw (map_more view values i value within, ← is, filter_map-append h (map view (take i values)) (view value ∷ []))

-- a test of what values stand for
pub list_any-view : (test : Data → Bool) (values : List Value) → list_any test (map view values) ≡ list_any (λ value. test (view value)) values
list_any-view test [] = refl
list_any-view test (v ∷ vs) = rw (list_any-view test vs)

-- the keys of a table, and a test of them
pub list_any-keys : (test : List ℕ → Bool) (entries : List (String Global × Value)) → list_any test (keys_in (members_view entries)) ≡ list_any (λ key. test (string_bytes key)) (keys_of entries)
list_any-keys test [] = refl
list_any-keys test (e ∷ es) = rw (list_any-keys test es)

-- an array of elements that pass a test
pub is_array_of-found : (test : Data → Bool) (d : Data) (items : Items) → Some items ≡ as_array d → is_array_of test d ≡ list_all test (elements_of items)
is_array_of-found test d items h = grind (arith, common_steps)
