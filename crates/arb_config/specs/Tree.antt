-- Words on the tree of a TOML document: the elements of an array, the keys of a table, and numbers in a range.
use Rattle.std.specs.Prelude.{ℕ, ℤ, pos, negsuc, Bool, false, ◌&&◌, nat_le, List, [], ◌∷◌, Option, Some, None, if◌then◌else◌}
use Rattle.toml.specs.Data.{Data, integer, array, table, Items, no_items, item, Members, no_members, member, get_member}

-- the elements of an array
abbrev pub elements_of : Items → List Data
elements_of no_items = []
elements_of (item element rest) = element ∷ elements_of rest

-- the keys of a table
abbrev pub keys_in : Members → List (List ℕ)
keys_in no_members = []
keys_in (member key value rest) = key ∷ keys_in rest

-- the members of a value that is a table; any other value has none
abbrev pub members_in : Data → Members
members_in (table members) = members
members_in _ = no_members

-- the elements of a value that is an array; any other value and a missing one have none
abbrev pub elements_in : Option Data → List Data
elements_in (Some (array items)) = elements_of items
elements_in _ = []

-- the elements of the array at a key of a table
abbrev pub elements_at : List ℕ → Members → List Data
elements_at key members = elements_in (get_member key members)

-- the number is from low to high
abbrev pub is_within : ℕ → ℕ → ℤ → Bool
is_within low high (pos n) = nat_le low n && nat_le n high
is_within low high (negsuc n) = false

-- the number that a value is, where it is an integer from low to high
abbrev pub number_within : ℕ → ℕ → Data → Option ℕ
number_within low high (integer (pos n)) = if is_within low high (pos n) then Some n else None
number_within low high _ = None
