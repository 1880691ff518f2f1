-- The entries of a request that C gives.
use Rattle.std.proofs.Common.{◌≡◌, ℕ, ◌≤◌, false, List, nat_lt}
use Rattle.std.specs.Prelude.{EachIndex, slice_index}
use Rattle.std.specs.List.{list_any}
use Rattle.std.proofs.lemmas.Bool.{le-ltb}
use Rattle.std.proofs.lemmas.List.Elements.{All-from_get_or}
use Rattle.std.proofs.lemmas.List.Folds.{list_any_none}
use Rattle.arb_share.specs.Limits.{max_entry}

-- no entry is above the limit where each is within it
pub none_above : (entries : List ℕ) → EachIndex entries (λ level. slice_index entries level ≤ max_entry) → list_any (nat_lt max_entry) entries ≡ false
none_above entries low =
    list_any_none (nat_lt max_entry) entries (All-from_get_or (λ x. nat_lt max_entry x ≡ false) entries 0 (λ level within. le-ltb max_entry (slice_index entries level) (low level within)))
