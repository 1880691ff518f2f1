-- The requests standing, when one application's request or cap changes.
use Rattle.std.proofs.Common.{◌≡◌, ℕ, ◌<◌, List, length, get_or, set, arith, sym, ◌∙◌, Option, None}
use Rattle.std.specs.Prelude.{option_map, slice_index_or}
use Rattle.std.proofs.lemmas.Bool.Decides.{nat_tests}
use Rattle.std.proofs.lemmas.Grind.{common_steps}
use Rattle.std.proofs.lemmas.List.{length-set, same_lists}
use Rattle.arb_model.specs.Standing.{cut_at, requests_standing}
use Rattle.arb_model.proofs.ListLaws.{get_or-each_at, length-each_at}

-- what stands of the request at a place
stands_at : (requests : List (Option (List ℕ))) (caps : List (Option ℕ)) (k : ℕ) (d : Option (List ℕ)) → k < length requests → get_or (requests_standing requests caps) k d ≡ option_map (cut_at (slice_index_or caps k None)) (get_or requests k d)
stands_at requests caps k d less = get_or-each_at (λ app request. option_map (cut_at (slice_index_or caps app None)) request) requests k d d less

-- where the request and the cap of one application change, what stands changes at its place alone
pub standing-set : (requests : List (Option (List ℕ))) (caps : List (Option ℕ)) (app : ℕ) (request : Option (List ℕ)) (cap : Option ℕ) → length requests ≡ length caps → app < length requests → set (requests_standing requests caps) app (option_map (cut_at cap) request) ≡ requests_standing (set requests app request) (set caps app cap)
standing-set requests caps app request cap same within =
    same_lists _ _ (length-set (requests_standing requests caps) app _ ∙ long requests caps ∙ sym (long (set requests app request) (set caps app cap) ∙ length-set requests app request)) (λ k d less. at k d (omega (arith, less, length-set (requests_standing requests caps) app (option_map (cut_at cap) request), long requests caps)))
  where
    long : (xs : List (Option (List ℕ))) (ys : List (Option ℕ)) → length (requests_standing xs ys) ≡ length xs
    long xs ys = length-each_at (λ app request. option_map (cut_at (slice_index_or ys app None)) request) 0 xs

    at : (k : ℕ) (d : Option (List ℕ)) → k < length requests → get_or (set (requests_standing requests caps) app (option_map (cut_at cap) request)) k d ≡ get_or (requests_standing (set requests app request) (set caps app cap)) k d
    at k d less =
        let inside : k < length (set requests app request) = omega (arith, less, length-set requests app request) in
        let now = stands_at (set requests app request) (set caps app cap) k d inside in
        grind (arith, nat_tests, common_steps, stands_at requests caps k d less, long requests caps)
