-- An arbiter that is renewed where it takes no further order.
use Rattle.std.proofs.Common.{◌≡◌, ◌∙◌, ℕ, ◌+◌, ◌<◌, List, [], ◌∷◌, Bool, true, false, refl, arith, ap, sym, length, drop, slice_index}
use Rattle.std.specs.Prelude.{sum, nat_le, if◌then◌else◌}
use Rattle.std.proofs.lemmas.List.Folds.{sum_by-replicate}
use Rattle.std.proofs.lemmas.List.{drop_all, ext_get_or}
use Rattle.std.proofs.lemmas.List.Sums.{sum_by-cons, sum_by-drop_more}
use Rattle.arb_model.specs.declared.orders.Order.{Order}
use Rattle.arb_model.specs.Arbiter.{Arbiter}
use Rattle.arb_model.specs.Lists.{each_at}
use Rattle.arb_model.specs.Renewal.{renewed}
use Rattle.arb_model.proofs.ListLaws.{get_or-each_at, length-each_at}
use Rattle.arb_model.proofs.RenewalLaws.{renewal_is_unseen}
use Rattle.arb_c.specs.Calls.{renewed_one, reply_of, with_room}
use Rattle.arb_c.specs.Holding.{Holding, sums_of}

-- what holds of a holding and of a renewed one holds of one that has room
either : (P : Holding → Type 0) (h : Holding) (b : Bool) → P (renewed_one h) → P h → P (if b then renewed_one h else h)
either P h true new same = new
either P h false new same = same

-- an order is answered the same
pub same_reply : (h : Holding) (client : ℕ) (order : Order) → reply_of (with_room h).arbiter client order ≡ reply_of h.arbiter client order
same_reply h client order =
    either (λ x. reply_of x.arbiter client order ≡ reply_of h.arbiter client order) h (nat_le h.arbiter.machine.orders (sum h.arbiter.standing.counts)) (renewal_is_unseen h.arbiter.machine h.arbiter.standing client order).0 refl

-- the sums of two lists add up to those of both
sums_from : (counts : List ℕ) (k : ℕ) (earlier : List ℕ) → k + length earlier ≡ length counts → sum (each_at (λ client count. count + slice_index counts client) k earlier) ≡ sum earlier + sum (drop k counts)
sums_from counts k [] long = sym (ap (λ (l : List ℕ). 0 + sum l) (drop_all k counts (omega (arith, long))))
sums_from counts k (x ∷ xs) long =
    omega (
      arith,
      sum_by-cons (λ x. x) (x + slice_index counts k) (each_at (λ client count. count + slice_index counts client) (k + 1) xs),
      sum_by-cons (λ x. x) x xs,
      sum_by-drop_more (λ x. x) counts k 0 (omega (arith, long)),
      sums_from counts (k + 1) xs (omega (arith, long)),
    )

pub sums_add : (earlier counts : List ℕ) → length earlier ≡ length counts → sum (sums_of earlier counts) ≡ sum earlier + sum counts
sums_add earlier counts long = sums_from counts 0 earlier (omega (arith, long))

-- a list that has each sum is the sums
pub sums_are : (earlier counts new : List ℕ) → length new ≡ length earlier → ((k : ℕ) → k < length earlier → slice_index new k ≡ slice_index earlier k + slice_index counts k) → new ≡ sums_of earlier counts
sums_are earlier counts new long each =
    let f : ℕ → ℕ → ℕ = λ client count. count + slice_index counts client in
    ext_get_or 0 new (each_at f 0 earlier) (long ∙ sym (length-each_at f 0 earlier))
    (λ k less. let within : k < length earlier = omega (arith, less, long) in each k within ∙ sym (get_or-each_at f earlier k 0 0 within))

-- after a renewal no order is counted
pub none_counted : (a : Arbiter) → sum (renewed a).standing.counts ≡ 0
none_counted a = sum_by-replicate (λ x. x) 513 0

-- the limit stays
pub same_limit : (h : Holding) → (with_room h).limit ≡ h.limit
same_limit h = either (λ x. x.limit ≡ h.limit) h (nat_le h.arbiter.machine.orders (sum h.arbiter.standing.counts)) refl refl
