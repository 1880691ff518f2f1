-- The clients of a script.
use Rattle.std.proofs.Common.{◌≡◌, ◌≢◌, ℕ, ◌<◌, ◌≤◌, ◌+◌, eqb, length, get_or, set, replicate, List, [], ◌∷◌, ◌++◌, take, Bool, true, false, cond, ◌||◌, Some, refl, sym, ap, ◌∙◌, subst, arith, zero, suc}
use Rattle.std.specs.Prelude.{◌==◌, All, AllPairs, filter, not, option_map, slice_get}
use Rattle.std.specs.List.{list_any}
use Rattle.std.proofs.lemmas.Bool.Decides.{nat_tests}
use Rattle.std.proofs.lemmas.Grind.{common_steps}
use Rattle.std.proofs.lemmas.List.{append-nil, get_or-replicate, length-replicate, length-set, take_all}
use Rattle.std.proofs.lemmas.List.Elements.{All-weaker, filter-append, filter_passes}
use Rattle.std.proofs.lemmas.List.Folds.{list_any-append}
use Rattle.std.proofs.lemmas.List.Kept.{AllPairs-cons, AllPairs-filter}
use Rattle.std.proofs.lemmas.Option.{get_or_from_slice_get, gets, slice_get-get_or, slice_get_within}
use Rattle.arb_house.specs.declared.opening.OpenFault.{OpenFault}
use Rattle.arb_house.specs.declared.opening.OpenFault.TheVariants.{Twice, Memory}
use Rattle.arb_house.specs.Opening.{AllApart, RefusesToOpen}
use Rattle.arb_model.specs.Limits.{clients}
use Rattle.arb_script.specs.declared.given.ClientOrder.{ClientOrder}
use Rattle.arb_play.specs.Scripts.{clients_in}
use Rattle.arb_play.proofs.FullFromLaws.{given_by}
use Rattle.arb_script.proofs.ReportLaws.{next}

-- without a client, all are others
others : (c : ℕ) (cs : List ℕ) → All (λ d. c ≢ d) (filter (λ d. not (d == c)) cs)
others c cs =
    let is_other : ℕ → Bool = λ d. not (d == c) in
    All-weaker (λ d. is_other d ≡ true) (λ d. c ≢ d) (λ d e same. grind (arith, nat_tests)) (filter is_other cs) (filter_passes is_other cs)

-- the clients of a script are pairwise apart
pairs : (script : List ClientOrder) → AllPairs (λ c d. c ≢ d) (clients_in script)
pairs [] = λ i j d lt within. absurd (omega arith)
pairs (x ∷ xs) = AllPairs-cons (λ c d. c ≢ d) x.client _ (others x.client (clients_in xs)) (AllPairs-filter (λ c d. c ≢ d) (λ d. not (d == x.client)) (clients_in xs) (pairs xs))

-- no client is there twice
pub clients_apart : (script : List ClientOrder) → AllApart (clients_in script)
clients_apart script i j c d lt here there same =
    let all = clients_in script in
    pairs script i j c lt (slice_get_within all j d there) (get_or_from_slice_get all i c c here ∙ (same ∙ sym (get_or_from_slice_get all j d c there)))

-- whether a script names a client
abbrev pub names : (script : List ClientOrder) → (client : ℕ) → Bool
names script client = list_any (λ given. given.client == client) script

-- one order more: its client was named before, or is new
clients_more : (script : List ClientOrder) (x : ClientOrder) → clients_in (script ++ x ∷ []) ≡ cond (names script x.client) (clients_in script) (clients_in script ++ x.client ∷ [])
clients_more [] x = refl
clients_more (y ∷ ys) x =
    let is_other : ℕ → Bool = λ d. not (d == y.client) in
    let kept = filter-append is_other (clients_in ys) (x.client ∷ []) in
    grind (arith, nat_tests, append-nil, clients_more ys x)

-- whether the first n + 1 orders name a client
names_next : (script : List ClientOrder) (n : ℕ) (x : ClientOrder) → slice_get script n ≡ Some x → (c : ℕ) → names (take (n + 1) script) c ≡ (names (take n script) c || (eqb x.client c || false))
names_next script n x at c = ap (λ l. names l c) (next script n x at) ∙ list_any-append (λ given. given.client == c) (take n script) (x ∷ [])

-- the clients of the first n + 1 orders
clients_next : (script : List ClientOrder) (n : ℕ) (x : ClientOrder) → slice_get script n ≡ Some x
    → clients_in (take (n + 1) script) ≡ cond (names (take n script) x.client) (clients_in (take n script)) (clients_in (take n script) ++ x.client ∷ [])
clients_next script n x at = ap clients_in (next script n x at) ∙ clients_more (take n script) x

-- the clients of the first n orders, and which clients are marked
pub record Marked (script : List ClientOrder) (n : ℕ) (ids : List ℕ) (marks : List Bool) : Type 0 where
  pub listed : ids ≡ clients_in (take n script)
  pub size : length marks ≡ clients
  pub each : (c : ℕ) → c < clients → slice_get marks c ≡ Some (names (take n script) c)

-- before the first order
pub none_marked : (script : List ClientOrder) (ids : List ℕ) → ids ≡ [] → Marked script 0 ids (replicate clients false)
none_marked script ids none = record {
  listed = none;
  size = length-replicate clients false;
  each = λ c below. slice_get-get_or (replicate clients false) c false (omega (arith, length-replicate clients false, below))
      ∙ ap Some (get_or-replicate clients c false false below);
}

-- an order of a client that has a mark
pub marked_again : (script : List ClientOrder) (n c i : ℕ) (ids : List ℕ) (marks : List Bool) (d : Bool)
    → option_map (λ given. given.client) (slice_get script n) ≡ Some c → i ≡ c → i < clients → get_or marks i d ≡ true → Marked script n ids marks → Marked script (n + 1) ids marks
marked_again script n c i ids marks d is who below mark was =
    let x = given_by script n c is in
    let had = was.each i below in
    let more = clients_next script n x.0 x.1 in
    record {
      listed = grind (arith, gets, was.listed);
      size = was.size;
      each = λ k inside. let now = names_next script n x.0 x.1 k in grind (arith, nat_tests, gets, was.each k inside);
    }

-- an order of a client that has none
pub marked_new : (script : List ClientOrder) (n c i j : ℕ) (ids ids' : List ℕ) (marks : List Bool) (d : Bool)
    → option_map (λ given. given.client) (slice_get script n) ≡ Some c → i ≡ c → j ≡ c → i < clients → get_or marks i d ≡ false → ids' ≡ ids ++ c ∷ [] → Marked script n ids marks → Marked script (n + 1) ids' (set marks j true)
marked_new script n c i j ids ids' marks d is who also below mark one was =
    let x = given_by script n c is in
    let had = was.each i below in
    let more = clients_next script n x.0 x.1 in
    let size = length-set marks j true in
    record {
      listed = grind (arith, gets, was.listed);
      size = size ∙ was.size;
      each = λ k inside. let now = names_next script n x.0 x.1 k in grind (arith, nat_tests, common_steps, gets, was.size, was.each k inside);
    }

-- after the last order all clients of the script are there
pub all_listed : (script : List ClientOrder) (n : ℕ) (ids : List ℕ) (marks : List Bool) → length script ≤ n → Marked script n ids marks → ids ≡ clients_in script
all_listed script n ids marks over was = was.listed ∙ ap clients_in (take_all n script over)

-- without a client, another one is found as before
found_still : (a c : ℕ) (ds : List ℕ) → a ≢ c → list_any (λ d. d == c) (filter (λ d. not (d == a)) ds) ≡ list_any (λ d. d == c) ds
found_still a c [] apart = refl
found_still a c (d ∷ ds) apart = grind (arith, nat_tests, found_still a c ds apart)

-- the client of each order is among those of the script
pub each_listed : (script : List ClientOrder) (n : ℕ) (x : ClientOrder) → slice_get script n ≡ Some x → list_any (λ c. c == x.client) (clients_in script) ≡ true
each_listed [] n x at = absurd (cc at)
each_listed (y ∷ ys) zero x at = grind (arith, nat_tests)
each_listed (y ∷ ys) (suc n) x at = grind (arith, nat_tests, found_still y.client x.client (clients_in ys), each_listed ys n x at)

-- such a list is refused only for want of memory
pub only_memory : (ids house : List ℕ) (fault : OpenFault) → house ≡ ids → AllApart ids → RefusesToOpen house fault → fault ≡ Memory
only_memory ids house (Twice c) is apart first =
    let r = first.repeats in
    absurd ((subst AllApart (sym is) apart) r.earlier first.index c c r.before r.there r.here refl)
only_memory ids house Memory is apart _ = refl
