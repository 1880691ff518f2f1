-- The passes and clients that are made one after another.
use Rattle.std.proofs.Common.{◌≡◌, ◌≢◌, ℕ, zero, suc, ◌+◌, ◌<◌, List, [], ◌∷◌, ◌++◌, length, map, take, get_or, Bool, true, false, ◌||◌, eqb, Some, refl, sym, ap, ◌∙◌, true≢false, arith, ⊎_elim}
use Rattle.std.specs.Prelude.{replicate, slice_get}
use Rattle.std.proofs.lemmas.List.{get_or-replicate, length-replicate, map_more}
use Rattle.std.proofs.lemmas.Option.{gets}
use Rattle.std.proofs.lemmas.Bool.{false_from_ne_true}
use Rattle.std.proofs.lemmas.Bool.Decides.{eqb_tells, nat_tests}
use Rattle.std.proofs.lemmas.Grind.{common_steps}
use Rattle.arb_desk.specs.Passes.{QueueId, has}
use Rattle.arb_client.specs.Sides.{Side, fresh}
use Rattle.arb_house.specs.Clients.{ListsAll}
use Rattle.arb_house.specs.Opening.{AllApart}
use Rattle.arb_house.specs.Serving.{Marked}

-- the passes that were made are those of the first clients
pub record IsMadeFrom (k : ℕ) (clients : List ℕ) (client : ℕ) : Type 0 where
  pub index : ℕ
  pub early : index < k
  pub here : slice_get clients index ≡ Some client

abbrev pub MadeFrom : ℕ → List ℕ → List ℕ → Type 0
MadeFrom k clients made = (client : ℕ) → has client made ≡ true → IsMadeFrom k clients client

-- none was made yet
pub made_none : (clients : List ℕ) → MadeFrom 0 clients []
made_none clients client e = absurd (true≢false (sym e))

-- so the next one has none
pub made_new : (k : ℕ) (clients : List ℕ) (made : List ℕ) (d : ℕ) → AllApart clients → MadeFrom k clients made → slice_get clients k ≡ Some d → has d made ≡ false
made_new k clients made d apart from here = false_from_ne_true (has d made) (λ e. let f = from d e in apart f.index k d d f.early f.here here refl)

-- one pass more
pub made_more : (k : ℕ) (clients : List ℕ) (made : List ℕ) (d : ℕ) → MadeFrom k clients made → slice_get clients k ≡ Some d → MadeFrom (k + 1) clients (d ∷ made)
made_more k clients made d from here c e =
    ⊎_elim
    (λ (t : (eqb d c ≡ true) × (d ≡ c)). record { index = k; early = omega arith; here = here ∙ ap Some t.1 })
    (λ (t : (eqb d c ≡ false) × (d ≢ c)). let f = from c (sym (ap (λ b. b || has c made) t.0) ∙ e) in record { index = f.index; early = (let lt = f.early in omega arith); here = f.here })
    (eqb_tells d c)

-- one client more
pub fresh_more : (queue : QueueId) (k : ℕ) (clients : List ℕ) (d : ℕ) (sides : List Side) → k < length clients → sides ≡ map (fresh queue) (take k clients)
    → sides ++ fresh queue (get_or clients k d) ∷ [] ≡ map (fresh queue) (take (k + 1) clients)
fresh_more queue k clients d sides below is = ap (λ l. l ++ fresh queue (get_or clients k d) ∷ []) is ∙ sym (map_more (fresh queue) clients k d below)

-- where no flag is set, no client is marked
never : (n i : ℕ) → slice_get (replicate n false) i ≡ Some true → ⊥
never n i e = grind (arith, gets, length-replicate, get_or-replicate)

pub none_marked : (clients : List ℕ) (n : ℕ) (closed : List Bool) → closed ≡ replicate n false → Marked clients closed []
none_marked clients n closed is i c here shut = absurd (never n i (ap (λ (l : List Bool). slice_get l i) (sym is) ∙ shut))

-- who stands in a list is listed
has_at : (clients : List ℕ) (i client : ℕ) → slice_get clients i ≡ Some client → has client clients ≡ true
has_at [] i client here = absurd (cc here)
has_at (x ∷ clients) zero client here = grind (arith, nat_tests, common_steps)
has_at (x ∷ clients) (suc i) client here = grind (arith, nat_tests, common_steps, has_at clients i client)

-- so each client that has a pass is
pub lists_made : (k : ℕ) (clients made : List ℕ) → MadeFrom k clients made → ListsAll clients made
lists_made k clients made from client has_pass = let f = from client has_pass in has_at clients f.index client f.here
