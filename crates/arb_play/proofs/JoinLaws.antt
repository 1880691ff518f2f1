-- What all threads share.
use Rattle.std.proofs.Common.{◌≡◌, ℕ, Option, List, [], ◌∷◌, ◌++◌, map, refl, ap, subst, arith, append-nil, append_assoc}
use Rattle.std.specs.Prelude.{All, IfOk, IfSome, MatchOption, Result, Ok, Err, is_ok, if◌then◌else◌}
use Rattle.std.specs.Result.{result_ok}
use Rattle.std.proofs.lemmas.Grind.{common_steps}
use Rattle.std.proofs.lemmas.List.{map_push}
use Rattle.std.proofs.lemmas.List.Elements.{All-head, All-map, All-push}
use Rattle.arb_desk.specs.Passes.{QueueId}
use Rattle.arb_client.specs.Sides.{fresh}
use Rattle.arb_play.specs.Joining.{earlier_of}
use Rattle.arb_play.specs.Performing.{IsFresh}

-- the first of a list has what all have
pub all_first : {X : Type 0} (P : X → Type 0) (all : List X) (x : X) (rest : List X) → all ≡ x ∷ rest → All P all → P x
all_first P all x rest is every = All-head P x rest (subst (All P) is every)

-- clients that were just opened are fresh, and keep their numbers
pub all_fresh : (queue : QueueId) (clients : List ℕ) → All (IsFresh queue) (map (fresh queue) clients)
all_fresh queue clients = All-map (IsFresh queue) (fresh queue) clients (λ k d below. (refl, refl, refl))

pub fresh_ids : (queue : QueueId) (clients : List ℕ) → map (λ side. side.id) (map (fresh queue) clients) ≡ clients
fresh_ids queue [] = refl
fresh_ids queue (c ∷ cs) = ap (λ l. c ∷ l) (fresh_ids queue cs)

-- the lesser of two orders is one of them
pub earlier_either : (P : ℕ → Type 0) (a b : Option ℕ) → IfSome a P → IfSome b P → IfSome (earlier_of a b) P
earlier_either P a b p q = grind arith

-- what holds of the value of a result holds of what is kept of it
pub ok_some : {T E : Type 0} (P Q : T → Type 0) (r : Result T E) (o : Option T) → ((x : T) → P x → Q x) → IfOk r P → o ≡ result_ok r → IfSome o Q
ok_some P Q r o weaker h is = grind arith

-- the value of a result, where it is kept
pub kept_one : {T E : Type 0} (P Q : T → Type 0) (r : Result T E) (o : Option T) → IfOk r P → o ≡ result_ok r → MatchOption o ⊥ Q → (x : T) × P x × Q x
kept_one P Q r o p is q = grind arith

-- the clients whose threads are started, and those that are left, are all of them
pub one_started : {X Y : Type 0} (f : X → ℕ) (g : Y → ℕ) (had had' : List X) (left rest : List Y) (x : X) (y : Y) (all : List ℕ)
    → had' ≡ had ++ x ∷ [] → left ≡ y ∷ rest → f x ≡ g y → map f had ++ map g left ≡ all → map f had' ++ map g rest ≡ all
one_started f g had had' left rest x y all is next same was = grind (arith, common_steps, map_push, append_assoc)

-- where no client is left, those whose threads are started are all
pub no_more : {Y : Type 0} (g : Y → ℕ) (had all : List ℕ) (left : List Y) → left ≡ [] → had ++ map g left ≡ all → had ≡ all
no_more g had all left none was = grind (arith, append-nil)

-- what all have, and one more that may be kept, all have that are kept
pub all_pushed : {X E : Type 0} (P : X → Type 0) (all : List X) (x : X) (r : Result (Unit {0}) E) → All P all → P x → All P (if is_ok r then all ++ x ∷ [] else all)
all_pushed P all x (Ok done) every one = All-push P all x every one
all_pushed P all x (Err fault) every one = every
