-- Whose close mark was taken, over each message.
use Rattle.std.proofs.Common.{◌≡◌, ℕ, List, [], ◌∷◌, ◌++◌, set, Bool, true, ◌||◌, Some, refl, arith}
use Rattle.std.specs.Prelude.{slice_get}
use Rattle.std.proofs.lemmas.Bool.Decides.{nat_tests}
use Rattle.std.proofs.lemmas.Grind.{common_steps}
use Rattle.arb_desk.specs.declared.message.Body.TheVariants.{Close}
use Rattle.arb_desk.specs.declared.message.Message.{Message}
use Rattle.arb_desk.specs.Messages.{is_closed}
use Rattle.arb_desk.proofs.MessageLaws.{messages_by-append, messages_by-own}
use Rattle.arb_house.specs.Clients.{Roll, closing}
use Rattle.arb_house.specs.Serving.{Marked}
use Rattle.arb_house.proofs.ClientLaws.{place_is, slice_get-set}

-- a mark is among joined messages if it is among the one or the other
closed-append : (xs ys : List Message) → is_closed (xs ++ ys) ≡ (is_closed xs || is_closed ys)
closed-append [] ys = refl
closed-append (x ∷ xs) ys = grind (arith, nat_tests, common_steps, closed-append xs ys)

-- a message more leaves the marks that were taken
pub marked_more : (clients : List ℕ) (closed : List Bool) (taken : List Message) (m : Message) → Marked clients closed taken → Marked clients closed (taken ++ m ∷ [])
marked_more clients closed taken m marked i c at shut = grind (arith, nat_tests, common_steps, messages_by-append c taken, closed-append, marked i c)

-- and a client's close mark closes it
marked_at : (clients : List ℕ) (closed : List Bool) (taken : List Message) (m : Message) (k : ℕ) → Marked clients closed taken → slice_get clients k ≡ Some m.client → m.body ≡ Close → Marked clients (set closed k true) (taken ++ m ∷ [])
marked_at clients closed taken m k marked here body i c at shut =
    grind (arith, nat_tests, common_steps, messages_by-append c taken, messages_by-own c m, closed-append, marked i c, slice_get-set closed k i true)

pub marked_close : (r : Roll) (m : Message) (taken : List Message) → Marked r.list r.closed taken → m.body ≡ Close → Marked (closing r m.client).list (closing r m.client).closed (taken ++ m ∷ [])
marked_close r m taken marked body = grind (arith, common_steps, marked_at r.list r.closed taken m, marked_more r.list r.closed taken m, place_is r.list m.client)
