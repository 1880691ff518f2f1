-- The replies that a client collects as it closes.
use Rattle.std.proofs.Common.{◌≡◌, ◌⊎◌, ◌+◌, ◌≤◌, ◌<◌, ℕ, suc, length-append, List, [], ◌∷◌, ◌++◌, length, Bool, true, false, true≢false, refl, sym, ap, ◌∙◌, subst, append_assoc, inl, inr, ⊎_elim, arith}
use Rattle.std.specs.Prelude.{IfErr, IfOk, MatchBool, Result, Ok, Err}
use Rattle.std.proofs.lemmas.Grind.{common_steps}
use Rattle.std.proofs.lemmas.List.{append-nil}
use mathlib.Core.List.{IsPrefix}
use Rattle.arb_config.specs.Machine.{Machine}
use Rattle.arb_model.specs.declared.orders.Order.{Order}
use Rattle.arb_model.specs.declared.orders.Reply.{Reply}
use Rattle.arb_model.specs.History.{History, orders_in}
use Rattle.arb_desk.specs.Answers.{IsFullPast}
use Rattle.arb_desk.specs.declared.message.Message.{Message}
use Rattle.arb_desk.specs.declared.rule.PassView.{PassView}
use Rattle.arb_desk.specs.Passes.{puts}
use Rattle.arb_client.specs.declared.client.OpenOrder.{OpenOrder}
use Rattle.arb_client.specs.declared.faults.CollectFault.{CollectFault}
use Rattle.arb_client.specs.declared.faults.CollectFault.TheVariants.{NothingOut, Full, Gone, Stranger}
use Rattle.arb_client.specs.Closing.{AreReplies, IsShutInClose}
use Rattle.arb_client.specs.Collecting.{Collects, IsShut, MeetsLimit, Misses}
use Rattle.arb_client.specs.Sides.{Side}
use Rattle.arb_client.proofs.SideLaws.{full_within, prefix_trans}

-- the answered orders are those that there were, and then replies; with replies to what is open now these are replies to what was open
pub record HasReplies (m : Machine) (a b : Side) : Type 0 where
  pub replies : List (Order × Reply)
  pub is : b.mine ≡ a.mine ++ replies
  pub same : b.id ≡ a.id
  pub are : (h : History) (whole : Bool) (more : List (Order × Reply)) → orders_in h ≤ m.orders → IsPrefix b.seen h → (b.shut ≡ true → whole ≡ false)
      → AreReplies m h a.id (length b.mine) whole b.out more → AreReplies m h a.id (length a.mine) whole a.out (replies ++ more)

-- where a past isn't whole, all replies may lack
all_lack : (m : Machine) (h : History) (id number : ℕ) (whole : Bool) (out : List OpenOrder) (more : List (Order × Reply)) → whole ≡ false → more ≡ [] → AreReplies m h id number whole out more
all_lack m h id number whole [] more cut none = none
all_lack m h id number whole (asked ∷ out) more cut none = inr ((λ w. absurd (true≢false (sym w ∙ cut))), all_lack m h id number whole out more cut none)

-- one reply more
has_collected : (m : Machine) (a b c : Side) (reply : Reply) → HasReplies m a b → IsPrefix b.seen c.seen → Collects m b c reply → HasReplies m a c
has_collected m a b c reply had on got =
    let one : List (Order × Reply) = (got.asked.order, reply) ∷ [] in
    record {
      replies = had.replies ++ one;
      is = ap (λ (s : Side). s.mine) got.rest ∙ (ap (λ (l : List (Order × Reply)). l ++ one) had.is ∙ append_assoc a.mine had.replies one);
      same = ap (λ (s : Side). s.id) got.rest ∙ had.same;
      are = λ h whole more most later shut e.
          let count : length c.mine ≡ suc (length b.mine) = omega (arith, ap (λ (s : Side). length s.mine) got.rest, length-append b.mine one) in
          subst (λ (l : List (Order × Reply)). AreReplies m h a.id (length a.mine) whole a.out l) (sym (append_assoc had.replies one more))
          (had.are h whole (one ++ more) most (prefix_trans b.seen c.seen h on later) (λ was. shut (ap (λ (s : Side). s.shut) got.rest ∙ was))
          (subst (λ (out : List OpenOrder). AreReplies m h a.id (length b.mine) whole out (one ++ more)) (sym got.out) (inl (reply, more, refl, subst (λ (n : ℕ). AreReplies m h a.id n whole c.out more) count e))));
    }

-- none any more
has_shut : (m : Machine) (a b c : Side) (fault : CollectFault) → HasReplies m a b → IsPrefix b.seen c.seen → IsShut fault b c → HasReplies m a c
has_shut m a b c fault had on is = record {
  replies = had.replies;
  is = ap (λ (s : Side). s.mine) is.1 ∙ had.is;
  same = ap (λ (s : Side). s.id) is.1 ∙ had.same;
  are = λ h whole more most later shut e.
      let cut : whole ≡ false = shut (ap (λ (s : Side). s.shut) is.1) in
      let none : more ≡ [] = subst (λ (out : List OpenOrder). AreReplies m h a.id (length c.mine) whole out more) (ap (λ (s : Side). s.out) is.1) e in
      had.are h whole more most (prefix_trans b.seen c.seen h on later) (λ was. cut) (all_lack m h a.id (length b.mine) whole b.out more cut none);
}

-- an order that got none
has_missed : (m : Machine) (a b c : Side) (fault : CollectFault) → HasReplies m a b → IsPrefix b.seen c.seen → Misses m b c fault → HasReplies m a c
has_missed m a b c NothingOut had on miss = subst (HasReplies m a) (sym miss.1) had
has_missed m a b c Full had on miss = record {
  replies = had.replies;
  is = ap (λ (s : Side). s.mine) miss.rest ∙ had.is;
  same = ap (λ (s : Side). s.id) miss.rest ∙ had.same;
  are = λ h whole more most later shut e.
      let number : length b.mine ≡ length c.mine = ap (λ (s : Side). length s.mine) (sym miss.rest) in
      let full : IsFullPast m h a.id (length b.mine) = subst (λ (id : ℕ). IsFullPast m h id (length b.mine)) had.same (full_within m c.seen h b.id (length b.mine) most later miss.limit) in
      had.are h whole more most (prefix_trans b.seen c.seen h on later) (λ was. shut (ap (λ (s : Side). s.shut) miss.rest ∙ was))
      (subst (λ (out : List OpenOrder). AreReplies m h a.id (length b.mine) whole out more) (sym miss.out) (inr ((λ w. full), subst (λ (n : ℕ). AreReplies m h a.id n whole c.out more) (sym number) e)));
}
has_missed m a b c Gone had on miss = has_shut m a b c Gone had on miss
has_missed m a b c Stranger had on miss = has_shut m a b c Stranger had on miss

-- whatever came of a collect
pub has_tried : (m : Machine) (a b c : Side) (r : Result Reply CollectFault) → HasReplies m a b → IsPrefix b.seen c.seen → IfOk r (λ reply. Collects m b c reply) → IfErr r (λ fault. Misses m b c fault) → HasReplies m a c
has_tried m a b c (Ok reply) had on got miss = has_collected m a b c reply had on got
has_tried m a b c (Err fault) had on got miss = has_missed m a b c fault had on miss

-- what was put stays, it is a client of the same queue, and once closed to orders it stays so
pub tried_keeps : (m : Machine) (b c : Side) (r : Result Reply CollectFault) → IfOk r (λ reply. Collects m b c reply) → IfErr r (λ fault. Misses m b c fault) → (c.put ≡ b.put) × (c.queue ≡ b.queue) × (b.shut ≡ true → c.shut ≡ true)
tried_keeps m b c r got miss = grind (arith, common_steps)

-- and its list of replies keeps its capacity
pub tried_room : (m : Machine) (b c : Side) (r : Result Reply CollectFault) → IfOk r (λ reply. Collects m b c reply) → IfErr r (λ fault. Misses m b c fault)
    → length c.mine + length c.out + c.room ≡ length b.mine + length b.out + b.room
tried_room m b c r got miss = grind (arith, common_steps, length-append)

pub none_open : (out : List OpenOrder) → length out ≡ 0 → out ≡ []
none_open out none = grind (arith, common_steps)

-- no more orders are answered or open after a collect than before
pub tried_most : (m : Machine) (b c : Side) (r : Result Reply CollectFault) → IfOk r (λ reply. Collects m b c reply) → IfErr r (λ fault. Misses m b c fault) → length c.mine + length c.out ≤ length b.mine + length b.out
tried_most m b c r got miss = grind (arith, common_steps, length-append)

-- the collects of a close so far: each way in which the rest of it is shut is one in which the close is; and where the client is closed to orders, it was so before, or the close was shut here
pub record Closes (m : Machine) (a b : Side) : Type 0 where
  pub rest : (mine : List (Order × Reply)) (seen : History) → IsShutInClose m mine seen b.out b → IsShutInClose m mine seen a.out a
  pub shut : b.shut ≡ true → (a.shut ≡ true) ⊎ ((b.out ≡ []) × ((mine : List (Order × Reply)) (seen : History) → mine ≡ b.mine → seen ≡ b.seen → IsShutInClose m mine seen a.out a))

-- a client that was closed to orders before its oldest open order was answered was so before the close
shut_before : (m : Machine) (a b : Side) (asked : OpenOrder) (out : List OpenOrder) → Closes m a b → b.out ≡ asked ∷ out → b.shut ≡ true → a.shut ≡ true
shut_before m a b asked out had some was = ⊎_elim (λ (s : a.shut ≡ true). s) (λ none. absurd (cc (sym none.0 ∙ some))) (had.shut was)

-- one reply more
closes_collected : (m : Machine) (a b c : Side) (reply : Reply) → Closes m a b → Collects m b c reply → Closes m a c
closes_collected m a b c reply had got = record {
  rest = λ mine seen e. had.rest mine seen (subst (λ (out : List OpenOrder). IsShutInClose m mine seen out b) (sym got.out) (inr (inl (c, reply, got, e))));
  shut = λ was. inl (shut_before m a b got.asked c.out had got.out (ap (λ (s : Side). s.shut) (sym got.rest) ∙ was));
}

-- one that met the limit
closes_full : (m : Machine) (a b c : Side) → Closes m a b → MeetsLimit m b c → Closes m a c
closes_full m a b c had full = record {
  rest = λ mine seen e. had.rest mine seen (subst (λ (out : List OpenOrder). IsShutInClose m mine seen out b) (sym full.out) (inr (inr (c, full, e))));
  shut = λ was. inl (shut_before m a b full.asked c.out had full.out (ap (λ (s : Side). s.shut) (sym full.rest) ∙ was));
}

-- where one is open, a close may be shut here
shut_here : (m : Machine) (mine : List (Order × Reply)) (seen : History) (out : List OpenOrder) (b : Side) → 0 < length out → mine ≡ b.mine → seen ≡ b.seen → IsShutInClose m mine seen out b
shut_here m mine seen [] b some same now = absurd (omega (arith, some))
shut_here m mine seen (asked ∷ out) b some same now = inl (same, now)

-- none any more
closes_shut : (m : Machine) (a b c : Side) (fault : CollectFault) → Closes m a b → IsShut fault b c → Closes m a c
closes_shut m a b c fault had is =
    let none : c.out ≡ [] = ap (λ (s : Side). s.out) is.1 in
    record {
      rest = λ mine seen e. absurd (subst (λ (out : List OpenOrder). IsShutInClose m mine seen out c) none e);
      shut = λ was. inr (none, (λ mine seen same now. had.rest mine seen (shut_here m mine seen b.out b is.0 (same ∙ ap (λ (s : Side). s.mine) is.1) (now ∙ ap (λ (s : Side). s.seen) is.1))));
    }

closes_missed : (m : Machine) (a b c : Side) (fault : CollectFault) → Closes m a b → Misses m b c fault → Closes m a c
closes_missed m a b c NothingOut had miss = subst (Closes m a) (sym miss.1) had
closes_missed m a b c Full had miss = closes_full m a b c had miss
closes_missed m a b c Gone had miss = closes_shut m a b c Gone had miss
closes_missed m a b c Stranger had miss = closes_shut m a b c Stranger had miss

-- whatever came of a collect
pub closes_tried : (m : Machine) (a b c : Side) (r : Result Reply CollectFault) → Closes m a b → IfOk r (λ reply. Collects m b c reply) → IfErr r (λ fault. Misses m b c fault) → Closes m a c
closes_tried m a b c (Ok reply) had got miss = closes_collected m a b c reply had got
closes_tried m a b c (Err fault) had got miss = closes_missed m a b c fault had miss

-- where none was open, the answered orders stay
pub none_more : (mine replies : List (Order × Reply)) → length (mine ++ replies) ≤ length mine → mine ++ replies ≡ mine
none_more mine replies most = grind (arith, common_steps, append-nil, length-append)

-- where a mark wasn't put, the pass is as it was
pub unmarked : (marked : Bool) (old new : PassView) (mark : Message) → marked ≡ false → MatchBool marked (new ≡ puts old mark) (new ≡ old) → new ≡ old
unmarked marked old new mark none is = grind (arith, common_steps)

-- and where it was, the pass has put it
pub marked_so : (marked : Bool) (old new : PassView) (mark : Message) → marked ≡ true → MatchBool marked (new ≡ puts old mark) (new ≡ old) → new ≡ puts old mark
marked_so marked old new mark one is = grind (arith, common_steps)
