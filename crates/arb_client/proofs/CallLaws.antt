-- What a call says that collected no reply.
use Rattle.std.proofs.Common.{◌≡◌, ℕ, List, [], ◌∷◌, ◌++◌, ◌+◌, length, true, sym, ap, ◌∙◌, subst}
use Rattle.arb_config.specs.Machine.{Machine}
use Rattle.arb_model.specs.declared.orders.Order.{Order}
use Rattle.arb_model.specs.History.{orders_in}
use Rattle.arb_desk.specs.Answers.{IsFullPast}
use Rattle.arb_client.specs.declared.client.OpenOrder.{OpenOrder}
use Rattle.arb_client.specs.declared.faults.CollectFault.{CollectFault}
use Rattle.arb_client.specs.declared.faults.CollectFault.TheVariants.{NothingOut, Full, Gone, Stranger}
use Rattle.arb_client.specs.Calling.{CallIsShut, CollectsNone}
use Rattle.arb_client.specs.Collecting.{IsShut, Misses, is_strange}
use Rattle.arb_client.specs.Posting.{Posts}
use Rattle.arb_client.specs.Sides.{Side}

-- the order that a call posts is the one open order
one_open : (a p : Side) (order : Order) → a.out ≡ [] → Posts a p order → p.out ≡ record { order = order; orders_seen = orders_in p.seen } ∷ []
one_open a p order none post = ap (λ (s : Side). s.out) post.rest ∙ ap (λ (l : List OpenOrder). l ++ record { order = order; orders_seen = orders_in p.seen } ∷ []) none

no_more : {x y : OpenOrder} {ys : List OpenOrder} → x ∷ [] ≡ y ∷ ys → ys ≡ []
no_more e = sym (cc e)

shut_after : (fault : CollectFault) (a p b : Side) (order : Order) → a.out ≡ [] → Posts a p order → IsShut fault p b → CallIsShut fault a b order
shut_after fault a p b order none post shut =
    let seen : p.seen ≡ b.seen = sym (ap (λ (s : Side). s.seen) shut.1) in
    let steps : p.steps ≡ b.steps = sym (ap (λ (s : Side). s.steps) shut.1) in
    let room : p.room + length p.out ≡ b.room = ap (λ (s : Side). s.room) (sym shut.1) in
    record {
      accepts = post.accepts;
      rest = shut.1 ∙ (λ i. record (post.rest i) { seen = seen i; steps = steps i; out = sym none i; shut = true; strange = is_strange fault; room = room i });
    }

-- what was missed after one post, as the whole call sees it
pub collects_none : (m : Machine) (a p b : Side) (order : Order) (fault : CollectFault) → a.out ≡ [] → Posts a p order → Misses m p b fault → CollectsNone m a b order fault
collects_none m a p b order NothingOut none post miss = absurd (cc (sym (one_open a p order none post) ∙ miss.0))
collects_none m a p b order Full none post miss =
    let out : b.out ≡ a.out = no_more (sym (one_open a p order none post) ∙ miss.out) ∙ sym none in
    let id : p.id ≡ a.id = ap (λ (s : Side). s.id) post.rest in
    let mine : length p.mine ≡ length a.mine = ap (λ (s : Side). length s.mine) post.rest in
    let room : p.room + 1 ≡ b.room = ap (λ (s : Side). s.room) (sym miss.rest) in
    record {
      accepts = post.accepts;
      rest = miss.rest ∙ (λ i. record (post.rest i) { seen = b.seen; steps = b.steps; out = out i; full = true; room = room i });
      limit = subst (λ (who : ℕ). IsFullPast m b.seen who (length a.mine)) id (subst (λ (n : ℕ). IsFullPast m b.seen p.id n) mine miss.limit);
    }
collects_none m a p b order Gone none post miss = shut_after Gone a p b order none post miss
collects_none m a p b order Stranger none post miss = shut_after Stranger a p b order none post miss
