-- The next order of a client: the index is made from the script's end on, and what lies between two own orders changes nothing.
use Rattle.std.proofs.Common.{◌≡◌, ◌≢◌, ℕ, zero, suc, ◌+◌, ◌-◌, ◌<◌, ◌≤◌, inl, inr, List, Option, Some, None, length, get_or, set, replicate, sym, ap, subst, ◌∙◌, arith}
use Rattle.std.specs.Prelude.{option_map, slice_get, slice_index, unwrap_or}
use Rattle.std.proofs.lemmas.Grind.{common_steps}
use Rattle.std.proofs.lemmas.Bool.{cases_eq, cases_lt}
use Rattle.std.proofs.lemmas.List.{get_or-replicate, get_or-set_other, length-replicate, length-set}
use Rattle.std.proofs.Math.Nat.{add-zero}
use Rattle.std.proofs.lemmas.Option.{slice_get_cases, slice_get_within}
use Rattle.arb_model.specs.declared.orders.Order.{Order}
use Rattle.arb_model.specs.declared.orders.Reply.{Reply}
use Rattle.arb_model.specs.Limits.{clients}
use Rattle.arb_script.specs.declared.given.ClientOrder.{ClientOrder}
use Rattle.arb_play.specs.declared.walking.Account.{Account}
use Rattle.arb_play.specs.OwnOrders.{IsNextOwn}
use Rattle.arb_play.specs.Walking.{OwnLetThrough, Sound}
use Rattle.arb_play.proofs.FullFromLaws.{given_by}
use Rattle.arb_play.proofs.ScriptLaws.{sound_other}

-- the index of the orders from one on
pub record Indexed (script : List ClientOrder) (i : ℕ) (firsts nexts : List ℕ) : Type 0 where
  pub below : i ≤ length script
  pub all : length firsts ≡ clients
  pub size : length nexts ≡ length script
  pub first : (client : ℕ) → client < clients → IsNextOwn script client i (slice_index firsts client)
  pub next : (k : ℕ) (given : ClientOrder) → i ≤ k → slice_get script k ≡ Some given → IsNextOwn script given.client (k + 1) (slice_index nexts k)

-- at the end no order follows
pub none_indexed : (script : List ClientOrder) (next : List ℕ) (n : ℕ) → n ≡ length script → length next ≡ n → Indexed script n (replicate clients n) next
none_indexed script next n end size = record {
  below = omega (arith, end);
  all = length-replicate clients n;
  size = size ∙ end;
  first = λ client below. subst (IsNextOwn script client n) (sym (get_or-replicate clients client n 0 below)) (record {
    behind = omega arith;
    within = omega (arith, end);
    own = λ given at. absurd (omega (arith, end, slice_get_within script n given at));
    none_before = λ k given from before. absurd (omega (arith, from, before));
  });
  next = λ k given from at. absurd (omega (arith, from, end, slice_get_within script k given at));
}

-- an order stands at its own index
own_here : (script : List ClientOrder) (n : ℕ) (x : ClientOrder) → slice_get script n ≡ Some x → IsNextOwn script x.client n n
own_here script n x at = record {
  behind = omega arith;
  within = omega (arith, slice_get_within script n x at);
  own = λ given there. grind (arith, at, there);
  none_before = λ k given from before. absurd (omega (arith, from, before));
}

-- one order more, of another client
own_past : (script : List ClientOrder) (c n m : ℕ) (x : ClientOrder) → slice_get script n ≡ Some x → x.client ≢ c → IsNextOwn script c (n + 1) m → IsNextOwn script c n m
own_past script c n m x at other was = record {
  behind = omega (arith, was.behind);
  within = was.within;
  own = was.own;
  none_before = λ k given from before there. grind (arith, at, there, other, was.none_before k given);
}

-- one order more: the first order of its client is this one now, and the others' are as before
first_more : (script : List ClientOrder) (n i d : ℕ) (first : List ℕ) (x : ClientOrder) → n + 1 ≡ i → length first ≡ clients → slice_get script n ≡ Some x → x.client ≡ d
    → ((client : ℕ) → client < clients → IsNextOwn script client i (slice_index first client))
    → (client : ℕ) → client < clients → IsNextOwn script client n (slice_index (set first d n) client)
first_more script n i d first x one size at own was client below =
    elim (cases_eq client d) [
      | inl same ↦
          let here : get_or (set first d n) client 0 ≡ n = grind (arith, common_steps, same, size, below) in
          subst (IsNextOwn script client n) (sym here) (subst (λ c. IsNextOwn script c n n) (own ∙ sym same) (own_here script n x at))
      | inr other ↦
          let there : get_or (set first d n) client 0 ≡ get_or first client 0 = get_or-set_other first d client n 0 other in
          let before = subst (λ f. IsNextOwn script client f (get_or first client 0)) (sym one) (was client below) in
          subst (IsNextOwn script client n) (sym there) (own_past script client n _ x at (λ e. other (sym e ∙ own)) before)
    ]

-- one order more: behind it comes the first order of its client so far, and behind the others what came before
next_more : (script : List ClientOrder) (n i d : ℕ) (first next : List ℕ) (x : ClientOrder) → n + 1 ≡ i → d < clients → length next ≡ length script → slice_get script n ≡ Some x → x.client ≡ d
    → ((client : ℕ) → client < clients → IsNextOwn script client i (slice_index first client))
    → ((k : ℕ) (given : ClientOrder) → i ≤ k → slice_get script k ≡ Some given → IsNextOwn script given.client (k + 1) (slice_index next k))
    → (k : ℕ) (given : ClientOrder) → n ≤ k → slice_get script k ≡ Some given → IsNextOwn script given.client (k + 1) (slice_index (set next n (get_or first d 0)) k)
next_more script n i d first next x one inside size at own firsts nexts k given from there =
    elim (cases_eq k n) [
      | inl same ↦
          let within : n < length next = omega (arith, size, slice_get_within script n x at) in
          let here : get_or (set next n (get_or first d 0)) k 0 ≡ get_or first d 0 = grind (arith, common_steps, same, within) in
          let who : given.client ≡ d = grind (arith, at, there, same, own) in
          let after = subst (λ f. IsNextOwn script d f (get_or first d 0)) (sym one ∙ ap (λ m. m + 1) (sym same)) (firsts d inside) in
          subst (IsNextOwn script given.client (k + 1)) (sym here) (subst (λ c. IsNextOwn script c (k + 1) (get_or first d 0)) (sym who) after)
      | inr other ↦
          let still : get_or (set next n (get_or first d 0)) k 0 ≡ get_or next k 0 = get_or-set_other next n k (get_or first d 0) 0 other in
          subst (IsNextOwn script given.client (k + 1)) (sym still) (nexts k given (omega (arith, from, other, one)) there)
    ]

-- one order more, before those that are indexed
pub one_indexed : (script : List ClientOrder) (n i c d : ℕ) (first next : List ℕ) → n + 1 ≡ i → d < clients → option_map (λ given. given.client) (slice_get script n) ≡ Some c → d ≡ c
    → Indexed script i first next → Indexed script n (set first d n) (set next n (get_or first d 0))
one_indexed script n i c d first next one inside is same was =
    let x = given_by script n c is in
    let there = slice_get_within script n x.0 x.1 in
    let own : x.0.client ≡ d = x.2 ∙ sym same in
    record {
      below = omega (arith, there);
      all = length-set first d n ∙ was.all;
      size = length-set next n (get_or first d 0) ∙ was.size;
      first = first_more script n i d first x.0 one was.all x.1 own was.first;
      next = next_more script n i d first next x.0 one inside was.size x.1 own was.first was.next;
    }

-- what lies between two own orders changes nothing of what is answered
sound_over : (gap : ℕ) (script : List ClientOrder) (from n c : ℕ) (mine : List (Order × Reply)) (account : Account) → n ≡ from + gap → n ≤ length script
    → ((k : ℕ) (given : ClientOrder) → from ≤ k → k < n → slice_get script k ≡ Some given → given.client ≢ c)
    → Sound script from c mine account → Sound script n c mine account
sound_over zero script from n c mine account far within others sound = subst (λ m. Sound script m c mine account) (sym (far ∙ add-zero from)) sound
sound_over (suc gap) script from n c mine account far within others sound =
    elim (slice_get_cases script from).1 [
      | inl here ↦
          let x = here.0 in
          let more = sound_other script from c mine account x here.2 (others from x (omega arith) (omega (arith, far)) here.2) sound in
          sound_over gap script (from + 1) n c mine account (omega (arith, far)) within (λ k given past before there. others k given (omega (arith, past)) before there) more
      | inr past ↦ absurd (omega (arith, past.0, far, within))
    ]

-- the same, up to the next own order
pub sound_next : (script : List ClientOrder) (from n c : ℕ) (mine : List (Order × Reply)) (account : Account) → IsNextOwn script c from n → Sound script from c mine account → Sound script n c mine account
sound_next script from n c mine account next sound = sound_over (n - from) script from n c mine account (omega (arith, next.behind)) next.within next.none_before sound

-- no own order lies between, so none was let through there
pub through_next : (lets : ℕ → Type 0) (script : List ClientOrder) (gave_up : Option ℕ) (from n c : ℕ) → IsNextOwn script c from n
    → OwnLetThrough lets script c (unwrap_or gave_up from) → OwnLetThrough lets script c (unwrap_or gave_up n)
through_next lets script (Some order) from n c next through = through
through_next lets script None from n c next through = λ order given before there own.
    elim (cases_lt order from) [
      | inl early ↦ through order given early there own
      | inr late ↦ absurd (next.none_before order given late before there own)
    ]

-- one own order more, for which the gate was asked; and no own order lies between
pub asked_next : (asks : ℕ → Type 0) (script : List ClientOrder) (i n c : ℕ) → IsNextOwn script c (i + 1) n → asks i
    → OwnLetThrough asks script c i → OwnLetThrough asks script c n
asked_next asks script i n c next here before =
    through_next asks script None (i + 1) n c next (λ order given below there own.
    elim (cases_lt order i) [
      | inl early ↦ before order given early there own
      | inr late ↦ subst asks (omega (arith, below, late)) here
    ])
