use Rattle.std.proofs.Common.{◌≡◌, ◌+◌, ◌<◌, ◌≤◌, length, take, sym, ap, ◌∙◌, subst, rules, false}
use Rattle.std.specs.Prelude.{count_by, replicate}
use Rattle.std.proofs.lemmas.List.{length-replicate, take_all}
use mathlib.Core.Bool.{not}
use Rattle.arb_house.specs.Clients.{IsTable}
use Rattle.arb_house.proofs.ClientLaws.{all_counted, next_new, next_old, table_none}
use Rattle.arb_house.proofs.clients.Roster.new.Goals.{then-is_none, else-is_none}
use Rattle.arb_house.proofs.clients.Roster.new.Goals as goal

pub loop-k-init : goal.loop-k-init
loop-k-init c = table_none

pub loop-k-preserved : goal.loop-k-preserved
loop-k-preserved c =
    let list = c.args.list.now in
    let k = c.loop-k.k in
    let indexes = c.loop-k.indexes in
    let below : k < length list = search rules in
    elim c.if-is_none.branch [
      | then-is_none w ↦ subst (λ p. IsTable p (take (k + 1) list)) (sym w.indexes-is)
          (next_new indexes list k c.index-list-k.result c.index-client.result c.loop-k.invariant below c.index-list-k.is c.index-client.ensures.value c.index-client.ensures.within (search rules))
      | else-is_none w ↦ subst (λ p. IsTable p (take (k + 1) list)) (sym w.indexes-is)
          (next_old indexes list k c.index-list-k.result c.index-client.result c.loop-k.invariant below c.index-list-k.is c.index-client.ensures.value c.index-client.ensures.within (search rules))
    ]

pub invariant_of-result : goal.invariant_of-result
invariant_of-result c =
    let list = c.args.list.now in
    let same : c.in_ok-from_slice.field-0.items ≡ list = search rules in
    let end : length list ≤ c.loop-k.k = search rules in
    let all : take c.loop-k.k list ≡ list = take_all c.loop-k.k list end in
    let none : c.in_ok-from_elem.field-0.items ≡ replicate (length list) false = c.in_ok-from_elem.ensures.items_if_clones_equal (search rules) in (
      subst (IsTable c.loop-k.indexes) (all ∙ sym same) c.loop-k.invariant,
      ap length none ∙ length-replicate (length list) false ∙ sym (ap length same),
      all_counted (length list) ∙ sym (ap (count_by not) none),
    )
