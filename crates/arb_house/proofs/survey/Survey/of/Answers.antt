use Rattle.std.proofs.Common.{◌≡◌, ◌≢◌, ℕ, ◌+◌, ◌<◌, ◌∙◌, ◌||◌, Option, Some, None, not, length, get_or, take, refl, sym, subst, arith}
use Rattle.std.specs.List.{list_any}
use Rattle.std.proofs.lemmas.List.{get_or-replicate, length-replicate, length-set, length-take}
use Rattle.std.proofs.lemmas.List.Folds.{list_any_more}
use Rattle.arb_model.specs.Limits.{clients}
use Rattle.arb_desk.specs.declared.past.Past.{Past}
use Rattle.arb_house.proofs.CountLaws.{counts_more, few_pasts}
use Rattle.arb_house.proofs.IndexLaws.{Place, places_new, places_old}
use Rattle.arb_house.proofs.survey.Survey.of.Goals as goal
use Rattle.arb_house.proofs.survey.Survey.of.Goals.{then-is_none, else-is_none}

pub loop-index-init : goal.loop-index-init
loop-index-init c = (
  length-replicate {A = ℕ} 513 0,
  length-replicate {A = Option ℕ} 513 None,
  refl,
  (λ k h. get_or-replicate 513 k 0 0 h),
  λ k h. subst (Place c.args.pasts.now 0 k) (sym (get_or-replicate {A = Option ℕ} 513 k None None h)) refl,
)

pub overflow_add-counts : goal.overflow_add-counts
overflow_add-counts c =
    let counted = c.loop-index.invariant.3 c.index-number.result c.index-number.ensures.within in
    let few = few_pasts c.index-number.result (take c.loop-index.index c.args.pasts.now) in
    let front = length-take c.loop-index.index c.args.pasts.now in
    omega arith

pub loop-index-preserved : goal.loop-index-preserved
loop-index-preserved c =
    let pasts = c.args.pasts.now in
    let index = c.loop-index.index in
    let counts = c.loop-index.counts in
    let indexes = c.loop-index.indexes in
    let past = c.index-pasts-index.result in
    let inv = c.loop-index.invariant in
    let inside : index < length pasts = c.loop-index-test.true in
    let number : c.index-number.result ≡ past.client = c.index-number.ensures.value in
    let within : past.client < clients = omega (arith, number, c.index-number.ensures.within) in
    let counted_room : past.client < length counts = omega (arith, within, inv.0) in
    let placed_room : past.client < length indexes = omega (arith, within, inv.1) in
    let cut : (c.loop-index.cut || not past.whole) ≡ list_any (λ (x : Past). not x.whole) (take (index + 1) pasts) = cc (inv.2, c.index-pasts-index.is, list_any_more (λ (x : Past). not x.whole) pasts index past inside) in
    let counted = counts_more pasts counts index past inside c.index-pasts-index.is counted_room inv.3 in
    elim c.if-is_none.branch [
      | then-is_none w ↦
          let none : get_or indexes past.client None ≡ None = grind (arith, number, w.if-is_none.ensures {u = tt}) in
          rw (w.indexes-is, number) (
            length-set counts past.client (get_or counts past.client 0 + 1) ∙ inv.0,
            length-set indexes past.client (Some index) ∙ inv.1,
            cut,
            counted,
            places_new pasts index past indexes inside c.index-pasts-index.is placed_room within none inv.4,
          )
      | else-is_none w ↦
          let some : get_or indexes past.client None ≢ None = λ none. grind (arith, none, number, w.if-is_none.ensures {u = tt}) in
          rw (w.indexes-is, number) (
            length-set counts past.client (get_or counts past.client 0 + 1) ∙ inv.0,
            inv.1,
            cut,
            counted,
            places_old pasts index past indexes inside c.index-pasts-index.is some inv.4,
          )
    ]
