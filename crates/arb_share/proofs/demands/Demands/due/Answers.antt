use Rattle.std.proofs.Common.{◌≡◌, ℕ, ◌+◌, ◌-◌, ◌≤◌, [], length, slice_index_or, sum, arith, ◌∙◌, ap, sym, List}
use Rattle.arb_share.specs.Limits.{levels}
use Rattle.arb_share.specs.Due.{add_rows, due_of}
use Rattle.arb_share.proofs.EvenLoop.{DividesEvenly-covered}
use Rattle.arb_share.proofs.DueLaws.{add_rows-zeros_left, length-add_rows, length-due_from, due_from-step, due_from-none, due_from-none_left, sum-add_rows}
use Rattle.arb_share.proofs.demands.Demands.due.Goals as goal

pub loop-level-init : goal.loop-level-init
loop-level-init c = record {
  whole = omega arith;
  rest = λ requests shown. add_rows-zeros_left _ _ (length-due_from levels 0 c.args.managed requests ∙ shown.one_each);
}

pub loop-level-preserved : goal.loop-level-preserved
loop-level-preserved c =
    let level = c.loop-level.level in
    let here = slice_index_or c.self.inside.rows level [] in
    let bound : sum here ≤ c.loop-level.left = omega (arith, c.wanted-all.ensures, c.from.ensures, c.if-from-all.false) in
    let long : length c.loop-level.due ≡ 16 = omega (arith, c.type_inv.due, ap length c.add-in-loop-level.ensures, length-add_rows c.loop-level.due here) in
    record {
      whole = rw c.add-in-loop-level.ensures (omega (arith, sum-add_rows c.loop-level.due here, c.wanted-all.ensures, c.loop-level.invariant.whole, bound));
      rest = λ requests shown.
          let row = ap (λ (rows : List (List ℕ)). slice_index_or rows level []) c.self.view_is ∙ shown.each level c.loop-level-test.true in
          rw (c.add-in-loop-level.ensures, c.wanted-all.ensures)
          (due_from-step level c.loop-level.left c.loop-level.due here here _ requests c.loop-level-test.true (long ∙ sym shown.one_each) row (DividesEvenly-covered here c.loop-level.left bound) (c.loop-level.invariant.rest requests shown));
    }

pub returns-then-from-all : goal.returns-then-from-all
unfolding due_of
returns-then-from-all c = λ requests shown.
    let level = c.loop-level.level in
    let row = ap (λ (rows : List (List ℕ)). slice_index_or rows level []) c.self.view_is ∙ shown.each level c.loop-level-test.true in
    let none : c.loop-level.left - sum c.deal.result ≡ 0 = omega (arith, c.deal.ensures.in_full, c.wanted-all.ensures, c.from.ensures, c.if-from-all.true) in
    let long : length c.loop-level.due ≡ length requests = omega (arith, c.add.array_long, ap length c.add.ensures, length-add_rows c.loop-level.due c.deal.result, shown.one_each) in
    c.add.ensures ∙ sym (due_from-none_left (level + 1) (c.loop-level.left - sum c.deal.result) (add_rows c.loop-level.due c.deal.result) requests none)
    ∙ due_from-step level c.loop-level.left c.loop-level.due c.deal.result _ _ requests c.loop-level-test.true long row c.deal.ensures (c.loop-level.invariant.rest requests shown)

pub returns : goal.returns
unfolding due_of
returns c = λ requests shown. sym (due_from-none c.loop-level.level c.loop-level.left c.loop-level.due requests (omega arith)) ∙ c.loop-level.invariant.rest requests shown

pub returns-then-left-eq0 : goal.returns-then-left-eq0
unfolding due_of
returns-then-left-eq0 c =
    λ requests shown. sym (due_from-none_left c.loop-level.level c.loop-level.left c.loop-level.due requests (omega (arith, c.if-left-eq0.true)))
    ∙ c.loop-level.invariant.rest requests shown
