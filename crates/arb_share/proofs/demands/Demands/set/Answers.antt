use Rattle.std.proofs.Common.{◌≡◌, ◌<◌, [], length, slice_index_or, slice_set, arith, ◌∙◌}
use Rattle.std.proofs.lemmas.List.{get_or-set_same, get_or-set_other, length-set, map-set}
use Rattle.arb_share.specs.Due.{demands_at, entry_at}
use Rattle.arb_share.proofs.demands.Demands.set.Goals as goal

pub loop-level-preserved : goal.loop-level-preserved
loop-level-preserved c = (
  length-set c.loop-level.self-inside.rows c.loop-level.level _ ∙ c.loop-level.invariant.0,
  λ requests shown.
      let here = c.loop-level.level in
      let rows = c.loop-level.self-inside.rows in
      let kept = c.loop-level.invariant.1 requests shown in
      let row = slice_set (slice_index_or rows here []) c.args.app c.entry_of.result in
      let long : here < length rows = omega (arith, c.loop-level.invariant.0, c.loop-level-test.true) in
      let new : row ≡ demands_at here (slice_set requests c.args.app c.args.request.now) =
      cc (kept.1 here (omega arith) c.loop-level-test.true, c.entry_of.ensures, map-set (entry_at here) requests c.args.app c.args.request.now) in (
        λ level less. grind (arith, get_or-set_same, get_or-set_other, long, new, kept.0 level),
        λ level more within. grind (arith, get_or-set_other, kept.1 level),
      ),
)
