use Rattle.std.proofs.Common.{◌∙◌, ◌++◌, ℕ, List, ap, arith, get_or}
use Rattle.arb_draw.specs.declared.cell.AppThreads.{AppThreads}
use Rattle.arb_draw.specs.declared.shape.Shape.{Shape}
use Rattle.arb_draw.specs.Layout.{panel_y}
use Rattle.arb_draw.specs.Shapes.{panel_shapes}
use Rattle.arb_draw.proofs.LoopLaws.{numbered_next}
use Rattle.arb_draw.proofs.shapes.push_panels.Goals as goal

pub loop-index-preserved : goal.loop-index-preserved
loop-index-preserved c =
    let apps = c.args.apps.now in
    let index = c.loop-index.index in
    let xs = c.args.xs.now in
    let frames = c.args.frames.now in
    let none : AppThreads = record { app = 0; threads = 0 } in
    let panel : ℕ × AppThreads → List Shape = λ e. panel_shapes xs frames e.1.app (panel_y c.args.layout e.0) in
    numbered_next panel apps index none c.args.shapes.now.items c.loop-index.shapes.items c.push_panel.new.shapes.items (omega arith) c.loop-index.invariant
    (c.in_ok-push_panel.ensures {u = tt} ∙ ap (λ y. c.loop-index.shapes.items ++ panel_shapes xs frames (get_or apps index none).app y) c.panel_y.ensures)
