use Rattle.std.proofs.Common.{◌∙◌, ◌∷◌, ◌++◌, [], ℕ, ap, arith, get_or}
use Rattle.arb_draw.specs.declared.cell.AppThreads.{AppThreads}
use Rattle.arb_draw.specs.declared.shape.Shape.{Shape}
use Rattle.arb_draw.specs.declared.shape.Shape.TheVariants.{Swatch}
use Rattle.arb_draw.specs.Layout.{legend_x, legend_y}
use Rattle.arb_draw.proofs.LoopLaws.{entries_next}
use Rattle.arb_draw.proofs.shapes.push_legend.Goals as goal

pub loop-index-preserved : goal.loop-index-preserved
loop-index-preserved c =
    let apps = c.args.apps.now in
    let index = c.loop-index.index in
    let none : AppThreads = record { app = 0; threads = 0 } in
    let entry : AppThreads = get_or apps index none in
    let swatch : ℕ × AppThreads → Shape = λ e. Swatch e.1.app e.1.threads (legend_x e.0) (legend_y e.0) in
    entries_next swatch apps index none c.args.shapes.now.items c.loop-index.shapes.items c.push.new.self.items (omega arith) c.loop-index.invariant
    (c.in_ok-push.ensures.items ∙ (ap (λ x. c.loop-index.shapes.items ++ Swatch entry.app entry.threads x c.legend_y.result ∷ []) c.legend_x.ensures ∙ ap (λ y. c.loop-index.shapes.items ++ Swatch entry.app entry.threads (legend_x index) y ∷ []) c.legend_y.ensures))
