use Rattle.std.proofs.Common.{arith, sym, ◌∙◌}
use Rattle.arb_share.proofs.CutLaws.{cut_of-by_level, IsCut-cut_of}
use Rattle.arb_share.proofs.request.Request.cut.Goals as goal

pub returns-clause-named : goal.returns-clause-named
returns-clause-named c =
    let so_far = c.loop-level.invariant in
    rw (← c.self.view_is) (cut_of-by_level c.args.cap c.self.inside.entries c.loop-level.entries (so_far.one_each ∙ sym so_far.whole) (λ k lt. so_far.kept k (omega (arith, so_far.one_each))))

pub returns-clause-cut : goal.returns-clause-cut
returns-clause-cut c =
    rw (returns-clause-named c, ← c.self.view_is) (IsCut-cut_of c.args.cap c.self.inside.entries c.loop-level.invariant.whole)
