use Rattle.std.proofs.Common.{◌≡◌}
use Rattle.std.specs.List.{FoldsTo}
use Rattle.arb_model.specs.Posting.{OnPost, posts_of, stale_count}
use Rattle.arb_core.proofs.arbiter.Core.post_all.Given as goal

-- the calls that are still to come end all calls
abbrev pub invariant-loop-w : goal.invariant-loop-w
invariant-loop-w g l = record {
  callable : goal.F-IsAlwaysCallable g l.each;
  machine : l.self.machine ≡ l.fn.self.machine;
  standing : l.self.standing ≡ l.fn.self.standing;
  handed : (last : _) → FoldsTo (λ before post after. OnPost (λ w value. goal.F-step g before w value tt after) post) l.each (posts_of l.self.standing l.self.posted) last → FoldsTo (λ before post after. OnPost (λ w value. goal.F-step g before w value tt after) post) l.fn.each (posts_of l.fn.self.standing l.fn.self.posted) last;
}

abbrev pub decreases-loop-w : goal.decreases-loop-w
decreases-loop-w g l = stale_count l.self.standing l.self.posted
