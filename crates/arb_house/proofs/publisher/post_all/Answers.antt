use Rattle.std.proofs.Common.{◌≡◌, None, ◌∙◌, sym, subst}
use Rattle.arb_model.specs.History.{History, IsSettled}
use Rattle.arb_model.specs.Posting.{next_stale_of}
use Rattle.arb_house.specs.Recording.{StandsAt}
use Rattle.arb_house.proofs.AdmissionLaws.{goes_on_post, posts_are_those}
use Rattle.arb_house.proofs.StandingLaws.{machine_at, post_may_follow, settled_at, stands_posted}
use Rattle.arb_house.proofs.publisher.post_all.Goals as goal

pub post-requires-in-Some : goal.post-requires-in-Some
post-requires-in-Some g c = post_may_follow _ _ _ _ _ c.loop-w.invariant.stands (sym c.next_stale.ensures.next ∙ c.in-Some.is) c.word-value.ensures

pub loop-w-preserved : goal.loop-w-preserved
loop-w-preserved g c =
    let at = c.loop-w.invariant.stands in
    let next = sym c.next_stale.ensures.next ∙ c.in-Some.is in
    let seen = c.post-in-Some.ensures.posted in record {
      stands = subst (λ (h : History). StandsAt g.K.Set.machine h c.post.new.self) (sym seen) (stands_posted _ _ _ _ _ _ at next c.word-value.ensures c.post.ensures.posted);
      posts = goes_on_post _ _ _ _ _ c.loop-w.invariant.posts seen;
    }

pub returns-clause-seen : goal.returns-clause-seen
returns-clause-seen g c =
    let at = c.loop-w.invariant.stands in
    let none : next_stale_of c.loop-w.core.standing c.loop-w.core.posted ≡ None = sym c.next_stale.ensures.next ∙ c.in_default.is in
    let settled : IsSettled g.K.Set.machine c.loop-w.writer.seen = settled_at _ _ _ at none in
    posts_are_those _ _ _ (machine_at _ _ _ at c.next_stale.ensures.arbiter) at.legal settled c.loop-w.invariant.posts
